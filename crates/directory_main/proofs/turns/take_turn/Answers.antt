-- As many words are lent as the request asks for, all 0; any other entry is done by the script.
use Rattle.std.proofs.Common.{◌≡◌, ℕ, List, take, sym, ap, ◌∙◌}
use Rattle.std.specs.Prelude.{replicate}
use Rattle.directory_main.proofs.Turning.{take_zeros, own-entry, other_entry}
use Rattle.directory_main.proofs.turns.take_turn.Goals as goal

pub returns-in-Some-clause-left : goal.returns-in-Some-clause-left
returns-in-Some-clause-left c =
    let a = c.args in
    let n = c.lent_by.result in
    let zeros : take n (replicate {A = ℕ} 255 0) ≡ replicate n 0 = take_zeros n 255 c.lent_by.ensures.small in
    let own = sym c.read_entry.ensures ∙ c.in-Some.is in
    own-entry _ a.turn.number a.out.now a.turn.end a.bytes.now _ _ own (zeros ∙ ap {B = List ℕ} (λ k. replicate k 0) c.lent_by.ensures.count) c.take_own.ensures.left

pub returns-in-None-clause-left : goal.returns-in-None-clause-left
returns-in-None-clause-left c =
    let a = c.args in
    let other = sym c.read_entry.ensures ∙ c.in-None.is in
    other_entry _ a.turn.number a.out.now a.turn.end a.bytes.now c.take_turns.result _ _ _ _ other c.take_turns.ensures.left
