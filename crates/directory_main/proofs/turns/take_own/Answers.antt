-- The words shown are some of those lent.
use Rattle.std.proofs.Common.{◌≡◌, length, take, arith}
use Rattle.directory.specs.Answers.{count_of}
use Rattle.directory_main.specs.Entries.{lent_by}
use Rattle.directory_main.specs.Turns.{words_of}
use Rattle.directory_main.proofs.Turning.{shown_words, own-turned}
use Rattle.directory_main.proofs.turns.take_own.Goals as goal

pub returns-clause-left : goal.returns-clause-left
returns-clause-left c =
    let w = c.write_line-end.ensures in
    let m = c.make_request-reply in
    let a = c.args in
    let ws = m.new.lent in
    let k = c.count-count.result in
    let all : length ws ≡ lent_by a.request = omega (arith, m.auto, c.requires.2) in
    let shown : take c.min-shown.result ws ≡ take k (words_of a.request ws) = rw c.min-shown.ensures (shown_words a.request k ws all) in
    let counted : k ≡ count_of m.result.answer = c.count-count.ensures in
    own-turned _ a.turn.number a.out.now a.turn.end a.request a.lent.now m.result a.turn _ _ _ _ _ _ _ m.ensures (rw counted at shown) (rw (counted, c.number.ensures) at w.end) (rw (counted, c.number.ensures) at w.text)
