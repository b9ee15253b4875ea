-- A call, the end of the input, or an entry that is 15, by what stands at the place.
use Rattle.std.proofs.Common.{◌≡◌, List, [], ℕ, true, sym, arith}
use Rattle.script.specs.Turns.{turned, goes_on}
use Rattle.script.proofs.Turning.{is_on, bad_taken, call_found}
use Rattle.script.proofs.turns.Turn.next_call.Goals as goal
use Rattle.script.proofs.turns.Turn.next_call.Goals.{After-parse}

on : (c : After-parse) (h0 h1 l : List ℕ) → goes_on c.args.stop (turned c.args.self.now h0 h1 l c.args.out.now) ≡ true
on c h0 h1 l = sym (c.if-not-goes_on.ensures h0 h1 l)

pub write_line-self-requires : goal.write_line-self-requires
write_line-self-requires c = (is_on _ _ (on (goal.at.write_line-self-requires c).After-parse [] [] [])).room

pub returns-in-Ok-clause-next : goal.returns-in-Ok-clause-next
returns-in-Ok-clause-next c =
    let a = c.args in
    rw c.is_some-self.ensures (call_found a.stop a.input.now a.self.now a.out.now (on (goal.at.returns-in-Ok-clause-next c).After-parse) c.in-Ok.found c.in-Ok.ensures)

pub returns-in-Err-clause-next : goal.returns-in-Err-clause-next
returns-in-Err-clause-next c =
    let a = c.args in
    let w = c.write_line-self.ensures in
    bad_taken a.stop a.input.now a.self.now a.out.now (on (goal.at.returns-in-Err-clause-next c).After-parse) (sym c.in-Err.ensures) w.end w.text

pub returns-in-Err-clause-within : goal.returns-in-Err-clause-within
returns-in-Err-clause-within c =
    let on = is_on _ _ (on (goal.at.returns-in-Err-clause-within c).After-parse [] [] []) in
    λ within. omega (arith, on.room)
