-- The end of the input, a cut entry, or a body that is decoded.
use Rattle.std.proofs.Common.{◌≡◌, ◌+◌, get_or, arith, sym}
use Rattle.rules.specs.Script.{call_then, entry_at}
use Rattle.script.specs.Commands.{tested}
use Rattle.script.proofs.Bodies.{past_end, whole, cut, found_err}
use Rattle.script.proofs.entries.parse.Goals as goal
use Rattle.script.proofs.entries.parse.Goals.{After-decode}

pub returns-in_default : goal.returns-in_default
returns-in_default c = sym (past_end _ _ (omega (arith, c.in_default.ensures.lookup)))

pub returns-in_default-get : goal.returns-in_default-get
returns-in_default-get c =
    let here = c.in-Some.ensures.lookup in
    sym (cut c.args.bytes.now c.args.at here.3.0 (omega (arith, here.3.1 0, c.in_default-get.ensures.lookup)))

-- the entry is whole, and its body was decoded
decoded : (c : After-decode) → entry_at c.args.bytes.now c.args.at ≡ call_then (tested c.decode.result) (c.args.at + 1 + c.in-Some.field-0.now)
decoded c =
    let a = c.args in
    let here = c.in-Some.ensures.lookup in
    let there = c.in-Some-get.ensures.lookup in
    let size : c.in-Some.field-0.now ≡ get_or a.bytes.now a.at 0 = here.3.1 0 in
    rw (c.decode.ensures, there.0.2, size) (whole a.bytes.now a.at here.3.0 (omega arith))

pub returns-in_err-decode : goal.returns-in_err-decode
returns-in_err-decode c = rw (decoded (goal.at.returns-in_err-decode c).After-decode, c.in_err-decode.was, found_err _ c.from_residual.ensures.0)

pub returns : goal.returns
returns c = sym (rw (decoded (goal.at.returns c).After-decode, c.in_ok-decode.was))
