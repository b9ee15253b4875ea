-- Entry by entry, while one is left and the longest has room.
use Rattle.std.proofs.Common.{◌≡◌, ◌-◌, arith}
use Rattle.workload.proofs.Filling.{begun, one_more, no_more, nothing_in}
use Rattle.workload.proofs.pieces.fill.Goals as goal

pub returns-in_default-clause-filled : goal.returns-in_default-clause-filled
returns-in_default-clause-filled c = nothing_in c.args.rest c.args.out.now (omega (arith, c.in_default.ensures))

pub loop-written-init : goal.loop-written-init
loop-written-init c =
    let e = c.write_version.ensures in
    begun c.args.rest c.args.out.now (omega (arith, c.in-Some.ensures)) (omega arith) e.end e.bytes

pub loop-written-preserved : goal.loop-written-preserved
loop-written-preserved c = one_more c.loop-written.invariant (omega arith) c.if-last-after.false (omega arith) c.write_entry-after.ensures

pub returns-then-last-after-clause-filled : goal.returns-then-last-after-clause-filled
returns-then-last-after-clause-filled c = no_more c.loop-written.invariant (λ some. c.if-last-after.true) c.piece_to.ensures

pub returns-clause-filled : goal.returns-clause-filled
returns-clause-filled c =
    let none : c.args.rest.left - c.loop-written.written ≡ 0 = omega arith in
    no_more (rw none at c.loop-written.invariant) (λ some. absurd (omega arith)) c.piece_to-2.ensures
