-- One argument after another, until none is left.
use Rattle.workload.proofs.Arguments.{one_drawn, all_drawn}
use Rattle.workload.proofs.entries.draw_arguments.Goals as goal

pub loop-class-preserved : goal.loop-class-preserved
loop-class-preserved c =
    let e = c.write_argument-end.ensures in
    one_drawn c.loop-class.invariant _ c.loop-class-test.true c.xorshift32-next.ensures e.end e.bytes

pub returns : goal.returns
returns c = all_drawn c.loop-class.invariant c.loop-class-test.false
