-- Invariant: what goes into the buffer from here on makes up what goes in in all.
use Rattle.std.proofs.Common.{◌-◌}
use Rattle.workload.proofs.Filling.{Going}
use Rattle.workload.proofs.pieces.fill.Given as goal

abbrev pub invariant-loop-written : goal.invariant-loop-written
invariant-loop-written l = Going l.rest l.fn.out l.last (l.rest.left - l.written) l.after.next l.out l.after.end
