-- The replica word lies in the header of a record that was followed.
use native.Mathlib.Omega.{arith}
use Rattle.rules.specs.Memory.{replica_at}
use Rattle.heap.proofs.Lent.{found_header}
use Rattle.store.proofs.Control.write_plan.Goals as goal

pub replica_for-replica-requires : goal.replica_for-replica-requires
replica_for-replica-requires c = found_header c.halves-halves.result _ c.follow.ensures c.in-Sound.is replica_at (omega arith)
