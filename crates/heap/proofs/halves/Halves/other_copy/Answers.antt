-- The replica word lies in the header of a record that was followed.
use native.Mathlib.Omega.{arith}
use Rattle.rules.specs.Memory.{replica_at}
use Rattle.heap.proofs.Lent.{found_header}
use Rattle.heap.proofs.halves.Halves.other_copy.Goals as goal

pub word-t-requires : goal.word-t-requires
word-t-requires c = found_header c.args.self.now _ c.follow.ensures c.in-Sound.is replica_at (omega arith)
