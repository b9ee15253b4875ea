-- The colour word lies in the header of a record that was followed.
use native.Mathlib.Omega.{arith}
use Rattle.rules.specs.Memory.{colour_at}
use Rattle.heap.proofs.Lent.{found_header}
use Rattle.heap.proofs.halves.Halves.to_shade.Goals as goal

pub if_white-requires : goal.if_white-requires
if_white-requires c = λ n. found_header c.args.self.now _ c.follow.ensures c.in-Sound.is colour_at (omega arith)
