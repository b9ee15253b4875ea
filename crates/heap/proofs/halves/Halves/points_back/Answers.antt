-- The shape word of v lies in the header of a sound record.
use native.Mathlib.Omega.{arith}
use Rattle.rules.specs.Memory.{shape_at}
use Rattle.heap.proofs.Lent.{has_header}
use Rattle.heap.proofs.halves.Halves.points_back.Goals as goal

pub word-shape-requires : goal.word-shape-requires
word-shape-requires c = has_header c.args.self.now _ c.requires.0 shape_at (omega arith)
