-- The replica word lies in the header of a sound record.
use native.Mathlib.Omega.{arith}
use Rattle.rules.specs.Memory.{replica_at}
use Rattle.heap.proofs.Lent.{sound_header}
use Rattle.heap.proofs.halves.Halves.follow.Goals as goal

pub word-w-requires : goal.word-w-requires
word-w-requires c = sound_header c.args.self.now _ c.sound_at.ensures c.in-Sound.is replica_at (omega arith)
