-- A record that was followed is sound, so that it has its header and its reference fields.
use native.Mathlib.Omega.{arith}
use Rattle.rules.specs.Memory.{replica_at}
use Rattle.rules.proofs.memory.Followed.{can_follow}
use Rattle.heap.proofs.Lent.{has_header, has_ref}
use Rattle.heap.proofs.halves.Heap.store_writes.Goals as goal

pub word-old-requires : goal.word-old-requires
word-old-requires c = has_ref c.args.self.now.halves _ (can_follow _ _ c.requires.0).sound _ c.requires.1

pub replica_for-replica-requires : goal.replica_for-replica-requires
replica_for-replica-requires c = has_header c.args.self.now.halves _ (can_follow _ _ c.requires.0).sound replica_at (omega arith)
