-- Invariant: the words taken so far, before those that are left to take from here, are all that were to be taken.
use Rattle.std.proofs.Common.{arith}
use Rattle.directory.proofs.acts.Taking.{taken_word}
use Rattle.directory.proofs.lists.taking.Goals as goal

pub loop-slot-preserved : goal.loop-slot-preserved
loop-slot-preserved c = taken_word _ _ _ _ _ _ c.loop-slot.invariant (omega arith) (rw c.in_ok-slot.ensures.ok_part at c.in_ok-passing.ensures)
