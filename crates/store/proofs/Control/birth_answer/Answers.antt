-- The birth number lies in the header of a record that can be followed.
use Rattle.store.proofs.calls.Fields.{has_birth}
use Rattle.store.proofs.Control.birth_answer.Goals as goal

pub word-requires : goal.word-requires
word-requires c = has_birth _ _ _ _ c.in_ok-operands.ensures c.halves-halves.ensures.memory
