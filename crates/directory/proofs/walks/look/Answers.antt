-- By what the store answers to the read.
use Rattle.std.proofs.Common.{rules}
use Rattle.directory.proofs.acts.Looking.{saw_word, saw_other, saw_end, saw_refusal}
use Rattle.directory.proofs.walks.look.Goals as goal

pub returns-in-Ok-Word : goal.returns-in-Ok-Word
returns-in-Ok-Word c = saw_word _ _ _ _ _ _ c.read-reply.ensures _ _ c.in-Ok-Word.is (rw c.in-Ok-Word.is at c.in-Ok-Word.field-0-is)

pub returns-in-Ok : goal.returns-in-Ok
returns-in-Ok c = saw_other _ _ _ _ _ _ c.read-reply.ensures _ c.in-Ok.is (search rules)

pub returns-in-Err-NullRegister : goal.returns-in-Err-NullRegister
returns-in-Err-NullRegister c = saw_end _ _ _ _ _ _ c.read-reply.ensures _ c.in-Err-NullRegister.is (rw c.in-Err-NullRegister.is at c.in-Err-NullRegister.field-0-is)

pub returns-in-Err : goal.returns-in-Err
returns-in-Err c = saw_refusal _ _ _ _ _ _ c.read-reply.ensures _ c.in-Err.is (search rules)
