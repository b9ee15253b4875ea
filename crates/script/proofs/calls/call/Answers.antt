-- A write leaves the control record as it came.
use Rattle.script.proofs.Keeping.{write_kept}
use Rattle.script.proofs.calls.call.Goals as goal

pub returns-in-Write : goal.returns-in-Write
returns-in-Write c = rw c.in-Write.is (write_kept _ _ _ _ _ _ _ _ _ c.write.ensures)
