-- The words that the plan writes are words of their halves.
use Rattle.store.proofs.calls.Write.{targets_inside}
use Rattle.store.proofs.Control.write.Goals as goal

pub put_both-requires : goal.put_both-requires
put_both-requires c = targets_inside _ _ _ _ c.in-Ok.ensures
