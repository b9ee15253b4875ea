-- Making: the fresh record with the lengths, or with 0 for each where a test failed.
use Rattle.store.proofs.tests.Making.{unmade, made}
use Rattle.store.proofs.Control.make.Goals as goal

pub returns-in-Ok : goal.returns-in-Ok
returns-in-Ok c = made _ _ _ c.in-Ok.ensures (c.fresh.ensures _ _ _)

pub returns-in-Err : goal.returns-in-Err
returns-in-Err c = unmade _ _ _ c.in-Err.ensures (c.fresh-in-Err.ensures _ _ _)
