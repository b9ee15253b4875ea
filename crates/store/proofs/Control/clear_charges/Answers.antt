-- One session more has nothing charged to it.
use native.Mathlib.Omega.{arith}
use Rattle.rules.specs.Phases.{with_charge}
use Rattle.rules.specs.declared.Session.{Session}
use Rattle.store.proofs.session.Search.{changed_more}
use Rattle.store.proofs.Control.clear_charges.Goals as goal

pub loop-session-preserved : goal.loop-session-preserved
loop-session-preserved c = changed_more (λ (x : Session). with_charge x 0) _ _ _ (omega arith) c.loop-session.invariant
