-- One session more has no mark.
use native.Mathlib.Omega.{arith}
use mathlib.Core.Bool.{false}
use Rattle.rules.specs.Phases.{with_mark}
use Rattle.rules.specs.declared.Session.{Session}
use Rattle.store.proofs.session.Search.{changed_more}
use Rattle.store.proofs.Control.clear_marks.Goals as goal

pub loop-session-preserved : goal.loop-session-preserved
loop-session-preserved c = changed_more (λ (x : Session). with_mark x false) _ _ _ (omega arith) c.loop-session.invariant
