-- Behind the tests before them the last tests decide.
use mathlib.Core.Bool.{not}
use mathlib.Core.Path.{ap}
use borrow.Author.Tests.{not-false}
use Rattle.rules.specs.Phases.{session_at}
use Rattle.store.proofs.allocation.Tests.{fits_lent, last_decide}
use Rattle.store.proofs.Control.allocation_tests.Goals as goal

pub returns : goal.returns
unfolding session_at
returns c =
    last_decide _ _ _ _ _ c.in_ok-attached_tests.ensures c.if-register-gt-LAST_REGISTER.false (not-false _ (ap not c.if-not-shape.false))
    (c.last_tests.ensures _ _ _ (fits_lent _ _ _ _ _ c.in_ok-attached_tests.ensures))
