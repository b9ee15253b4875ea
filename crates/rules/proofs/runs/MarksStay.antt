-- Of claim 7: in HeapMark a scanned mark stays, and a newly attached session has one.
use mathlib.Core.Path.{◌≡◌, ap, ◌∙◌}
use lib.ListN.{length}
use borrow.Author.Tests.{eq-eqb}
use Rattle.rules.specs.Cycle.{at_heap_mark}
use Rattle.rules.specs.Control.{session_count}
use Rattle.rules.specs.Runs.{after}
use Rattle.rules.specs.Tracking.{new_beside}
use Rattle.rules.specs.Claims.{MarksStay, AttachedScanned}
use Rattle.rules.proofs.relation.Rules.{call_stays}
use Rattle.rules.proofs.sessions.Given.{attached-session}
use Rattle.rules.proofs.runs.Runs.{beside-store}
use Rattle.rules.proofs.runs.Claims.{holds}

pub marks_stay : MarksStay
unfolding MarksStay
marks_stay s c n a b = (call_stays s c).marks a b n

pub attached-scanned : AttachedScanned
unfolding AttachedScanned
attached-scanned s made cs n share e d =
    let sixteen : length (after s cs).sessions ≡ session_count = rw (← beside-store (new_beside s) cs) (holds s made cs).roots.sessions in
    ap (λ x. x.scanned) (attached-session (after s cs) n share sixteen d) ∙ eq-eqb _ at_heap_mark e
