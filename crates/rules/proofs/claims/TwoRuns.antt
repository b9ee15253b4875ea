-- Claim 3 from claim 2: two runs with the same session calls agree exactly when the same allocations met no room.
-- What the collector-free store is fed is read off the answers of the allocations, which are session calls; and by claim 2 its
-- calls and what it is fed decide the answers.
use mathlib.Core.Path.{◌≡◌, refl}
use mathlib.Core.Bool.{Bool, true, false, cond}
use mathlib.Core.List.{List, [], ◌∷◌}
use Rattle.rules.specs.Refusals.{Reply}
use Rattle.rules.specs.Control.{Store}
use Rattle.rules.specs.Runs.{Call, apply, is_session, is_allocation, session_calls, session_run, Fed, fed_by, feeds}
use Rattle.rules.specs.Claims.{Answers, TwoRuns}
use Rattle.rules.proofs.relation.Kinds.{kind, allocation_is_session}

-- ---- what is fed, read off the session answers

abbrev feeds_of : List Call → List Reply → List Fed
feeds_of [] rs = []
feeds_of (c ∷ cs) [] = []
feeds_of (c ∷ cs) (r ∷ rs) = cond (is_allocation c) (fed_by r ∷ feeds_of cs rs) (feeds_of cs rs)

-- one call of the run, with reply r; session says whether it is a session call
feeds-call : (c : Call) (r : Reply) (session : Bool) → (session ≡ false → is_allocation c ≡ false)
    → (fs : List Fed) (cs : List Call) (rs : List Reply) → fs ≡ feeds_of cs rs
    → cond (is_allocation c) (fed_by r ∷ fs) fs ≡ feeds_of (cond session (c ∷ cs) cs) (cond session (r ∷ rs) rs)
feeds-call c r true known fs cs rs e = rw e refl
feeds-call c r false known fs cs rs e = rw (known refl) e

feeds_answers : (s : Store) (cs : List Call) → feeds s cs ≡ feeds_of (session_calls cs) (session_run s cs)
feeds_answers s [] = refl
feeds_answers s (c ∷ cs) =
    feeds-call c (apply s c).reply (is_session c) (allocation_is_session (kind c)) (feeds (apply s c).store cs)
    (session_calls cs) (session_run (apply s c).store cs) (feeds_answers (apply s c).store cs)

-- ---- the claim

pub two_runs : Answers → TwoRuns
unfolding Answers TwoRuns
two_runs answers s t s_made t_made cs ds same = (
  λ agree. rw (feeds_answers s cs, feeds_answers t ds, same, agree) refl,
  λ fed. rw (answers s s_made cs, answers t t_made ds, same, fed) refl,
)
