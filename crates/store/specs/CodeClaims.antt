-- The claims 2 to 4, two of 7 and one each of 8, 9 and 10 of the rules (`Claims.antt` there), said of the code: of the replies of its calls, and
-- of the control records and words that they leave.
use Rattle.std.specs.Prelude.{ℕ, ◌+◌, ◌≤◌, ◌<◌, ◌≡◌, ◌≢◌, ◌⊎◌, cond, length, take, drop}
use mathlib.Core.List.{List, [], ◌∷◌, ◌++◌, Memᴰ}
use Rattle.rules.specs.Refusals.{passed, Reply, answer}
use Rattle.rules.specs.Memory.{frontier, birth_number, followed}
use Rattle.rules.specs.Cycle.{at_rest, at_heap_mark, at_reclaim}
use Rattle.rules.specs.Phases.{session_at}
use Rattle.rules.specs.Runs.{Call, Allocate, Step, is_session, is_allocation, session_calls, Fed, fed_by, steps, spent_by}
use Rattle.rules.specs.Free.{new_free, free_run}
use Rattle.rules.specs.Tracking.{Beside, new_beside, beside, records_of}
use Rattle.rules.specs.Claims.{FilledFrom, Living, places_in, FreedBetween, left_in, scans_and_move, used_words, all_shares}
use Rattle.rules.specs.Answers.{Refused}
use Rattle.store.specs.CodeRuns.{Lent, lent, viewed, CodeMade, Called, CodeRun, ended, next}
use Rattle.store.specs.declared.Control.{Control}

-- the session answers among the replies of calls
abbrev pub session_replies : List Call → List Reply → List Reply
session_replies [] rs = []
session_replies (c ∷ cs) [] = []
session_replies (c ∷ cs) (r ∷ rs) = cond (is_session c) (r ∷ session_replies cs rs) (session_replies cs rs)

-- for each allocation, what its reply feeds the collector-free store
abbrev pub fed_replies : List Call → List Reply → List Fed
fed_replies [] rs = []
fed_replies (c ∷ cs) [] = []
fed_replies (c ∷ cs) (r ∷ rs) = cond (is_allocation c) (fed_by r ∷ fed_replies cs rs) (fed_replies cs rs)

-- ---- 1. Refusals keep everything
-- on any control record and any words: a refused call hands the control record back as it came, and has written no word
unfoldable pub CodeRefusalsKeep : Type 0
CodeRefusalsKeep =
    (self : Control) (h0 h1 list : List ℕ) (c : Call) (n : ℕ) (b : Lent)
    → Called self h0 h1 list c (answer (Refused n)) b → b ≡ lent self h0 h1 list

-- ---- 2. Answers
unfoldable pub CodeAnswers : Type 0
CodeAnswers =
    (a e : Lent) (cs : List Call) (rs : List Reply) → CodeMade a → CodeRun a cs rs e
    → session_replies cs rs ≡ free_run new_free (session_calls cs) (fed_replies cs rs)

-- no call that follows a run is refused with 4 or 12, collector steps included
unfoldable pub CodeNoDamage : Type 0
CodeNoDamage =
    (a e f : Lent) (cs : List Call) (rs : List Reply) (c : Call) (r : Reply) → CodeMade a → CodeRun a cs rs e
    → Called e.control e.half0 e.half1 e.list c r f
    → (r ≢ answer (Refused 4)) × (r ≢ answer (Refused 12))

-- each half's records fill words 0 up to its frontier without gaps
unfoldable pub CodeFilled : Type 0
CodeFilled =
    (a e : Lent) (cs : List Call) (rs : List Reply) → CodeMade a → CodeRun a cs rs e
    → (h : ℕ) → h < 2 → FilledFrom (viewed e).memory h 0

-- ---- 3. Two runs
-- collector steps, safe points, lengths and first words are each run's own
unfoldable pub CodeTwoRuns : Type 0
CodeTwoRuns =
    (a d b e : Lent) (cs ds : List Call) (rs qs : List Reply) → CodeMade a → CodeMade b → CodeRun a cs rs d → CodeRun b ds qs e
    → session_calls cs ≡ session_calls ds
    → (session_replies cs rs ≡ session_replies ds qs → fed_replies cs rs ≡ fed_replies ds qs)
    × (fed_replies cs rs ≡ fed_replies ds qs → session_replies cs rs ≡ session_replies ds qs)

-- ---- 4. Freed
-- what the code holds after calls from a, with the collector-free store and the places of the run beside it
abbrev pub beside_code : Lent → List Call → Lent → Beside
beside_code a cs e =
    record {
      store = viewed e;
      free = (beside (new_beside (viewed a)) cs).free;
      place = (beside (new_beside (viewed a)) cs).place;
    }

-- b is what the code holds as a step leaves phase 0, e as a later one has come back to it
unfoldable pub CodeFreed : Type 0
CodeFreed =
    (a b e : Lent) (cs ds : List Call) (rs qs : List Reply) → CodeMade a → CodeRun a cs rs b → CodeRun b (Step ∷ ds) qs e
    → b.control.cursor.phase ≡ at_rest → e.control.cursor.phase ≡ at_rest
    → FreedBetween (beside_code a cs b) (beside_code a (cs ++ (Step ∷ ds)) e) (left_in (beside_code a (cs ++ (Step ∷ ds)) e))

-- f is what the code holds after any further calls
unfoldable pub CodeStaysFreed : Type 0
CodeStaysFreed =
    (a b e f : Lent) (cs ds es : List Call) (rs qs ps : List Reply)
    → CodeMade a → CodeRun a cs rs b → CodeRun b (Step ∷ ds) qs e → CodeRun e es ps f
    → b.control.cursor.phase ≡ at_rest → e.control.cursor.phase ≡ at_rest
    → (h : ℕ) → h < 2 → (q : ℕ) → Memᴰ q (places_in (beside_code a ((cs ++ (Step ∷ ds)) ++ es) f) h)
    → Living (beside_code a cs b).free q

-- ---- 7. Marking ends
-- n collector steps of the present collection have begun in phase 4: how many after the calls, by the control record that each one gets
abbrev pub code_spent : {a e : Lent} {cs : List Call} {rs : List Reply} → ℕ → CodeRun a cs rs e → ℕ
code_spent n ended = n
code_spent n (next {a} {c = c} called rest) = code_spent (spent_by n (viewed a) c) rest

-- at every moment of every run of the code
unfoldable pub CodeMarkingEnds : Type 0
CodeMarkingEnds =
    (a e : Lent) (cs : List Call) (rs : List Reply) → CodeMade a → (calls : CodeRun a cs rs e)
    → code_spent 0 calls ≤ frontier (viewed e).memory (viewed e).current + scans_and_move

-- b is what the code holds at some moment, ds are the calls from then on, and e what they leave: on the way from b to e, after some
-- first n of them, the code holds d, whose phase isn't 4
unfoldable pub CodeMarkingIsOver : Type 0
CodeMarkingIsOver =
    (a b e : Lent) (cs ds : List Call) (rs qs : List Reply) → CodeMade a → CodeRun a cs rs b → CodeRun b ds qs e
    → b.control.length0 + scans_and_move < steps ds
    → (n : ℕ) × (n ≤ length ds) × (d : Lent) × CodeRun b (take n ds) (take n qs) d × CodeRun d (drop n ds) (drop n qs) e
    × (d.control.cursor.phase ≢ at_heap_mark)

-- ---- 8. Replicas point back
-- in every run of the code every record of the current half can be followed, and before phase 12 every record of the other half
unfoldable pub CodeRecordsFollowed : Type 0
CodeRecordsFollowed =
    (a e : Lent) (cs : List Call) (rs : List Reply) → CodeMade a → CodeRun a cs rs e
    → (h : ℕ) → h < 2 → (h ≡ e.control.cursor.current) ⊎ (e.control.cursor.phase ≢ at_reclaim)
    → (v : ℕ) → Memᴰ v (records_of (viewed e).memory h) → followed (viewed e).memory v ≡ passed tt

-- ---- 9. Birth numbers
-- in every run of the code the birth number of each record that either half holds is the place of the record that it stands for
unfoldable pub CodeBirthNumbers : Type 0
CodeBirthNumbers =
    (a e : Lent) (cs : List Call) (rs : List Reply) → CodeMade a → CodeRun a cs rs e
    → (h : ℕ) → h < 2 → (v : ℕ) → Memᴰ v (records_of (viewed e).memory h) → birth_number (viewed e).memory v ≡ (beside_code a cs e).place v

-- ---- 10. Shares
-- after each call of a run every share is what it is in x, and the phase isn't 12
abbrev pub SharesKeptIn : {a e : Lent} {cs : List Call} {rs : List Reply} → Lent → CodeRun a cs rs e → Type 0
SharesKeptIn x ended = Unit {0}
SharesKeptIn x (next {b = b} called rest) =
    ((n : ℕ) → (session_at (viewed b) n).share ≡ (session_at (viewed x) n).share) × (b.control.cursor.phase ≢ at_reclaim) × SharesKeptIn x rest

-- b is what the code holds before a step that ends Reclaim, t after it, and e after the calls ds: no allocation then answers 14
unfoldable pub CodeShareAfterReclaim : Type 0
CodeShareAfterReclaim =
    (a b t e f : Lent) (cs ds : List Call) (rs qs : List Reply) (x y : Reply) (n k r p : ℕ)
    → CodeMade a → CodeRun a cs rs b → Called b.control b.half0 b.half1 b.list Step x t
    → b.control.cursor.phase ≡ at_reclaim → t.control.cursor.phase ≡ at_rest
    → used_words (viewed t) + all_shares t.control.sessions ≤ t.control.length0
    → (calls : CodeRun t ds qs e) → SharesKeptIn t calls
    → Called e.control e.half0 e.half1 e.list (Allocate n k r p) y f → y ≢ answer (Refused 14)
