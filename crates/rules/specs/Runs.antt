-- Runs: the calls of point 3, what one of them does to a store, and a list of them from a newly made store; and how many collector steps of
-- a collection begin in phase 4.
use Rattle.std.specs.Prelude.{ℕ, suc, Bool, true, false, cond, List, [], ◌∷◌, eqb}
use Rattle.rules.specs.Refusals.{Outcome, Reply, answer, words, settle, words_or, done_or}
use Rattle.rules.specs.Cycle.{at_rest, at_heap_mark}
use Rattle.rules.specs.Control.{Store}
use Rattle.rules.specs.Calls as calls
use Rattle.rules.specs.Collector as collector
use Rattle.rules.specs.declared.Link.{Link}
use Rattle.rules.specs.Answers.{Refused, Done, Word, Same, Phase}

-- the calls, with their arguments in the script's order; the store of several links, the stretch, its companion and the birth number are in no
-- script, and an attach's share is the same in all of them (`script_share`)
pub data Call : Type 0 where
  Attach : ℕ → ℕ → Call
  Detach : ℕ → Call
  SafePoint : ℕ → Call
  Allocate : ℕ → ℕ → ℕ → ℕ → Call
  Load : ℕ → ℕ → ℕ → ℕ → Call
  StoreRef : ℕ → ℕ → ℕ → ℕ → Call
  StoreLinks : ℕ → ℕ → ℕ → List Link → Call
  Read : ℕ → ℕ → ℕ → Call
  Write : ℕ → ℕ → ℕ → ℕ → Call
  Move : ℕ → ℕ → ℕ → Call
  Clear : ℕ → ℕ → Call
  SameAs : ℕ → ℕ → ℕ → Call
  Get : ℕ → ℕ → ℕ → Call
  Put : ℕ → ℕ → ℕ → Call
  Stretch : ℕ → ℕ → Call
  Companion : ℕ → ℕ → Call
  Birth : ℕ → ℕ → Call
  Step : Call

-- what a call leaves
abbrev pub apply : Store → Call → Outcome Store
apply s (Attach n share) = settle s (calls.attach s n share)
apply s (Detach n) = settle s (calls.detach s n)
apply s (SafePoint n) = settle s (calls.safe_point s n)
apply s (Allocate n k r p) = settle s (calls.allocate s n k r p)
apply s (Load n to k i) = settle s (calls.load s n to k i)
apply s (StoreRef n k i from) = settle s (calls.store s n k i from)
apply s (StoreLinks n k count xs) = settle s (calls.store_links s n k count xs)
apply s (Read n k i) = settle s (calls.read s n k i)
apply s (Write n k i a) = settle s (calls.write s n k i a)
apply s (Move n to from) = settle s (calls.move s n to from)
apply s (Clear n k) = settle s (calls.clear s n k)
apply s (SameAs n a b) = settle s (calls.same s n a b)
apply s (Get n to g) = settle s (calls.get s n to g)
apply s (Put n g from) = settle s (calls.put s n g from)
apply s (Stretch n k) = record { store = s; reply = words (words_or (calls.stretch s n k)) }
apply s (Companion n k) = record { store = s; reply = answer (done_or (calls.stretch s n k)) }
apply s (Birth n k) = settle s (calls.birth s n k)
apply s Step = settle s (collector.step s)

-- "Each call gets the control record last handed back, and halves and list as they were left": the replies in order
abbrev pub run : Store → List Call → List Reply
run s [] = []
run s (c ∷ cs) = (apply s c).reply ∷ run (apply s c).store cs

-- the store that a list of calls leaves
abbrev pub after : Store → List Call → Store
after s [] = s
after s (c ∷ cs) = after (apply s c).store cs

-- ---- session answers

-- "Session answers are those of all calls but safe point and collector step"
abbrev pub is_session : Call → Bool
is_session (Attach n share) = true
is_session (Detach n) = true
is_session (SafePoint n) = false
is_session (Allocate n k r p) = true
is_session (Load n to k i) = true
is_session (StoreRef n k i from) = true
is_session (StoreLinks n k count xs) = true
is_session (Read n k i) = true
is_session (Write n k i a) = true
is_session (Move n to from) = true
is_session (Clear n k) = true
is_session (SameAs n a b) = true
is_session (Get n to g) = true
is_session (Put n g from) = true
is_session (Stretch n k) = true
is_session (Companion n k) = true
is_session (Birth n k) = true
is_session Step = false

abbrev pub is_allocation : Call → Bool
is_allocation (Attach n share) = false
is_allocation (Detach n) = false
is_allocation (SafePoint n) = false
is_allocation (Allocate n k r p) = true
is_allocation (Load n to k i) = false
is_allocation (StoreRef n k i from) = false
is_allocation (StoreLinks n k count xs) = false
is_allocation (Read n k i) = false
is_allocation (Write n k i a) = false
is_allocation (Move n to from) = false
is_allocation (Clear n k) = false
is_allocation (SameAs n a b) = false
is_allocation (Get n to g) = false
is_allocation (Put n g from) = false
is_allocation (Stretch n k) = false
is_allocation (Companion n k) = false
is_allocation (Birth n k) = false
is_allocation Step = false

abbrev pub session_calls : List Call → List Call
session_calls [] = []
session_calls (c ∷ cs) = cond (is_session c) (c ∷ session_calls cs) (session_calls cs)

-- the session answers of a run
abbrev pub session_run : Store → List Call → List Reply
session_run s [] = []
session_run s (c ∷ cs) =
    cond (is_session c) ((apply s c).reply ∷ session_run (apply s c).store cs) (session_run (apply s c).store cs)

-- what the collector-free store is fed for an allocation: whether the run answered it with 14 or, by request [7], with 17. Nothing is fed for
-- 16, which it tests itself
pub data Fed : Type 0 where
  fitted : Fed
  over_share : Fed
  no_room : Fed

abbrev pub fed_by : Reply → Fed
fed_by (answer (Refused n)) = cond (eqb n 17) over_share (cond (eqb n 14) no_room fitted)
fed_by (answer Done) = fitted
fed_by (answer (Word w)) = fitted
fed_by (answer (Same b)) = fitted
fed_by (answer (Phase p)) = fitted
fed_by (words ws) = fitted

-- for each allocation of a run, what is fed
abbrev pub feeds : Store → List Call → List Fed
feeds s [] = []
feeds s (c ∷ cs) =
    cond (is_allocation c) (fed_by (apply s c).reply ∷ feeds (apply s c).store cs) (feeds (apply s c).store cs)

-- ---- collector steps

abbrev pub is_step : Call → Bool
is_step (Attach n share) = false
is_step (Detach n) = false
is_step (SafePoint n) = false
is_step (Allocate n k r p) = false
is_step (Load n to k i) = false
is_step (StoreRef n k i from) = false
is_step (StoreLinks n k count xs) = false
is_step (Read n k i) = false
is_step (Write n k i a) = false
is_step (Move n to from) = false
is_step (Clear n k) = false
is_step (SameAs n a b) = false
is_step (Get n to g) = false
is_step (Put n g from) = false
is_step (Stretch n k) = false
is_step (Companion n k) = false
is_step (Birth n k) = false
is_step Step = true

-- how many of the calls are collector steps
abbrev pub steps : List Call → ℕ
steps [] = 0
steps (c ∷ cs) = cond (is_step c) (suc (steps cs)) (steps cs)

-- n collector steps of the present collection have begun in phase 4, HeapMark: how many after one call more. A collection begins with
-- the step that leaves phase 0.
abbrev pub spent_by : ℕ → Store → Call → ℕ
spent_by n s c = cond (is_step c) (cond (eqb s.phase at_rest) 0 (cond (eqb s.phase at_heap_mark) (suc n) n)) n

-- the same after a list of calls
abbrev pub spent : ℕ → Store → List Call → ℕ
spent n s [] = n
spent n s (c ∷ cs) = spent (spent_by n s c) (apply s c).store cs
