-- The claims about the rules. Together with the contracts of the code they say points 1, 2 and 3, and requests [3] and [5] to [8].
use Rattle.std.specs.Prelude.{ℕ, suc, ◌+◌, ◌-◌, ◌≤◌, ◌<◌, ◌≡◌, ◌≢◌, ◌⊎◌, true, false, cond, get_or, length, take}
use mathlib.Core.List.{List, [], ◌∷◌, map, Memᴰ}
use Rattle.rules.specs.Refusals.{refused, passed, Reply, answer, is_refusal, done_or}
use Rattle.rules.specs.Memory.{Memory, frontier, null, reference, half_of, shape_at, word, replica, birth_number, refs, plains, size_of, size, sound, followed}
use Rattle.rules.specs.Cycle.{at_rest, at_heap_mark, at_reclaim}
use Rattle.rules.specs.Control.{Store, make, in_range, session_count}
use Rattle.rules.specs.Phases.{other_half, session_at}
use Rattle.rules.specs.Barriers.{allocation_room}
use Rattle.rules.specs.Calls.{session_of}
use Rattle.rules.specs.Runs.{Call, Attach, SafePoint, Allocate, StoreRef, StoreLinks, Step, apply, run, after, is_session, is_allocation, session_calls, session_run, fed_by, feeds, steps, spent}
use Rattle.rules.specs.Free.{Free, new_free, free_session, free_register, free_session_of, free_apply, free_run}
use Rattle.rules.specs.Tracking.{Beside, new_beside, beside, Reached, records_of, words_at}
use Rattle.rules.specs.Examples.{Computed, starred}
use Rattle.rules.specs.Limits.{limits}
use Rattle.rules.specs.declared.Session.{Session}
use Rattle.rules.specs.declared.Link.{Link}
use Rattle.rules.specs.Answers.{Refused, Done}

-- a store from a making that wasn't refused, "whatever words halves and list then hold"
pub record Made (s : Store) : Type 0 where
  pub half0 : List ℕ
  pub half1 : List ℕ
  pub list : List ℕ
  pub accepted : (make half0 half1 list).reply ≡ answer Done
  pub fresh : (make half0 half1 list).store ≡ s

-- ---- 1. Refusals keep everything
-- Point 1: "a refused call has written nothing and hands the control record back as it came". For every store and every call.
unfoldable pub RefusalsKeep : Type 0
RefusalsKeep = (s : Store) (c : Call) (n : ℕ) → (apply s c).reply ≡ answer (Refused n) → (apply s c).store ≡ s

-- ---- 2. Answers
-- Point 3: "In every run, any list of calls with any arguments from a newly made store, every session answer is the one a
-- collector-free store gives".
unfoldable pub Answers : Type 0
Answers = (s : Store) → Made s → (cs : List Call) → session_run s cs ≡ free_run new_free (session_calls cs) (feeds s cs)

-- "It has no 4 and no 12": no call of a run is refused with them, collector steps included
unfoldable pub NoDamage : Type 0
NoDamage =
    (s : Store) → Made s → (cs : List Call) (c : Call)
    → ((apply (after s cs) c).reply ≢ answer (Refused 4)) × ((apply (after s cs) c).reply ≢ answer (Refused 12))

-- every number that the control record holds stays in its range
unfoldable pub StaysInRange : Type 0
StaysInRange = (s : Store) → Made s → (cs : List Call) → in_range (after s cs) ≡ true

-- more than that: on every store, of a run or not, no call takes a number out of its range, nor the lent lengths from those at making. So whoever
-- makes calls one after another needs test 4 once.
unfoldable pub RangeKept : Type 0
RangeKept = (s : Store) (c : Call) → in_range s ≡ true → in_range (apply s c).store ≡ true

-- the records of half h from word k on: each is sound, the next begins where it ends, and the last ends at the frontier
pub data FilledFrom (M : Memory) (h : ℕ) : ℕ → Type 0 where
  at_frontier : FilledFrom M h (frontier M h)
  at_record : (k : ℕ) → sound M (reference h k) ≡ true → FilledFrom M h (k + size M (reference h k)) → FilledFrom M h k

-- Memory and references: "Each half has a frontier: records fill words 0 up to it without gaps". In every run, of both halves.
unfoldable pub Filled : Type 0
Filled = (s : Store) → Made s → (cs : List Call) (h : ℕ) → h < 2 → FilledFrom (after s cs).memory h 0

-- ---- 3. Two runs
-- Point 3: "two runs with the same calls agree exactly when the same allocations met no room". The calls are the session calls;
-- collector steps, safe points, lengths and first words are each run's own. Request [7]: "Equality of runs takes share refusals beside those for
-- room, number for number": what is fed says of each allocation which of the two it was, if any.
unfoldable pub TwoRuns : Type 0
TwoRuns =
    (s t : Store) → Made s → Made t → (cs ds : List Call) → session_calls cs ≡ session_calls ds
    → (session_run s cs ≡ session_run t ds → feeds s cs ≡ feeds t ds) × (feeds s cs ≡ feeds t ds → session_run s cs ≡ session_run t ds)

-- ---- 4. Freed
-- the places that a collection may keep: reached when it began, with the collector-free store f, or allocated since
abbrev pub Living : Free → ℕ → Type 0
Living f q = Reached f q ⊎ length f.records < q

-- the places of the records that half h holds
abbrev pub places_in : Beside → ℕ → List ℕ
places_in e h = map e.place (records_of e.store.memory h)

-- Point 2: "what was unreachable when a collection began takes up no word when it has ended". b is the run as a step leaves
-- phase 0, e as a later one has come back to it; left are the places of the records that the current half then holds.
pub record FreedBetween (b e : Beside) (left : List ℕ) : Type 0 where
  -- each was reached when the collection began, or has been allocated since
  pub kept : (q : ℕ) → Memᴰ q left → Living b.free q
  -- each is there once
  pub once : (i j : ℕ) → i < length left → j < length left → get_or left i 0 ≡ get_or left j 0 → i ≡ j
  -- the current half's used words are exactly theirs, and the other half has none
  pub used : frontier e.store.memory e.store.current ≡ words_at e.free left
  pub emptied : frontier e.store.memory (other_half e.store.current) ≡ 0

abbrev pub left_in : Beside → List ℕ
left_in e = places_in e e.store.current

unfoldable pub Freed : Type 0
Freed =
    (s : Store) → Made s → (cs ds : List Call)
    → (after s cs).phase ≡ at_rest → (after (after s cs) (Step ∷ ds)).phase ≡ at_rest
    → FreedBetween (beside (new_beside s) cs) (beside (beside (new_beside s) cs) (Step ∷ ds))
    (left_in (beside (beside (new_beside s) cs) (Step ∷ ds)))

-- "takes up no word when it has ended", and no word ever after: after any further calls es, each record that either half holds was
-- reached when that collection began, or has been allocated since
unfoldable pub StaysFreed : Type 0
StaysFreed =
    (s : Store) → Made s → (cs ds : List Call)
    → (after s cs).phase ≡ 0 → (after (after s cs) (Step ∷ ds)).phase ≡ 0
    → (es : List Call) (h : ℕ) → h < 2
    → (q : ℕ) → Memᴰ q (places_in (beside (beside (beside (new_beside s) cs) (Step ∷ ds)) es) h)
    → Living (beside (new_beside s) cs).free q

-- ---- 5. Starred examples
-- "The starred examples are proved of the rules as one table with one theorem"
unfoldable pub Starred : Type 0
Starred = Computed starred

-- the numbers and orders that the papers name: one table with one theorem too
unfoldable pub Limits : Type 0
Limits = Computed limits

-- ---- 6. For crates above
-- What code that makes store calls of its own may go by: the collector-free store after the same calls, in place of the store.
abbrev pub free_after : Store → List Call → Free
free_after s cs = (beside (new_beside s) cs).free

-- claim 2 for one call: a session call is answered as the collector-free store answers it then
unfoldable pub NextAnswer : Type 0
NextAnswer =
    (s : Store) → Made s → (cs : List Call) (c : Call) → is_session c ≡ true
    → (apply (after s cs) c).reply ≡ (free_apply (free_after s cs) c (fed_by (apply (after s cs) c).reply)).reply

-- a safe point, which is no session call, is refused only for a number above 15 and a session that isn't attached there
unfoldable pub SafePointAnswer : Type 0
SafePointAnswer =
    (s : Store) → Made s → (cs : List Call) (n : ℕ)
    → (apply (after s cs) (SafePoint n)).reply ≡ answer (done_or (free_session_of (free_after s cs) n))

-- different records that registers and globals reach take up no more words than a half has: so a walk from record to record that never
-- meets one twice ends within a half's length
unfoldable pub LiveFits : Type 0
LiveFits =
    (s : Store) → Made s → (cs : List Call) (qs : List ℕ)
    → ((q : ℕ) → Memᴰ q qs → Reached (free_after s cs) q)
    → ((i j : ℕ) → i < length qs → j < length qs → get_or qs i 0 ≡ get_or qs j 0 → i ≡ j)
    → words_at (free_after s cs) qs ≤ (after s cs).lengths.half0

-- the numbers that only an allocation is refused with: no room, no birth number left, and past the share
abbrev pub allocation_numbers : List ℕ
allocation_numbers = 14 ∷ 16 ∷ 17 ∷ []

-- the numbers that a call may be refused with; 1 to 3 are of making
abbrev pub store_numbers : List ℕ
store_numbers = 4 ∷ 5 ∷ 6 ∷ 7 ∷ 8 ∷ 9 ∷ 10 ∷ 11 ∷ 12 ∷ 13 ∷ allocation_numbers

-- no call of any store is refused with another number, and only an allocation with 14, 16 or 17: a number that a crate above gives meaning to
-- comes from no store call
unfoldable pub Numbers : Type 0
Numbers =
    (s : Store) (c : Call) (n : ℕ) → (apply s c).reply ≡ answer (Refused n)
    → Memᴰ n store_numbers × (Memᴰ n allocation_numbers → is_allocation c ≡ true)

-- a register of the store is null where that of the collector-free store is: so what is said of empty registers there holds of the words here
unfoldable pub NullRegisters : Type 0
NullRegisters =
    (s : Store) → Made s → (cs : List Call) (n k : ℕ)
    → free_register (free_session (free_after s cs) n) k ≡ null → get_or (session_at (after s cs) n).registers k null ≡ null

-- ---- 7. Marking ends
-- "plus 17": a scan of each of the sixteen sessions, and the step that moves on
abbrev pub scans_and_move : ℕ
scans_and_move = session_count + 1

-- Request [3]: "a collection then spends in phase 4 at most the current half's used words at its end, plus 17 collector steps". At every
-- moment of every run: while phase 4 lasts, the steps so far and the words used then; when it has ended; and when the collection has.
unfoldable pub MarkingEnds : Type 0
MarkingEnds =
    (s : Store) → Made s → (cs : List Call) → spent 0 s cs ≤ frontier (after s cs).memory (after s cs).current + scans_and_move

-- sharper, up to the step that makes tospace current: a step for each reference field and one for each record of the current half, and 17.
-- A record has three words and more beyond that.
abbrev pub steps_on : Memory → List ℕ → ℕ
steps_on M [] = 0
steps_on M (v ∷ vs) = refs M v + 1 + steps_on M vs

unfoldable pub MarkingSteps : Type 0
MarkingSteps =
    (s : Store) → Made s → (cs : List Call) → (after s cs).phase ≢ at_rest → (after s cs).phase ≢ at_reclaim
    → spent 0 s cs ≤ steps_on (after s cs).memory (records_of (after s cs).memory (after s cs).current) + scans_and_move

-- "Marking must come to an end": from every moment of every run on, if the calls ds hold more collector steps than a half's length plus
-- 17, then after some first n of them the phase isn't 4
unfoldable pub MarkingIsOver : Type 0
MarkingIsOver =
    (s : Store) → Made s → (cs ds : List Call) → (after s cs).lengths.half0 + scans_and_move < steps ds
    → (n : ℕ) × (n ≤ length ds) × ((after (after s cs) (take n ds)).phase ≢ at_heap_mark)

-- "each other session is scanned once": a scan is of a session without a mark, phase 4 is left only where no attached session is without
-- one (`heap_mark`), a scan sets the mark (`scan_session`), and while phase 4 lasts no call takes a mark away. For every store and every call
unfoldable pub MarksStay : Type 0
MarksStay =
    (s : Store) (c : Call) (n : ℕ) → s.phase ≡ at_heap_mark → (apply s c).store.phase ≡ at_heap_mark
    → (session_at s n).scanned ≡ true → (session_at (apply s c).store n).scanned ≡ true

-- "a session attached in phase 4 counts as scanned": in every run
unfoldable pub AttachedScanned : Type 0
AttachedScanned =
    (s : Store) → Made s → (cs : List Call) (n share : ℕ) → (after s cs).phase ≡ at_heap_mark → (apply (after s cs) (Attach n share)).reply ≡ answer Done
    → (session_at (apply (after s cs) (Attach n share)).store n).scanned ≡ true

-- ---- 8. Replicas point back
-- Request [5], of a replica w of v: "a record in the other half, sound by the old test, with equal word 0 and a replica word naming this one"
pub record PointsBack (M : Memory) (w v : ℕ) : Type 0 where
  pub sound : sound M w ≡ true
  pub across : half_of w ≢ half_of v
  pub shape : word M w shape_at ≡ word M v shape_at
  pub back : replica M w ≡ v

-- what following tests: the old test, and of "a non-zero replica word" that it names such a record
pub record CanFollow (M : Memory) (v : ℕ) : Type 0 where
  pub sound : sound M v ≡ true
  pub paired : replica M v ≢ null → PointsBack M (replica M v) v

-- "Following a reference now also tests that": on any memory following passes exactly there. Every call that follows a reference does so by
-- `followed`, so its contract promises it.
unfoldable pub FollowedExactly : Type 0
FollowedExactly = (M : Memory) (v : ℕ) → (followed M v ≡ passed tt → CanFollow M v) × (CanFollow M v → followed M v ≡ passed tt)

-- on any memory: where a record was followed, so can be its replica, and it has as many fields of each kind. So "a replica without that
-- field", which is damage too, isn't met any more behind a record that was followed.
unfoldable pub ReplicaFollowed : Type 0
ReplicaFollowed =
    (M : Memory) (v : ℕ) → followed M v ≡ passed tt → replica M v ≢ null
    → (followed M (replica M v) ≡ passed tt) × (refs M (replica M v) ≡ refs M v) × (plains M (replica M v) ≡ plains M v)

-- "in runs as in point 3 none is refused by it" is `NoDamage`. More than that: in every run every record of the current half can be
-- followed, and before phase 12, which takes the pairs apart, every record of the other half.
unfoldable pub RecordsFollowed : Type 0
RecordsFollowed =
    (s : Store) → Made s → (cs : List Call) (h : ℕ) → h < 2 → (h ≡ (after s cs).current) ⊎ ((after s cs).phase ≢ at_reclaim)
    → (v : ℕ) → Memᴰ v (records_of (after s cs).memory h) → followed (after s cs).memory v ≡ passed tt

-- ---- 9. Birth numbers
-- Request [6]: "A fourth header word holds its birth number", "both copies carry it unchanged", "in the collector-free store a record's number is
-- its place in the list". In every run the birth number of each record that either half holds is the place of the record that it stands for.
unfoldable pub BirthNumbers : Type 0
BirthNumbers =
    (s : Store) → Made s → (cs : List Call) (h : ℕ) → h < 2 → (v : ℕ) → Memᴰ v (records_of (after s cs).memory h)
    → birth_number (after s cs).memory v ≡ (beside (new_beside s) cs).place v

-- "counted from 1 over successful allocations": in every run as many numbers are used as the collector-free list has records, to which each
-- successful allocation adds one
unfoldable pub BirthsCounted : Type 0
BirthsCounted = (s : Store) → Made s → (cs : List Call) → (after s cs).births ≡ length (free_after s cs).records

-- so no number is given twice: every number given is at most the count, a new one is above it, and in every run two records of one half
-- have different numbers
unfoldable pub BirthsDiffer : Type 0
BirthsDiffer =
    (s : Store) → Made s → (cs : List Call) (h : ℕ) → h < 2 → (u v : ℕ)
    → Memᴰ u (records_of (after s cs).memory h) → Memᴰ v (records_of (after s cs).memory h)
    → birth_number (after s cs).memory u ≡ birth_number (after s cs).memory v → u ≡ v

-- ---- 10. Shares
-- Request [7]: "A share .. stays until its number's next attach": on every store, no call but an attach of that number changes a share
unfoldable pub SharesStay : Type 0
SharesStay =
    (s : Store) (c : Call) (n : ℕ) → ((share : ℕ) → c ≢ Attach n share) → (session_at (apply s c).store n).share ≡ (session_at s n).share

-- an attach that isn't refused gives the number its share
unfoldable pub ShareGiven : Type 0
ShareGiven =
    (s : Store) → Made s → (cs : List Call) (n share : ℕ) → (apply (after s cs) (Attach n share)).reply ≡ answer Done
    → (session_at (apply (after s cs) (Attach n share)).store n).share ≡ share

-- a step of s ends Reclaim
abbrev pub EndsReclaim : Store → Type 0
EndsReclaim s = (s.phase ≡ at_reclaim) × ((apply s Step).store.phase ≡ at_rest)

-- "Allocated words .. are charged to the session number across detach and attach": on every store, no call but an allocation of that number
-- and the step that ends Reclaim changes a charge
unfoldable pub ChargesStay : Type 0
ChargesStay =
    (s : Store) (c : Call) (n : ℕ) → ((k r p : ℕ) → c ≢ Allocate n k r p) → (c ≡ Step → EndsReclaim s → ⊥)
    → (session_at (apply s c).store n).charge ≡ (session_at s n).charge

-- "each record's once": an allocation that isn't refused charges the record's words, whether it is written to one half or to both
unfoldable pub ChargeGrows : Type 0
ChargeGrows =
    (s : Store) → Made s → (cs : List Call) (n k r p : ℕ) → (apply (after s cs) (Allocate n k r p)).reply ≡ answer Done
    → (session_at (apply (after s cs) (Allocate n k r p)).store n).charge ≡ (session_at (after s cs) n).charge + size_of r p

-- "charges return to 0 when Reclaim ends": on every store, each number's, attached or not
unfoldable pub ChargesEnd : Type 0
ChargesEnd = (s : Store) (n : ℕ) → EndsReclaim s → (session_at (apply s Step).store n).charge ≡ 0

-- the tests of an allocation before 17 passed: 4, 5, 6, 8 and 10
pub record MayAllocate (s : Store) (n k r p : ℕ) : Type 0 where
  pub session : session_of s n ≡ passed (session_at s n)
  pub register : k ≤ 7
  pub counts : (r ≤ 255) × (p ≤ 255)

-- what would then be charged to the session
abbrev pub charge_with : Store → ℕ → ℕ → ℕ → ℕ
charge_with s n r p = (session_at s n).charge + (4 + r + p)

-- "Number 17, just before 14, refuses an allocation that would pass the share": on every store, there and nowhere else
unfoldable pub ShareRefused : Type 0
ShareRefused =
    (s : Store) (n k r p : ℕ) → let there = MayAllocate s n k r p × ((session_at s n).share < charge_with s n r p) in
    ((apply s (Allocate n k r p)).reply ≡ answer (Refused 17) → there) × (there → (apply s (Allocate n k r p)).reply ≡ answer (Refused 17))

-- behind it 14, where a half that the allocation writes lacks room
unfoldable pub RoomRefused : Type 0
RoomRefused =
    (s : Store) (n k r p : ℕ)
    → let there = MayAllocate s n k r p × (charge_with s n r p ≤ (session_at s n).share) × (allocation_room s (session_at s n).level r p ≡ false) in
    ((apply s (Allocate n k r p)).reply ≡ answer (Refused 14) → there) × (there → (apply s (Allocate n k r p)).reply ≡ answer (Refused 14))

-- and behind that 16, "once 4,294,967,295 numbers are used"
unfoldable pub NumberRefused : Type 0
NumberRefused =
    (s : Store) (n k r p : ℕ)
    → let there = MayAllocate s n k r p × (charge_with s n r p ≤ (session_at s n).share) × (allocation_room s (session_at s n).level r p ≡ true)
    × (4294967295 ≤ s.births) in
    ((apply s (Allocate n k r p)).reply ≡ answer (Refused 16) → there) × (there → (apply s (Allocate n k r p)).reply ≡ answer (Refused 16))

-- the current half's used words
abbrev pub used_words : Store → ℕ
used_words s = frontier s.memory s.current

-- "all shares" together, of sessions that aren't attached too
abbrev pub all_shares : List Session → ℕ
all_shares [] = 0
all_shares (x ∷ xs) = x.share + all_shares xs

-- "no share changes": after each call of ds every share is what it was in t
abbrev pub SharesKept : Store → List Call → Type 0
SharesKept t ds = (i n : ℕ) → (session_at (after t (take i ds)) n).share ≡ (session_at t n).share

-- "In runs as in point 3, suppose that, then, used words plus all shares fit in the half and no share changes: no session within its share meets 14
-- before the next Reclaim begins". "Then" is just after a step that ended Reclaim, t the store there; after no call of ds is the phase 12.
-- No allocation answers 14: one that would pass its share answers 17.
unfoldable pub ShareAfterReclaim : Type 0
ShareAfterReclaim =
    (s : Store) → Made s → (cs : List Call) → EndsReclaim (after s cs)
    → let t = (apply (after s cs) Step).store in
    used_words t + all_shares t.sessions ≤ t.lengths.half0
    → (ds : List Call) → SharesKept t ds → ((i : ℕ) → (after t (take i ds)).phase ≢ at_reclaim)
    → (n k r p : ℕ) → (apply (after t ds) (Allocate n k r p)).reply ≢ answer (Refused 14)

-- what the shares leave to all sessions together: of each share what isn't charged, or nothing where the charge is above it
abbrev pub shares_left : List Session → ℕ
shares_left [] = 0
shares_left (x ∷ xs) = (x.share - x.charge) + shares_left xs

-- stronger: from every moment outside Reclaim on, with what the shares leave then, and until the next Reclaim ends
unfoldable pub RoomForShares : Type 0
RoomForShares =
    (s : Store) → Made s → (cs : List Call)
    → let t = after s cs in
    t.phase ≢ at_reclaim → used_words t + shares_left t.sessions ≤ t.lengths.half0
    → (ds : List Call) → SharesKept t ds
    → ((i : ℕ) → (after t (take i ds)).phase ≡ at_reclaim → (after t (take (suc i) ds)).phase ≢ at_rest)
    → (n k r p : ℕ) → (apply (after t ds) (Allocate n k r p)).reply ≢ answer (Refused 14)

-- ---- 11. Several links
-- "single stores in list order": as calls
abbrev pub single_stores : ℕ → ℕ → List Link → List Call
single_stores n k xs = map (λ x. StoreRef n k x.field x.from) xs

-- the first refusal among replies, or that all is done
abbrev pub first_refusal : List Reply → Reply
first_refusal [] = answer Done
first_refusal (r ∷ rs) = cond (is_refusal r) r (first_refusal rs)

-- Request [8]: "A count above eight is refused with 10 right after the session tests; a count of 0 succeeds there, storing nothing". On every
-- store, whatever the register of the record and the links are.
unfoldable pub LinksCounted : Type 0
LinksCounted =
    (s : Store) (n k count : ℕ) (xs : List Link)
    → ((r : ℕ) → session_of s n ≡ refused r → (apply s (StoreLinks n k count xs)).reply ≡ answer (Refused r))
    × (session_of s n ≡ passed (session_at s n) → 8 < count → (apply s (StoreLinks n k count xs)).reply ≡ answer (Refused 10))
    × (session_of s n ≡ passed (session_at s n) → apply s (StoreLinks n k 0 xs) ≡ record { store = s; reply = answer Done })

-- "Otherwise the refusal is the first that a single store, in list order, would meet, the pairs before it done": on every store the answer is that of
-- the single stores made one after another, each on what those before it left, up to the first refusal
unfoldable pub LinksAnswer : Type 0
LinksAnswer =
    (s : Store) (n k count : ℕ) (xs : List Link) → session_of s n ≡ passed (session_at s n) → count ≤ 8
    → (apply s (StoreLinks n k count xs)).reply ≡ first_refusal (run s (single_stores n k (take count xs)))

-- "stores all or none; the result is that of single stores in list order, a repeated field included": on every store, where the call is done. Where
-- it is refused, the store is as it came (`RefusalsKeep`).
unfoldable pub LinksStored : Type 0
LinksStored =
    (s : Store) (n k count : ℕ) (xs : List Link) → (apply s (StoreLinks n k count xs)).reply ≡ answer Done
    → (apply s (StoreLinks n k count xs)).store ≡ after s (single_stores n k (take count xs))

-- so one link is a single store: on every store, with the same answer and the same words
unfoldable pub OneLink : Type 0
OneLink = (s : Store) (n k : ℕ) (x : Link) (xs : List Link) → apply s (StoreLinks n k 1 (x ∷ xs)) ≡ apply s (StoreRef n k x.field x.from)
