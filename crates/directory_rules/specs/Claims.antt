-- The claims about the directory.
use Rattle.std.specs.Prelude.{ℕ, ◌+◌, ◌≤◌, ◌≡◌, ◌≢◌, Bool, true, List, [], ◌∷◌, get_or, drop, length}
use Rattle.rules.specs.Refusals.{refused, answer}
use Rattle.rules.specs.Memory.{null}
use Rattle.rules.specs.Control.{Store}
use Rattle.rules.specs.Phases.{session_at}
use Rattle.rules.specs.Runs.{Call, Attach, Detach, SafePoint, Allocate, Load, StoreRef, StoreLinks, Read, Write, Move, Clear, SameAs, Get, Put, Stretch, Companion, Birth, Step, apply}
use Rattle.rules.specs.Claims.{Made, allocation_numbers}
use Rattle.rules.specs.Examples.{Computed}
use Rattle.rules.specs.Answers.{Refused}
use Rattle.directory_rules.specs.Table.{Request, Open, Add, Remove, Make, Join, Leave, Members, new_table, among, unknown, already, not_member, lent_by}
use Rattle.directory_rules.specs.Acts.{own_session, perform, calls_made}
use Rattle.directory_rules.specs.Directory.{directory_call, program_on}
use Rattle.directory_rules.specs.Runs.{Item, allowed, after_items, directory_run, feeds_of, table_run}
use Rattle.directory_rules.specs.Limits.{limits}

-- ---- in every run

-- "each call's outcome is that of a plain table of people, groups and pairs, wherever collector steps and other sessions'
-- calls fall between". The table has no 4, 11, 12, 13 or 26, so none of them comes.
unfoldable pub TableAnswers : Type 0
TableAnswers = (s : Store) → Made s → (xs : List Item) → allowed xs ≡ true → directory_run s xs ≡ table_run new_table (feeds_of s xs)

-- the numbers that come before anything is written: those of the allocation, unknown, already, not a member
abbrev pub by_tests : ℕ → Bool
by_tests n = among n (unknown ∷ already ∷ not_member ∷ allocation_numbers)

-- a call refused so has done its safe point and no more
unfoldable pub SafePointOnly : Type 0
SafePointOnly =
    (s : Store) → Made s → (xs : List Item) → allowed xs ≡ true → (q : Request)
    → by_tests (directory_call (after_items s xs) q).given.number ≡ true
    → (directory_call (after_items s xs) q).store ≡ (apply (after_items s xs) (SafePoint own_session)).store

-- between calls the directory's registers are null: they keep no removed record alive. With `Freed` of the rules this says
-- what removals give back
unfoldable pub Cleared : Type 0
Cleared =
    (s : Store) → Made s → (xs : List Item) → allowed xs ≡ true → (k : ℕ)
    → get_or (session_at (after_items s xs) own_session).registers k null ≡ null

-- ---- on any store

-- a refused call leaves the lent words as they came; one that isn't refused leaves those past its count
unfoldable pub LentKept : Type 0
LentKept =
    (s : Store) (q : Request)
    → ((directory_call s q).given.number ≢ 0 → ((directory_call s q).given.count ≡ 0) × ((directory_call s q).given.words ≡ lent_by q))
    × (drop (directory_call s q).given.count (directory_call s q).given.words ≡ drop (directory_call s q).given.count (lent_by q))
    × (length (directory_call s q).given.words ≡ length (lent_by q))

-- 0 is the answer of a call that is done, and of no other
unfoldable pub ZeroIsDone : Type 0
ZeroIsDone = (s : Store) (q : Request) (n : ℕ) → (perform s (program_on s q)).result ≡ refused n → n ≢ 0

-- the first store call of a directory call
abbrev pub first_call : Request → Call
first_call (Open share) = Attach own_session share
first_call (Add n) = SafePoint own_session
first_call (Remove n) = SafePoint own_session
first_call (Make g) = SafePoint own_session
first_call (Join n g) = SafePoint own_session
first_call (Leave n g) = SafePoint own_session
first_call (Members g out) = SafePoint own_session

-- a call whose first store call is refused changes nothing and answers that number
unfoldable pub FirstKeeps : Type 0
FirstKeeps =
    (s : Store) (q : Request) (n : ℕ) → (apply s (first_call q)).reply ≡ answer (Refused n)
    → ((directory_call s q).store ≡ s) × ((directory_call s q).given.number ≡ n)

-- stores that agree but in the level and registers of the directory's session
pub record Beyond (s t : Store) : Type 0 where
  pub lengths : s.lengths ≡ t.lengths
  pub memory : s.memory ≡ t.memory
  pub current : s.current ≡ t.current
  pub phase : s.phase ≡ t.phase
  pub walk : s.walk ≡ t.walk
  pub list : s.list ≡ t.list
  pub births : s.births ≡ t.births
  pub globals : s.globals ≡ t.globals
  pub others : (n : ℕ) → n ≢ own_session → session_at s n ≡ session_at t n
  pub share : (session_at s own_session).share ≡ (session_at t own_session).share
  pub charge : (session_at s own_session).charge ≡ (session_at t own_session).charge
  pub attached : (session_at s own_session).attached ≡ (session_at t own_session).attached
  pub scanned : (session_at s own_session).scanned ≡ (session_at t own_session).scanned

-- "all before allocating": a call refused by its tests or its allocation has written no store word
unfoldable pub TestsKeep : Type 0
TestsKeep = (s : Store) (q : Request) → by_tests (directory_call s q).given.number ≡ true → Beyond s (directory_call s q).store

-- ---- allocations

-- the field counts of the allocations among some calls
abbrev pub sized : Call → List ℕ → List ℕ
sized (Attach n share) xs = xs
sized (Detach n) xs = xs
sized (SafePoint n) xs = xs
sized (Allocate n k r p) xs = (r + p) ∷ xs
sized (Load n to k i) xs = xs
sized (StoreRef n k i from) xs = xs
sized (StoreLinks n k count ys) xs = xs
sized (Read n k i) xs = xs
sized (Write n k i a) xs = xs
sized (Move n to from) xs = xs
sized (Clear n k) xs = xs
sized (SameAs n a b) xs = xs
sized (Get n to g) xs = xs
sized (Put n g from) xs = xs
sized (Stretch n k) xs = xs
sized (Companion n k) xs = xs
sized (Birth n k) xs = xs
sized Step xs = xs

abbrev pub allocations : List Call → List ℕ
allocations [] = []
allocations (c ∷ cs) = sized c (allocations cs)

-- how many allocations a call makes that is done
abbrev pub allocating : Request → ℕ
allocating (Open share) = 0
allocating (Add n) = 1
allocating (Remove n) = 0
allocating (Make g) = 1
allocating (Join n g) = 1
allocating (Leave n g) = 0
allocating (Members g out) = 0

-- "All calls but open start with a safe point; adding, making and joining allocate one record of at most three fields, no others
-- any": exactly one where they are done, and no more where they are refused
unfoldable pub Allocates : Type 0
Allocates =
    (s : Store) (q : Request)
    → (length (allocations (calls_made s (program_on s q))) ≤ allocating q)
    × ((directory_call s q).given.number ≡ 0 → length (allocations (calls_made s (program_on s q))) ≡ allocating q)
    × ((i : ℕ) → get_or (allocations (calls_made s (program_on s q))) i 0 ≤ 3)
    × (get_or (calls_made s (program_on s q)) 0 Step ≡ first_call q)

-- ---- numbers

-- the numbers and orders that document 02 names: one table with one theorem
unfoldable pub Limits : Type 0
Limits = Computed limits
