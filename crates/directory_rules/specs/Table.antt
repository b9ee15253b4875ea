-- The plain table: which people and groups there are, and who is in which group. No store, no memory.
use Rattle.std.specs.Prelude.{ℕ, Bool, true, false, cond, not, ◌&&◌, ◌||◌, List, [], ◌∷◌, ◌++◌, leb, eqb, length, take, drop}
use Rattle.rules.specs.Refusals.{Tested, refused, passed, check, ◌>>◌}

-- what is asked of the directory: numbers of people and groups; of a list also the words lent for its members; of open, by request [7], "a share in
-- words"
pub data Request : Type 0 where
  Open : ℕ → Request
  Add : ℕ → Request
  Remove : ℕ → Request
  Make : ℕ → Request
  Join : ℕ → ℕ → Request
  Leave : ℕ → ℕ → Request
  Members : ℕ → List ℕ → Request

-- a person's membership of a group
pub record Pair : Type 0 where
  pub person : ℕ
  pub group : ℕ

-- people in the order of adding, groups of making, pairs of joining
pub record Table : Type 0 where
  pub opened : Bool
  pub people : List ℕ
  pub groups : List ℕ
  pub pairs : List Pair

abbrev pub new_table : Table
new_table = record { opened = false; people = []; groups = []; pairs = [] }

-- what a directory call answers: the refusal number or 0, how many members there are, the lent words as it leaves them
pub record Given : Type 0 where
  pub number : ℕ
  pub count : ℕ
  pub words : List ℕ

-- ---- numbers

-- "eight-digit": the last number that a person or a group may have
abbrev pub last_number : ℕ
last_number = 99999999

-- "an unknown person or group is refused with 23 (everywhere a number above 99,999,999)"
abbrev pub unknown : ℕ
unknown = 23

-- "joining, adding or making twice with 24"
abbrev pub already : ℕ
already = 24

-- "leaving when absent with 25"
abbrev pub not_member : ℕ
not_member = 25

-- the store's own: session 15 is not attached, or attached already
abbrev pub not_open : ℕ
not_open = 6

abbrev pub open_already : ℕ
open_already = 7

abbrev pub is_number : ℕ → Bool
is_number n = leb n last_number

-- ---- looking things up

abbrev pub among : ℕ → List ℕ → Bool
among n [] = false
among n (x ∷ xs) = eqb n x || among n xs

abbrev pub without : ℕ → List ℕ → List ℕ
without n [] = []
without n (x ∷ xs) = cond (eqb n x) (without n xs) (x ∷ without n xs)

abbrev pub is_pair : ℕ → ℕ → Pair → Bool
is_pair n g x = eqb n x.person && eqb g x.group

abbrev pub paired : ℕ → ℕ → List Pair → Bool
paired n g [] = false
paired n g (x ∷ xs) = is_pair n g x || paired n g xs

abbrev pub unpair : ℕ → ℕ → List Pair → List Pair
unpair n g [] = []
unpair n g (x ∷ xs) = cond (is_pair n g x) (unpair n g xs) (x ∷ unpair n g xs)

abbrev pub without_person : ℕ → List Pair → List Pair
without_person n [] = []
without_person n (x ∷ xs) = cond (eqb n x.person) (without_person n xs) (x ∷ without_person n xs)

-- the members of a group in joining order
abbrev pub members_of : ℕ → List Pair → List ℕ
members_of g [] = []
members_of g (x ∷ xs) = cond (eqb g x.group) (x.person ∷ members_of g xs) (members_of g xs)

-- ---- the table with one part changed

abbrev pub with_people : Table → List ℕ → Table
with_people t ns = record { opened = t.opened; people = ns; groups = t.groups; pairs = t.pairs }

abbrev pub with_groups : Table → List ℕ → Table
with_groups t gs = record { opened = t.opened; people = t.people; groups = gs; pairs = t.pairs }

abbrev pub with_pairs : Table → List Pair → Table
with_pairs t xs = record { opened = t.opened; people = t.people; groups = t.groups; pairs = xs }

abbrev pub opened_table : Table → Table
opened_table t = record { opened = true; people = t.people; groups = t.groups; pairs = t.pairs }

-- ---- the calls

-- the tests of a pair: a number too big, an unknown group, an unknown person
unfoldable pub known : Table → ℕ → ℕ → Tested (Unit {0})
known t n g = do
  check t.opened not_open
  check (is_number n && is_number g) unknown
  check (among g t.groups) unknown
  check (among n t.people) unknown

-- the table after a call that isn't refused. It is fed the number by which the store refused the call's allocation, 0 where
-- it refused none: "one refused its allocation leaves the table as before it"
unfoldable pub table_next : Table → Request → ℕ → Tested Table
table_next t (Open share) fed = do
  check (not t.opened) open_already
  passed (opened_table t)
table_next t (Add n) fed = do
  check t.opened not_open
  check (is_number n) unknown
  check (not (among n t.people)) already
  check (eqb fed 0) fed
  passed (with_people t (t.people ++ (n ∷ [])))
table_next t (Remove n) fed = do
  check t.opened not_open
  check (is_number n) unknown
  check (among n t.people) unknown
  passed (with_pairs (with_people t (without n t.people)) (without_person n t.pairs))
table_next t (Make g) fed = do
  check t.opened not_open
  check (is_number g) unknown
  check (not (among g t.groups)) already
  check (eqb fed 0) fed
  passed (with_groups t (t.groups ++ (g ∷ [])))
table_next t (Join n g) fed = do
  known t n g
  check (not (paired n g t.pairs)) already
  check (eqb fed 0) fed
  passed (with_pairs t (t.pairs ++ (record { person = n; group = g } ∷ [])))
table_next t (Leave n g) fed = do
  known t n g
  check (paired n g t.pairs) not_member
  passed (with_pairs t (unpair n g t.pairs))
table_next t (Members g out) fed = do
  check t.opened not_open
  check (is_number g) unknown
  check (among g t.groups) unknown
  passed t

-- ---- what a call answers

-- the words that a call is lent
abbrev pub lent_by : Request → List ℕ
lent_by (Open share) = []
lent_by (Add n) = []
lent_by (Remove n) = []
lent_by (Make g) = []
lent_by (Join n g) = []
lent_by (Leave n g) = []
lent_by (Members g out) = out

-- a refused call: its number, and the lent words as they came
abbrev pub refused_with : Request → ℕ → Given
refused_with q n = record { number = n; count = 0; words = lent_by q }

-- a call that answers nothing but 0
abbrev pub nothing : Given
nothing = record { number = 0; count = 0; words = [] }

-- "answering how many there are, writing as many as the lent words hold"
abbrev pub over : List ℕ → List ℕ → List ℕ
over ms out = take (length out) ms ++ drop (length ms) out

abbrev pub listed : List ℕ → List ℕ → Given
listed ms out = record { number = 0; count = length ms; words = over ms out }

abbrev pub given_by : Request → Table → Given
given_by (Open share) t = nothing
given_by (Add n) t = nothing
given_by (Remove n) t = nothing
given_by (Make g) t = nothing
given_by (Join n g) t = nothing
given_by (Leave n g) t = nothing
given_by (Members g out) t = listed (members_of g t.pairs) out

abbrev pub table_given : Request → Tested Table → Given
table_given q (refused n) = refused_with q n
table_given q (passed t) = given_by q t

-- a refused call leaves the table
abbrev pub table_after : Table → Tested Table → Table
table_after t (refused n) = t
table_after t (passed u) = u
