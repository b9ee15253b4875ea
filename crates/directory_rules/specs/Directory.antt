-- The directory's calls as acts. Its records:
--   person: 1 reference field, the next entry; 1 plain field, the number
--   group: 2 reference fields, the next entry and its first link; 1 plain field, group_mark + the number
--   link: 1 reference field, the next link; 1 plain field, the member's number
-- The directory's global names one chain of entries: groups in making order, then people in adding order.
use Rattle.std.specs.Prelude.{ℕ, zero, suc, ◌+◌, ◌-◌, Bool, true, false, cond, ◌&&◌, List, [], ◌∷◌, ◌++◌, leb, ltb, eqb, length, drop}
use Rattle.rules.specs.Refusals.{Tested, refused, passed}
use Rattle.rules.specs.Control.{Store}
use Rattle.directory_rules.specs.Table.{Request, Open, Add, Remove, Make, Join, Leave, Members, Given, unknown, already, not_member, is_number, refused_with, nothing}
use Rattle.directory_rules.specs.Acts.{Ask, attach, safe_point, allocate, load, store, read, write, move, get, put, Act, stop, give, ask, ◌>>=◌, ◌>>◌, demand, must, Found, ended, failed, word, found_in, at_null, ending, perform, allocation_number}
use Rattle.directory_rules.specs.declared.Via.{Via}
use Rattle.directory_rules.specs.declared.Via.TheVariants.{Next, First, Top}
use Rattle.directory_rules.specs.declared.Place.{Place}

-- what tells a group's word from a person's: one more than the last number
abbrev pub group_mark : ℕ
group_mark = 100000000

-- "a chain of more links than a half has words is 26"
abbrev pub too_long : ℕ
too_long = 26

-- ---- fields and registers

-- the field of an entry or a link that names the one after it, and that of a group that names its first link
abbrev pub next_field : ℕ
next_field = 0

abbrev pub first_field : ℕ
first_field = 1

-- the plain field
abbrev pub number_field : ℕ
number_field = 0

-- registers 0 and 1 have the record at hand and the one before it, in turn; 2 has the group; 3 and 4, in remove, the entry
-- before the person and the person
abbrev pub group_register : ℕ
group_register = 2

abbrev pub before_register : ℕ
before_register = 3

abbrev pub person_register : ℕ
person_register = 4

-- how many registers a call uses, from 0: one that walks the entries, one that works on a group, and remove
abbrev pub walk_registers : ℕ
walk_registers = 2

abbrev pub group_registers : ℕ
group_registers = 3

abbrev pub remove_registers : ℕ
remove_registers = 5

-- the register of the record before the one in register `at`
abbrev pub other_of : ℕ → ℕ
other_of at = 1 - at

-- ---- walks

abbrev pub place : Bool → ℕ → Via → ℕ → Place
place b at via left = record { found = b; at = at; via = via; left = left }

-- with no link left: the chain ends here, or is too long
abbrev pub none_left : ℕ → Via → Found → Act Place
none_left at via ended = give (place false at via 0)
none_left at via (failed n) = stop n
none_left at via (word w) = stop too_long

-- with links left: on is the rest of the walk
abbrev pub judged : ℕ → Via → ℕ → ℕ → ℕ → Act Place → Found → Act Place
judged at via key least left on ended = give (place false at via left)
judged at via key least left on (failed n) = stop n
judged at via key least left on (word w) =
    cond (eqb w key) (give (place true at via left)) (cond (ltb w least) (give (place false at via left)) on)

-- from the record in register `at` on: the first whose word is key, or else the first whose word is below least, or the end
abbrev pub seek : ℕ → ℕ → Via → ℕ → ℕ → Act Place
seek zero at via key least = ask (read at number_field) (λ r. none_left at via (found_in r))
seek (suc left) at via key least =
    ask (read at number_field) (λ r. judged at via key least (suc left)
    (must (load (other_of at) at next_field) >> seek left (other_of at) Next key least) (found_in r))

-- over all entries
unfoldable pub entries : ℕ → ℕ → ℕ → Act Place
entries half key least = must (get 0) >> seek half 0 Top key least

-- over the entries for a group: groups end where the first person stands
abbrev pub group_entry : ℕ → ℕ → Act Place
group_entry half g = entries half (group_mark + g) group_mark

-- over the members of the group in its register
unfoldable pub members : ℕ → ℕ → Act Place
members half n = must (load 0 group_register first_field) >> seek half 0 First n 0

abbrev pub absent : Place → ℕ → Act (Unit {0})
absent w n = cond w.found (stop n) (give tt)

abbrev pub present : Place → ℕ → Act (Unit {0})
present w n = demand w.found n

-- ---- changes of a chain

-- what names the record at hand now names what register `from` holds
abbrev pub link : ℕ → Via → ℕ → Act (Unit {0})
link at Next from = must (store (other_of at) next_field from)
link at First from = must (store group_register first_field from)
link at Top from = must (put from)

-- the record at hand leaves its chain
abbrev pub cut : ℕ → Via → Act (Unit {0})
cut at via = must (load at at next_field) >> link at via at

-- a new record of r reference fields, with its word, in register k
abbrev pub fresh : ℕ → ℕ → ℕ → Act (Unit {0})
fresh k r w = must (allocate k r 1) >> must (write k number_field w)

-- a new person or link at the end of the chain
unfoldable pub append : Place → ℕ → Act (Unit {0})
append w n = fresh w.at 1 n >> link w.at w.via w.at

-- ---- the calls

unfoldable pub adding : ℕ → ℕ → Act (Unit {0})
adding half n = do
  demand (is_number n) unknown
  w ← entries half n 0
  absent w already
  append w n

-- a new group goes behind the last group, before the first person
unfoldable pub making : ℕ → ℕ → Act (Unit {0})
making half g = do
  demand (is_number g) unknown
  w ← group_entry half g
  absent w already
  fresh group_register 2 (group_mark + g)
  must (store group_register next_field w.at)
  link w.at w.via group_register

-- the group, in its register; where the walk over the entries found it
unfoldable pub grouping : ℕ → ℕ → Act Place
grouping half g = do
  w ← group_entry half g
  present w unknown
  must (move group_register w.at)
  give w

-- the group in its register, and where the person stands among its members; people come after groups, so the walk goes on
unfoldable pub pairing : ℕ → ℕ → ℕ → Act Place
pairing half n g = do
  demand (is_number n && is_number g) unknown
  w ← grouping half g
  v ← seek w.left w.at w.via n 0
  present v unknown
  members half n

unfoldable pub joining : ℕ → ℕ → ℕ → Act (Unit {0})
joining half n g = do
  w ← pairing half n g
  absent w already
  append w n

unfoldable pub leaving : ℕ → ℕ → ℕ → Act (Unit {0})
leaving half n g = do
  w ← pairing half n g
  present w not_member
  cut w.at w.via

-- ---- remove

abbrev pub cut_found : Place → Act (Unit {0})
cut_found w = cond w.found (cut w.at w.via) (give tt)

-- with no entry left to look at
abbrev pub no_group_left : Found → Act (Unit {0})
no_group_left ended = give tt
no_group_left (failed n) = stop n
no_group_left (word w) = stop too_long

-- a group, or the first person, where the groups end
abbrev pub each_group : Act (Unit {0}) → Found → Act (Unit {0})
each_group on ended = give tt
each_group on (failed n) = stop n
each_group on (word w) = cond (ltb w group_mark) (give tt) on

-- the person leaves the group in its register and those after it; half bounds each chain of members
abbrev pub leaving_all : ℕ → ℕ → ℕ → Act (Unit {0})
leaving_all zero half n = ask (read group_register number_field) (λ r. no_group_left (found_in r))
leaving_all (suc left) half n =
    ask (read group_register number_field) (λ r. each_group
    (members half n >>= λ w. cut_found w >> must (load group_register group_register next_field) >> leaving_all left half n) (found_in r))

-- the entry before the person, where there is one, in its register
abbrev pub keep_before : ℕ → Via → Act (Unit {0})
keep_before at Next = must (move before_register (other_of at))
keep_before at First = give tt
keep_before at Top = give tt

-- what named the person now names what its register holds; a walk over the entries never ends by First
abbrev pub link_person : Via → Act (Unit {0})
link_person Next = must (store before_register next_field person_register)
link_person First = give tt
link_person Top = must (put person_register)

unfoldable pub removing : ℕ → ℕ → Act (Unit {0})
removing half n = do
  demand (is_number n) unknown
  w ← entries half n 0
  present w unknown
  keep_before w.at w.via
  must (move person_register w.at)
  must (get group_register)
  leaving_all half half n
  must (load person_register person_register next_field)
  link_person w.via

-- ---- list

-- how many records the chain from register 0 has; k are counted already
abbrev pub none_counted : ℕ → Found → Act ℕ
none_counted k ended = give k
none_counted k (failed n) = stop n
none_counted k (word w) = stop too_long

abbrev pub counted : ℕ → Act ℕ → Found → Act ℕ
counted k on ended = give k
counted k on (failed n) = stop n
counted k on (word w) = on

abbrev pub counting : ℕ → ℕ → Act ℕ
counting zero k = ask (read 0 number_field) (λ r. none_counted k (found_in r))
counting (suc left) k = ask (read 0 number_field) (λ r. counted k (must (load 0 0 next_field) >> counting left (suc k)) (found_in r))

-- the word of a record that has been counted
abbrev pub taken : Found → Act ℕ
taken ended = stop at_null
taken (failed n) = stop n
taken (word w) = give w

-- the words of the first k records of the chain from register 0
abbrev pub taking : ℕ → Act (List ℕ)
taking zero = give []
taking (suc k) = do
  x ← ask (read 0 number_field) (λ r. taken (found_in r))
  must (load 0 0 next_field)
  xs ← taking k
  give (x ∷ xs)

-- the words of the first k members of the group in its register; none, and no call, for 0
abbrev pub taking_first : ℕ → Act (List ℕ)
taking_first zero = give []
taking_first (suc k) = must (load 0 group_register first_field) >> taking (suc k)

abbrev pub least : ℕ → ℕ → ℕ
least a b = cond (leb a b) a b

-- the whole chain is walked before a word is written
unfoldable pub listing : ℕ → ℕ → List ℕ → Act Given
listing half g out = do
  demand (is_number g) unknown
  w ← grouping half g
  must (load 0 group_register first_field)
  k ← counting half 0
  xs ← taking_first (least k (length out))
  give (record { number = 0; count = k; words = xs ++ drop (length xs) out })

-- ---- all of a call

abbrev pub plainly : Act (Unit {0}) → Act Given
plainly a = a >> give nothing

-- "All calls but open start with a safe point"
abbrev pub first_ask : Request → Ask
first_ask (Open share) = attach share
first_ask (Add n) = safe_point
first_ask (Remove n) = safe_point
first_ask (Make g) = safe_point
first_ask (Join n g) = safe_point
first_ask (Leave n g) = safe_point
first_ask (Members g out) = safe_point

-- what follows; half is the half's length, which bounds every walk
abbrev pub inner : ℕ → Request → Act Given
inner half (Open share) = give nothing
inner half (Add n) = ending walk_registers (plainly (adding half n))
inner half (Remove n) = ending remove_registers (plainly (removing half n))
inner half (Make g) = ending group_registers (plainly (making half g))
inner half (Join n g) = ending group_registers (plainly (joining half n g))
inner half (Leave n g) = ending group_registers (plainly (leaving half n g))
inner half (Members g out) = ending group_registers (listing half g out)

unfoldable pub program : ℕ → Request → Act Given
program half q = must (first_ask q) >> inner half q

-- all that a directory call leaves
pub record Left : Type 0 where
  pub store : Store
  pub given : Given

abbrev pub given_of : Request → Tested Given → Given
given_of q (refused n) = refused_with q n
given_of q (passed a) = a

-- a call bounds its walks by the control record's first length
abbrev pub program_on : Store → Request → Act Given
program_on s q = program s.lengths.half0 q

unfoldable pub directory_call : Store → Request → Left
directory_call s q =
    let p = perform s (program_on s q) in
    record { store = p.store; given = given_of q p.result }

-- the number by which the store refused the call's allocation, or 0
unfoldable pub fed_number : Store → Request → ℕ
fed_number s q = allocation_number s (program_on s q)
