-- Memory and references: the control record with the lent words, its ranges (refusal 4), and making (refusals 1 to 3).
use Rattle.std.specs.Prelude.{ℕ, ◌+◌, ◌-◌, ◌/◌, Bool, true, false, cond, ◌&&◌, ◌||◌, List, [], ◌∷◌, leb, eqb, replicate, length}
use Rattle.rules.specs.Memory.{Memory, null, header, most_count}
use Rattle.rules.specs.Cycle.{at_rest, at_root_mark, at_root_flip, last_phase}
use Rattle.rules.specs.Refusals.{Tested, refused, passed, check, ◌>>◌, Outcome, answer}
use Rattle.rules.specs.declared.Session.{Session}
use Rattle.rules.specs.Answers.{Refused, Done}

-- "the three lent lengths"
pub record Lengths : Type 0 where
  pub half0 : ℕ
  pub half1 : ℕ
  pub list : ℕ

-- "walk place, walk field"
pub record Walk : Type 0 where
  pub place : ℕ
  pub field : ℕ

-- the grey list: its words, "the list's place" (head), and "its end" (tail)
pub record Grey : Type 0 where
  pub words : List ℕ
  pub head : ℕ
  pub tail : ℕ

-- the control record together with the words that are lent to a call
pub record Store : Type 0 where
  pub lengths : Lengths
  pub memory : Memory
  pub current : ℕ
  pub phase : ℕ
  pub walk : Walk
  pub list : Grey
  -- request [6]: how many birth numbers are used; every number is allowed, so test 4 doesn't look at it
  pub births : ℕ
  pub globals : List ℕ
  pub sessions : List Session

-- ---- the store with one part changed

abbrev pub with_memory : Store → Memory → Store
with_memory s M =
    record {
      lengths = s.lengths;
      memory = M;
      current = s.current;
      phase = s.phase;
      walk = s.walk;
      list = s.list;
      births = s.births;
      globals = s.globals;
      sessions = s.sessions;
    }

abbrev pub with_walk : Store → ℕ → ℕ → Store
with_walk s k i =
    record {
      lengths = s.lengths;
      memory = s.memory;
      current = s.current;
      phase = s.phase;
      walk = record { place = k; field = i };
      list = s.list;
      births = s.births;
      globals = s.globals;
      sessions = s.sessions;
    }

abbrev pub with_list : Store → List ℕ → ℕ → ℕ → Store
with_list s ws i j =
    record {
      lengths = s.lengths;
      memory = s.memory;
      current = s.current;
      phase = s.phase;
      walk = s.walk;
      list = record { words = ws; head = i; tail = j };
      births = s.births;
      globals = s.globals;
      sessions = s.sessions;
    }

abbrev pub with_globals : Store → List ℕ → Store
with_globals s gs =
    record {
      lengths = s.lengths;
      memory = s.memory;
      current = s.current;
      phase = s.phase;
      walk = s.walk;
      list = s.list;
      births = s.births;
      globals = gs;
      sessions = s.sessions;
    }

abbrev pub with_sessions : Store → List Session → Store
with_sessions s xs =
    record {
      lengths = s.lengths;
      memory = s.memory;
      current = s.current;
      phase = s.phase;
      walk = s.walk;
      list = s.list;
      births = s.births;
      globals = s.globals;
      sessions = xs;
    }

abbrev pub with_current : Store → ℕ → Store
with_current s h =
    record {
      lengths = s.lengths;
      memory = s.memory;
      current = h;
      phase = s.phase;
      walk = s.walk;
      list = s.list;
      births = s.births;
      globals = s.globals;
      sessions = s.sessions;
    }

abbrev pub with_births : Store → ℕ → Store
with_births s n =
    record {
      lengths = s.lengths;
      memory = s.memory;
      current = s.current;
      phase = s.phase;
      walk = s.walk;
      list = s.list;
      births = n;
      globals = s.globals;
      sessions = s.sessions;
    }

-- ---- ranges

-- "32 global references"
abbrev pub global_count : ℕ
global_count = 32

-- "16 sessions, each with eight registers"
abbrev pub session_count : ℕ
session_count = 16

abbrev pub register_count : ℕ
register_count = 8

-- the last number of each: 5 "number above 15", 8 "register above 7", 9 "global above 31"
abbrev pub last_session : ℕ
last_session = session_count - 1

abbrev pub last_register : ℕ
last_register = register_count - 1

abbrev pub last_global : ℕ
last_global = global_count - 1

-- the most that test 4 lets a level be: "level at most 6"
abbrev pub last_level : ℕ
last_level = 6

-- the most that the walk field may be, 510: a record's fields of both kinds
abbrev pub most_fields : ℕ
most_fields = most_count + most_count

-- "16 to 1,048,576 words"
abbrev pub least_length : ℕ
least_length = 16

abbrev pub most_length : ℕ
most_length = 1048576

-- a half may be that long
unfoldable pub half_allowed : ℕ → Bool
half_allowed n = leb least_length n && leb n most_length

-- request [6]: "list length (one word per four of a half)", rounded down: as many records as a half can hold
unfoldable pub list_allowed : ℕ → ℕ → Bool
list_allowed n l = leb (n / header) l

-- "lengths as making allows"
unfoldable pub lengths_allowed : Lengths → Bool
lengths_allowed n = half_allowed n.half0 && eqb n.half0 n.half1 && list_allowed n.half0 n.list

-- the lengths of what is lent
abbrev pub lent : Store → Lengths
lent s = record { half0 = length s.memory.half0; half1 = length s.memory.half1; list = length s.list.words }

unfoldable pub same_lengths : Lengths → Lengths → Bool
same_lengths a b = eqb a.half0 b.half0 && eqb a.half1 b.half1 && eqb a.list b.list

-- "walk place at most the half length, in phases 3 and 10 at most 32"
unfoldable pub walk_limit : ℕ → ℕ → ℕ
walk_limit phase n = cond (eqb phase at_root_mark || eqb phase at_root_flip) global_count n

-- "level at most 6"
abbrev pub levels_in_range : List Session → Bool
levels_in_range [] = true
levels_in_range (x ∷ xs) = leb x.level last_level && levels_in_range xs

-- refusal 4 does not come: the lent lengths are those at making, and every number is in its range
unfoldable pub in_range : Store → Bool
in_range s =
    same_lengths s.lengths (lent s) && lengths_allowed s.lengths
    && leb s.current 1
    && leb s.memory.frontier0 s.lengths.half0 && leb s.memory.frontier1 s.lengths.half0
    && leb s.phase last_phase
    && leb s.walk.place (walk_limit s.phase s.lengths.half0) && leb s.walk.field most_fields
    && leb s.list.head s.list.tail && leb s.list.tail s.lengths.list
    && levels_in_range s.sessions

-- request [6]: "once 4,294,967,295 numbers are used"
abbrev pub most_births : ℕ
most_births = 4294967295

-- ---- making

-- nobody attached, every number 0; request [7]: "A share starts at 0"
abbrev pub nobody : Session
nobody = record { registers = replicate register_count null; level = 0; share = 0; charge = 0; attached = false; scanned = false }

-- "A newly made control record has every number 0 and nobody attached, the three lengths apart", over the lent words
abbrev pub new_store : Lengths → List ℕ → List ℕ → List ℕ → Store
new_store n h0 h1 ws =
    record {
      lengths = n;
      memory = record { half0 = h0; half1 = h1; frontier0 = 0; frontier1 = 0 };
      current = 0;
      phase = at_rest;
      walk = record { place = 0; field = 0 };
      list = record { words = ws; head = 0; tail = 0 };
      births = 0;
      globals = replicate global_count null;
      sessions = replicate session_count nobody;
    }

-- the tests of making, on the lengths of the halves and of the list
unfoldable pub making : Lengths → Tested (Unit {0})
making n = do
  check (half_allowed n.half0 && half_allowed n.half1) 1
  check (eqb n.half0 n.half1) 2
  check (list_allowed n.half0 n.list) 3

abbrev pub lengths_of : List ℕ → List ℕ → List ℕ → Lengths
lengths_of h0 h1 ws = record { half0 = length h0; half1 = length h1; list = length ws }

-- "a refused making hands back one with every number 0. Making writes nothing to the halves"
abbrev pub made_by : Tested (Unit {0}) → Lengths → List ℕ → List ℕ → List ℕ → Outcome Store
made_by (refused m) n h0 h1 ws =
    record { store = new_store (record { half0 = 0; half1 = 0; list = 0 }) h0 h1 ws; reply = answer (Refused m) }
made_by (passed u) n h0 h1 ws = record { store = new_store n h0 h1 ws; reply = answer Done }

unfoldable pub make : List ℕ → List ℕ → List ℕ → Outcome Store
make h0 h1 ws = made_by (making (lengths_of h0 h1 ws)) (lengths_of h0 h1 ws) h0 h1 ws
