-- The control record stays in range: limits, another memory, and other numbers, words and sessions beside it.
use Prim.Native.Nat.{ℕ, zero, suc, ◌≤◌, ◌<◌, zero-le}
use mathlib.Core.Path.{◌≡◌, refl, sym, ◌∙◌}
use mathlib.Core.Logic.{◌≢◌}
use mathlib.Core.List.{List}
use native.Mathlib.Omega.{arith}
use lib.Dec.{eqb, leb, leb→le}
use lib.ListN.{length, get_or}
use borrow.Author.Tests.{ne_eqb}
use Rattle.rules.specs.Memory.{Memory, half, frontier}
use Rattle.rules.specs.Control.{Store, Walk, Grey, with_memory, with_walk, with_list, with_globals, with_births, with_sessions, with_current, walk_limit, last_level, most_fields}
use Rattle.rules.specs.Phases.{session_at, absent, move_on}
use Rattle.rules.specs.Cycle.{next_phase, stage, last_phase, phase_count, at_root_mark, at_root_flip}
use Rattle.rules.specs.declared.Session.{Session}
use Rattle.rules.proofs.Ranges.{InRange}
use Rattle.rules.proofs.memory.Cases.{chosen_below}
use Rattle.rules.proofs.memory.Records.{Filled}
use Rattle.rules.proofs.invariant.Stages.{st_root_mark, st_root_flip, at_each, stage_is}
use Rattle.rules.proofs.invariant.Unmarked.{unmarked_level}

-- ---- limits

-- no frontier passes the half length
pub frontier_range : {s : Store} → InRange s → (h : ℕ) → frontier s.memory h ≤ s.lengths.half0
unfolding frontier
frontier_range {s} k h = chosen_below (eqb h 0) s.memory.frontier0 s.memory.frontier1 s.lengths.half0 k.front0 k.front1

-- both halves are as long as the control record says
pub half_length : {s : Store} → InRange s → (h : ℕ) → h < 2 → length (half s.memory h) ≡ s.lengths.half0
unfolding half
half_length k zero l = sym k.lent0
half_length k (suc zero) l = omega (arith, k.lent1, k.equal)
half_length k (suc (suc h)) l = absurd (omega arith)

-- but in RootMark and RootFlip the walk place goes up to the half length
pub limit_length : (ph n : ℕ) → stage ph ≢ st_root_mark → stage ph ≢ st_root_flip → walk_limit ph n ≡ n
unfolding walk_limit
limit_length ph n a b = rw (ne_eqb ph at_root_mark (λ e. a (stage_is e)), ne_eqb ph at_root_flip (λ e. b (stage_is e)))

next-most : (ph : ℕ) → ph ≤ last_phase → next_phase ph ≤ last_phase
unfolding next_phase
next-most ph l = leb→le _ _ (at_each phase_count (λ i. leb (next_phase i) last_phase) tt ph (omega arith))

-- ---- changes

-- what is asked of the numbers, the list's words and the sessions
record Numbers (s : Store) (cur ph : ℕ) (w : Walk) (l : Grey) (xs : List Session) : Type 0 where
  half : cur ≤ 1
  phases : ph ≤ last_phase
  places : w.place ≤ walk_limit ph s.lengths.half0
  fields : w.field ≤ most_fields
  same : length l.words ≡ length s.list.words
  begins : l.head ≤ l.tail
  ends : l.tail ≤ s.lengths.list
  levels : (n : ℕ) → (get_or xs n absent).level ≤ last_level

module _ {s : Store} (k : InRange s) where
  -- another memory, filled, with halves as long as before
  pub range_memory : {M' : Memory} → Filled M' → ((h : ℕ) → length (half M' h) ≡ length (half s.memory h)) → InRange (with_memory s M')
  unfolding half frontier session_at
  range_memory f e = record {
    lent0 = k.lent0 ∙ sym (e 0);
    lent1 = k.lent1 ∙ sym (e 1);
    lent2 = k.lent2;
    least = k.least;
    most = k.most;
    equal = k.equal;
    enough = k.enough;
    half = k.half;
    front0 = let z = f.fits 0 (omega arith) in omega (arith, z, e 0, k.lent0);
    front1 = let z = f.fits 1 (omega arith) in omega (arith, z, e 1, k.lent1, k.equal);
    phases = k.phases;
    places = k.places;
    fields = k.fields;
    begins = k.begins;
    ends = k.ends;
    levels = k.levels;
  }

  -- anything but the memory and the lengths
  range_control : {cur ph : ℕ} {w : Walk} {l : Grey} (b : ℕ) (gs : List ℕ) {xs : List Session} → Numbers s cur ph w l xs
      → InRange (record { lengths = s.lengths; memory = s.memory; current = cur; phase = ph; walk = w; list = l; births = b; globals = gs; sessions = xs })
  unfolding session_at
  range_control b gs a = record {
    lent0 = k.lent0;
    lent1 = k.lent1;
    lent2 = k.lent2 ∙ sym a.same;
    least = k.least;
    most = k.most;
    equal = k.equal;
    enough = k.enough;
    half = a.half;
    front0 = k.front0;
    front1 = k.front1;
    phases = a.phases;
    places = a.places;
    fields = a.fields;
    begins = a.begins;
    ends = a.ends;
    levels = a.levels;
  }

  -- another walk, list and sessions
  pub range_with : {p i : ℕ} {ws : List ℕ} {head tail : ℕ} {xs : List Session} → p ≤ walk_limit s.phase s.lengths.half0 → i ≤ most_fields
      → length ws ≡ length s.list.words → head ≤ tail → tail ≤ length s.list.words → ((n : ℕ) → (get_or xs n absent).level ≤ last_level)
      → InRange (with_sessions (with_list (with_walk s p i) ws head tail) xs)
  range_with a b c d e g = range_control s.births s.globals (record {
    half = k.half;
    phases = k.phases;
    places = a;
    fields = b;
    same = c;
    begins = d;
    ends = omega (arith, k.lent2);
    levels = g;
  })

  own-levels : (n : ℕ) → (get_or s.sessions n absent).level ≤ last_level
  unfolding session_at
  own-levels = k.levels

  own_ends : s.list.tail ≤ length s.list.words
  own_ends = omega (arith, k.ends, k.lent2)

  -- one of them
  pub range_walk : (p i : ℕ) → p ≤ walk_limit s.phase s.lengths.half0 → i ≤ most_fields → InRange (with_walk s p i)
  range_walk p i a b = range_with a b refl k.begins own_ends own-levels

  pub range_emptied : InRange (with_list s s.list.words 0 0)
  range_emptied = range_with k.places k.fields refl zero-le zero-le own-levels

  pub range_sessions : (xs : List Session) → ((n : ℕ) → (get_or xs n absent).level ≤ last_level) → InRange (with_sessions s xs)
  range_sessions xs g = range_with k.places k.fields refl k.begins own_ends g

  -- other globals, another count of birth numbers, another current half, the next phase
  own-numbers : Numbers s s.current s.phase s.walk s.list s.sessions
  own-numbers = record {
    half = k.half;
    phases = k.phases;
    places = k.places;
    fields = k.fields;
    same = refl;
    begins = k.begins;
    ends = k.ends;
    levels = own-levels;
  }

  pub range_globals : (gs : List ℕ) → InRange (with_globals s gs)
  range_globals gs = range_control s.births gs own-numbers

  pub range_births : (n : ℕ) → InRange (with_births s n)
  range_births n = range_control n s.globals own-numbers

  pub range_current : (h : ℕ) → h ≤ 1 → InRange (with_current s h)
  range_current h l = range_control s.births s.globals (record {
    half = l;
    phases = k.phases;
    places = k.places;
    fields = k.fields;
    same = refl;
    begins = k.begins;
    ends = k.ends;
    levels = own-levels;
  })

  pub range_moved : InRange (move_on s)
  unfolding move_on
  range_moved = range_control s.births s.globals (record {
    half = k.half;
    phases = next-most s.phase k.phases;
    places = zero-le;
    fields = zero-le;
    same = refl;
    begins = k.begins;
    ends = k.ends;
    levels = λ n. rw (unmarked_level s.sessions n) (own-levels n);
  })
