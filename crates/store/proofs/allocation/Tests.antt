-- Allocation: its tests, room and birth numbers left, and the record written in one half or in both.
use Prim.Native.Nat.{ℕ, ◌+◌, ◌≤◌, ◌<◌}
use mathlib.Core.Path.{◌≡◌, ◌∙◌, refl}
use mathlib.Core.Bool.{Bool, true, false, ◌&&◌}
use mathlib.Core.List.{List}
use native.Mathlib.Omega.{arith}
use lib.Dec.{leb}
use lib.ListN.{get_or}
use borrow.Author.Tests.{leb-true, le-leb, ltb-true}
use Rattle.rules.specs.Refusals.{Tested, passed, check, ◌>>◌, tests_of, done}
use Rattle.rules.specs.Memory.{header, most_count, size_of}
use Rattle.rules.specs.Control.{Store, with_memory, with_births, most_births, last_register, last_session}
use Rattle.rules.specs.Phases.{absent, session_at}
use Rattle.rules.specs.Barriers.{allocation_room, next_birth, allocated, allocated_reference}
use Rattle.rules.specs.Calls.{session_of, is_register, is_shape, within_share, number_left, with_register, charged, allocate}
use Rattle.rules.specs.declared.Session.{Session}
use Rattle.rules.proofs.Ranges.{both, InRange, in_session, session-passed}
use Rattle.store.specs.View.{view}
use Rattle.store.specs.Allocation.{Fits, Small, last_tests, Allocatable}
use Rattle.store.specs.declared.Control.{Control}
use Rattle.store.proofs.tests.Results.{all_passed, first-passed, check-passed, known, let_in, session_tests}
use Rattle.store.proofs.allocation.Record.{next_birth_lem}

-- ---- what the session tests give

module _ (c : Control) (h0 h1 l : List ℕ) where
  fits : InRange (view c h0 h1 l) → Fits c h0 h1
  fits k = record { low = k.lent0; high = k.equal ∙ k.lent1 }

  small : (r p : ℕ) → InRange (view c h0 h1 l) → (leb r most_count && leb p most_count) ≡ true → Small c r p
  small r p k e =
      let b = both (leb r most_count) (leb p most_count) e in
      record { half = k.half; low = omega (arith, k); high = omega (arith, k); refs = leb-true r 255 b.0; plains = leb-true p 255 b.1 }

  module _ (n : ℕ) (e : passed tt ≡ tests_of (session_of (view c h0 h1 l) n)) where
    pub fits_lent : Fits c h0 h1
    fits_lent = fits (known (view c h0 h1 l) n e).known

    pub small_shape : (r p : ℕ) → (leb r most_count && leb p most_count) ≡ true → Small c r p
    small_shape r p = small r p (known (view c h0 h1 l) n e).known

-- the last tests give nothing more
last_alone : {A : Type 0} (x : A) (a b c : Bool)
    → (check a 17 >> (check b 14 >> check c 16)) ≡ tests_of (check a 17 >> (check b 14 >> (check c 16 >> passed x)))
last_alone x true true true = refl
last_alone x true true false = refl
last_alone x true false c = refl
last_alone x false b c = refl

-- behind the tests before them, they decide
pub last_decide : {t : Tested (Unit {0})} (s : Store) (n k r p : ℕ) → passed tt ≡ tests_of (session_of s n)
    → k ≤ last_register → (leb r most_count && leb p most_count) ≡ true
    → t ≡ last_tests s (session_at s n) r p → t ≡ tests_of (allocate s n k r p)
unfolding allocate
last_decide s n k r p a i j e =
    rw (let_in s n a, le-leb k last_register i, j)
    (e ∙ last_alone _ (within_share (session_at s n) r p) (allocation_room s (session_at s n).level r p) (number_left s.births))

pub ruleset allocation_tests = (session_tests, fits_lent, small_shape)

-- the store with the record allocated at level l
abbrev after : Store → ℕ → ℕ → ℕ → ℕ → ℕ → Store
after s n k l r p = charged (with_register (with_births (with_memory s (allocated s l r p)) (next_birth s)) n k (allocated_reference s l)) n (size_of r p)

-- what holds where the tests passed
record Allocating (c : Control) (h0 h1 g : List ℕ) (n k r p : ℕ) : Type 0 where
  pub number : n ≤ last_session
  pub register : k ≤ last_register
  pub share : within_share (session_at (view c h0 h1 g) n) r p ≡ true
  pub ready : Allocatable c h0 h1 (session_at (view c h0 h1 g) n).level r p
  pub outcome : allocate (view c h0 h1 g) n k r p ≡ done (after (view c h0 h1 g) n k (session_at (view c h0 h1 g) n).level r p)

any_list : (c : Control) (h0 h1 g m : List ℕ) (l r p : ℕ) → allocation_room (view c h0 h1 g) l r p ≡ true → allocation_room (view c h0 h1 m) l r p ≡ true
unfolding allocation_room
any_list c h0 h1 g m l r p e = e

module _ (c : Control) (h0 h1 g : List ℕ) (n k r p : ℕ) (e : passed tt ≡ tests_of (allocate (view c h0 h1 g) n k r p)) where
  facts : Allocating c h0 h1 g n k r p
  unfolding allocate number_left
  facts =
      let s = view c h0 h1 g in
      let x = session_at s n in
      let z = all_passed (allocate s n k r p) e in
      let f = session-passed s n (first-passed (session_of s n) _ z) in
      let t = check-passed (is_register k) 7 _ (rw f at z) in
      let u = check-passed (is_shape r p) 9 _ t.1 in
      let y = check-passed (within_share x r p) 16 _ u.1 in
      let v = check-passed (allocation_room s x.level r p) 13 _ y.1 in
      let w = check-passed (number_left s.births) 15 _ v.1 in
      let i = in_session s n f in
      record {
        number = i.number;
        register = leb-true k 7 t.0;
        share = y.0;
        ready = record { small = small c h0 h1 g r p i.known u.0; left = ltb-true c.births most_births w.0; room = λ m. any_list c h0 h1 g m x.level r p v.0 };
        outcome = rw (f, t.0, u.0, y.0, v.0, w.0);
      }

  pub allocating_number : n ≤ last_session
  allocating_number = facts.number

  pub allocating_register : k ≤ last_register
  allocating_register = facts.register

  pub allocating_small : Small c r p
  allocating_small = facts.ready.small

  pub allocating_left : c.births < most_births
  allocating_left = facts.ready.left

  pub allocating_ready : {l : ℕ} → l ≡ (get_or c.sessions n absent).level → Allocatable c h0 h1 l r p
  unfolding session_at
  allocating_ready q = rw q facts.ready

  -- the session has its charge and its share as they were while the record is written
  pub allocating_share : {xs : List Session} → xs ≡ c.sessions → (get_or xs n absent).charge + (header + r + p) ≤ (get_or xs n absent).share
  unfolding within_share session_at
  allocating_share q = rw q (leb-true _ _ facts.share)

  pub allocated_done : {t u : Store} {v : ℕ}
      → v ≡ allocated_reference (view c h0 h1 g) (session_at (view c h0 h1 g) n).level
      → u ≡ with_memory (view c h0 h1 g) (allocated (view c h0 h1 g) (session_at (view c h0 h1 g) n).level r p)
      → t ≡ charged (with_register (with_births u (c.births + 1)) n k v) n (size_of r p)
      → allocate (view c h0 h1 g) n k r p ≡ done t
  allocated_done x y z = rw (facts.outcome, z, y, x, next_birth_lem (view c h0 h1 g))

pub ruleset allocating = (allocating_number, allocating_register, allocating_small, allocating_left, allocating_ready, allocating_share)
