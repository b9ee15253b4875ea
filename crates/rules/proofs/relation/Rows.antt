-- How a row of tests ends, and that each number in it is one that a call may be refused with: one of `store_numbers`, and one of
-- `allocation_numbers` only of an allocation.
use Prim.Native.Nat.{ℕ}
use mathlib.Core.Path.{◌≡◌}
use mathlib.Core.Bool.{Bool, true, false, cond, not, ◌||◌}
use mathlib.Core.List.{List, [], ◌∷◌}
use lib.Dec.{eqb}
use Rattle.rules.specs.Refusals.{Tested, refused, passed, check, ◌>>=◌}
use Rattle.rules.specs.Memory.{Memory, followed, other_copy, forward}
use Rattle.rules.specs.Control.{Store}
use Rattle.rules.specs.Phases.{session_at}
use Rattle.rules.specs.Barriers as barriers
use Rattle.rules.specs.Calls as calls
use Rattle.rules.specs.Collector as collector
use Rattle.rules.specs.Claims.{store_numbers, allocation_numbers}
use Rattle.rules.specs.declared.Session.{Session}

-- where a test fails, P holds of its number; where all pass, Q holds of what they pass with
pub data Ends (P : ℕ → Type 0) {A : Type 0} (Q : A → Type 0) : Tested A → Type 0 where
  refuses : (n : ℕ) → P n → Ends P Q (refused n)
  passes : (a : A) → Q a → Ends P Q (passed a)

pub of_passed : {P : ℕ → Type 0} {A : Type 0} {Q : A → Type 0} {a : A} → Ends P Q (passed a) → Q a
of_passed (passes a h) = h

-- whatever they pass with
abbrev Any : {A : Type 0} → A → Type 0
Any a = Unit {0}

-- ---- a test, one row after another, a choice

module _ {P : ℕ → Type 0} where
  pub passes_any : {A : Type 0} (a : A) → Ends P Any (passed a)
  passes_any a = passes a tt

  pub one_test : (b : Bool) (n : ℕ) → P n → Ends P Any (check b n)
  one_test true n h = passes tt tt
  one_test false n h = refuses n h

  pub then_row : {A B : Type 0} {Q : A → Type 0} {R : B → Type 0} {m : Tested A} (k : A → Tested B) → Ends P Q m → ((a : A) → Q a → Ends P R (k a)) → Ends P R (m >>= k)
  then_row k (refuses n h) f = refuses n h
  then_row k (passes a h) f = f a h

  pub after_row : {A B : Type 0} {R : B → Type 0} {m : Tested A} (k : A → Tested B) → Ends P Any m → ((a : A) → Ends P R (k a)) → Ends P R (m >>= k)
  after_row k h f = then_row k h (λ a u. f a)

  pub map_row : {A : Type 0} {Q R : A → Type 0} {m : Tested A} → ((a : A) → Q a → R a) → Ends P Q m → Ends P R m
  map_row f (refuses n h) = refuses n h
  map_row f (passes a h) = passes a (f a h)

  pub either_row : {A : Type 0} {Q : A → Type 0} (b : Bool) {m k : Tested A} → Ends P Q m → Ends P Q k → Ends P Q (cond b m k)
  either_row true h f = h
  either_row false h f = f

-- ---- the numbers

abbrev pub listed : ℕ → List ℕ → Bool
listed n [] = false
listed n (k ∷ ks) = eqb n k || listed n ks

-- a number that a call may be refused with; room says whether it may be one of an allocation
pub data Allowed (room : Bool) (n : ℕ) : Type 0 where
  allowed : listed n store_numbers ≡ true → (not (listed n allocation_numbers) || room) ≡ true → Allowed room n

-- a row of tests with such numbers
abbrev pub Row : Bool → {A : Type 0} → Tested A → Type 0
Row room m = Ends (Allowed room) Any m

pub ruleset row = (passes_any, one_test, allowed, after_row, either_row)

-- ---- following, forwarding and the barriers

module _ {room : Bool} where
  pub followed_row : (M : Memory) (v : ℕ) → Row room (followed M v)
  unfolding followed
  followed_row M v = search row

  other_row : (M : Memory) (v : ℕ) → Row room (other_copy M v)
  unfolding other_copy
  other_row M v = search (row, followed_row)

  pub forward_row : (M : Memory) (to v : ℕ) → Row room (forward M to v)
  unfolding forward
  forward_row M to v = search (row, other_row)

  to_shade_row : (M : Memory) (v : ℕ) → Row room (barriers.to_shade M v)
  unfolding barriers.to_shade
  to_shade_row M v = search (row, followed_row)

  room_row : (z : barriers.Heap) (n : ℕ) → Row room (barriers.list_room z n)
  unfolding barriers.list_room
  room_row z n = search row

  pub shading_row : (z : barriers.Heap) (v : ℕ) → Row room (barriers.shading z v)
  unfolding barriers.shading
  shading_row z v = search (row, to_shade_row, room_row)

  to_shade_all_row : (M : Memory) (vs : List ℕ) → Row room (barriers.to_shade_all M vs)
  to_shade_all_row M [] = passes_any []
  to_shade_all_row M (v ∷ vs) = let ih = to_shade_all_row M vs in search (row, to_shade_row)

  pub shading_all_row : (z : barriers.Heap) (vs : List ℕ) → Row room (barriers.shading_all z vs)
  unfolding barriers.shading_all barriers.listing
  shading_all_row z vs = search (row, to_shade_all_row, room_row)

  shades_row : (z : barriers.Heap) (l old q : ℕ) → Row room (barriers.barrier_shades z l old q)
  unfolding barriers.barrier_shades
  shades_row z l old q = search (row, shading_all_row)

  pub replica_row : (M : Memory) (count : Memory → ℕ → ℕ) (l v i : ℕ) → Row room (barriers.replica_for M count l v i)
  unfolding barriers.replica_for
  replica_row M count l v i = search (row, followed_row)

  own_row : (z : barriers.Heap) (l v q : ℕ) → Row room (barriers.own_word z l v q)
  unfolding barriers.own_word
  own_row z l v q = search (row, forward_row, other_row)

  copy_row : (z : barriers.Heap) (l v q : ℕ) → Row room (barriers.replica_word z l v q)
  unfolding barriers.replica_word
  copy_row z l v q = search (row, forward_row, other_row)

  pub store_writes_row : (z : barriers.Heap) (l v i q : ℕ) → Row room (barriers.store_writes z l v i q)
  unfolding barriers.store_writes
  store_writes_row z l v i q = search (row, shades_row, replica_row, own_row, copy_row) depth 7

  pub put_writes_row : (z : barriers.Heap) (l old q : ℕ) → Row room (barriers.put_writes z l old q)
  unfolding barriers.put_writes
  put_writes_row z l old q = search (row, shades_row, own_row)

  pub same_at_row : (z : barriers.Heap) (l p q : ℕ) → Row room (barriers.same_at z l p q)
  unfolding barriers.same_at barriers.pointer_eq
  same_at_row z l p q = search (row, followed_row) depth 7

  pub forward_all_row : (M : Memory) (to : ℕ) (vs : List ℕ) → Row room (collector.forward_all M to vs)
  forward_all_row M to [] = passes_any []
  forward_all_row M to (v ∷ vs) = let ih = forward_all_row M to vs in search (row, forward_row)

-- ---- the session of a call, and the record in a register

module _ {room : Bool} (s : Store) where
  session_row : (n : ℕ) → Ends (Allowed room) (λ x. x ≡ session_at s n) (calls.session_of s n)
  unfolding calls.session_of
  session_row n = search (row, passes)

  -- what comes after the session's tests goes on with the session of that number
  pub of_session : {B : Type 0} {R : B → Type 0} (n : ℕ) (k : Session → Tested B) → Ends (Allowed room) R (k (session_at s n)) → Ends (Allowed room) R (calls.session_of s n >>= k)
  of_session n k h = then_row k (session_row n) (λ x e. rw e h)

  pub record_row : (n k o : ℕ) → Row room (calls.record_of s n k o)
  unfolding calls.record_of calls.operands_of
  record_row n k o = search (row, of_session, followed_row) depth 7
