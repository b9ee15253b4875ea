-- Copying a field: what it asks for, and what the rule is without the tests that pass.
use Prim.Native.Nat.{ℕ, ◌+◌, ◌-◌, ◌≤◌, ◌<◌}
use mathlib.Core.Path.{◌≡◌, ◌∙◌, refl}
use mathlib.Core.Logic.{◌≢◌}
use mathlib.Core.Bool.{Bool, true, false, not, ◌&&◌, ◌||◌}
use mathlib.Core.List.{List}
use native.Mathlib.Omega.{arith}
use lib.Dec.{leb, ltb}
use borrow.Author.Tests.{leb-true, lt-ltb, le-ltb}
use Rattle.rules.specs.Refusals.{Tested, refused, passed, ◌>>=◌}
use Rattle.rules.specs.Memory.{Memory, null, word, put, refs, plains, replica, followed, forward, header}
use Rattle.rules.specs.Control.{Store, with_memory, with_walk}
use Rattle.rules.specs.Phases.{tospace}
use Rattle.rules.specs.Collector.{copy_ref, copy_plain, copy_field}
use Rattle.rules.specs.Claims.{CanFollow}
use Rattle.rules.proofs.memory.Cases.{lt_or}
use Rattle.rules.proofs.memory.Followed.{can_follow, follow_passes, replica_follows, replica-counts}
use Rattle.rules.proofs.memory.Records.{size-fields}
use Rattle.heap.specs.View.{memory, Inside}
use Rattle.heap.proofs.Soundness.{sound_inside}
use Rattle.store.specs.Copies.{copied_word, Copying}
use Rattle.store.specs.declared.Cursor.{Cursor}

-- ---- one field

-- a word made of what passed, and more made of it
then_more : {A B C : Type 0} (m : Tested A) (f : A → B) (g : B → C) → ((m >>= λ y. passed (f y)) >>= λ z. passed (g z)) ≡ (m >>= λ y. passed (g (f y)))
then_more (refused n) f g = refl
then_more (passed a) f g = refl

-- v, a record of r reference fields, was followed, and t is its replica; q is the field at the walk field
module _ (s : Store) {v t r q : ℕ} (k : CanFollow s.memory v) (w : t ≡ replica s.memory v) (n : t ≡ null → ⊥) (c : r ≡ refs s.memory v)
    (l : s.walk.field < r + plains s.memory v) (x : q ≡ word s.memory v (header + s.walk.field)) where
  paired : replica s.memory v ≢ null
  paired e = n (w ∙ e)

  -- the replica can be followed, and has as many fields
  follows_there : followed s.memory t ≡ passed tt
  follows_there = rw w (follow_passes (replica_follows k paired))

  refs_there : refs s.memory t ≡ r
  refs_there = rw (w, c) (replica-counts k paired).0

  plains_there : plains s.memory t ≡ plains s.memory v
  plains_there = rw w (replica-counts k paired).1

  -- the field written to the replica, and the store that the step leaves
  abbrev written : ℕ → Memory
  written = put s.memory t (header + s.walk.field)

  abbrev gone_on : Memory → Store
  gone_on N = with_walk (with_memory s N) s.walk.place (s.walk.field + 1)

  -- the rule, without the tests that pass
  as_ref : s.walk.field < r → copy_field s v s.walk.field ≡ (forward s.memory (tospace s) q >>= λ y. passed (gone_on (written y)))
  unfolding copy_field copy_ref
  as_ref g = rw (← w, follows_there, ← c, lt-ltb s.walk.field r g, refs_there, lt-ltb s.walk.field r g, ← x)
      (then_more (forward s.memory (tospace s) q) written gone_on)

  as_plain : r ≤ s.walk.field → copy_field s v s.walk.field ≡ passed (gone_on (written q))
  unfolding copy_field copy_plain
  as_plain g =
      let j : header + r + (s.walk.field - r) ≡ header + s.walk.field = omega arith in
      rw (← w, follows_there, ← c, le-ltb s.walk.field r g, plains_there, lt-ltb (s.walk.field - r) (plains s.memory v) (omega arith), refs_there, j, ← x)

  as_copied : copy_field s v s.walk.field ≡ (copied_word s r q >>= λ y. passed (gone_on (written y)))
  as_copied = lt_or s.walk.field r
      (λ g. as_ref g ∙ rw (lt-ltb s.walk.field r g))
      (λ g. as_plain g ∙ rw (le-ltb s.walk.field r g))

  pub field_lost : refused 12 ≡ copied_word s r q → copy_field s v s.walk.field ≡ refused 12
  field_lost e = rw (as_copied, ← e)

  pub field_copied : {N : Memory} {y : ℕ} → passed y ≡ copied_word s r q → N ≡ put s.memory t (header + s.walk.field) y
      → copy_field s v s.walk.field ≡ passed (with_walk (with_memory s N) s.walk.place (s.walk.field + 1))
  field_copied e m = rw (as_copied, ← e, m)

-- what copying a field asks for: both copies have it
module _ {c : Cursor} {h0 h1 : List ℕ} {v t r : ℕ} (k : Copying c h0 h1 v t r) where
  pub copy_follows : CanFollow (memory h0 h1 c.frontier0 c.frontier1) v
  copy_follows = can_follow _ _ k.here

  has_replica : replica (memory h0 h1 c.frontier0 c.frontier1) v ≢ null
  has_replica e = k.paired (k.replica ∙ e)

  pub field-here : Inside h0 h1 v (header + c.field)
  field-here = sound_inside h0 h1 _ _ v copy_follows.sound k.ranges.low k.ranges.high _ (omega (arith, size-fields (memory h0 h1 c.frontier0 c.frontier1) v, k.count, k.left))

  pub field_there : Inside h0 h1 t (header + c.field)
  field_there =
      let n = replica-counts copy_follows has_replica in
      rw k.replica (sound_inside h0 h1 _ _ _ (replica_follows copy_follows has_replica).sound k.ranges.low k.ranges.high _
      (omega (arith, size-fields (memory h0 h1 c.frontier0 c.frontier1) (replica (memory h0 h1 c.frontier0 c.frontier1) v), n.0, n.1, k.count, k.left)))

-- no replica, or no field left, as the code asks and as the rules do
pub none_left : (a : Bool) (n i : ℕ) → (a || leb n i) ≡ true → (not a && ltb i n) ≡ false
none_left true n i e = refl
none_left false n i e = le-ltb i n (leb-true n i e)
