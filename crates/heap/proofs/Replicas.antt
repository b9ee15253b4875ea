-- The replica that a write goes to as well: where the record was followed its tests pass.
use Prim.Native.Nat.{ℕ, ◌<◌}
use mathlib.Core.Path.{◌≡◌, ◌∙◌}
use mathlib.Core.Logic.{◌≢◌}
use mathlib.Core.Bool.{Bool, true, false, cond}
use borrow.Author.Tests.{eq-eqb, ne_eqb, lt-ltb}
use lib.Dec.{eqb}
use Rattle.rules.specs.Refusals.{passed, ◌>>=◌}
use Rattle.rules.specs.Memory.{Memory, null, word, replica, refs, plains, ref_field, followable}
use Rattle.rules.specs.Barriers.{Heap, shades_at, copies_at, replica_for, own_word, replica_word, store_writes}
use Rattle.rules.specs.Claims.{CanFollow}
use Rattle.rules.proofs.memory.Cases.{bool_or, eq_or}
use Rattle.rules.proofs.memory.Followed.{can_follow, follow_passes, replica_follows, replica-counts}
use Rattle.heap.specs.View.{written_replica}
use Rattle.heap.proofs.Levels.{unshaded}

-- a kind of fields: the plain ones, or the references
abbrev pub count_of : Bool → Memory → ℕ → ℕ
count_of plain = cond plain plains refs

module _ {M : Memory} {v : ℕ} (k : CanFollow M v) (plain : Bool) (l i : ℕ) (h : i < count_of plain M v) where
  -- the replica has field i as well
  has_field : (plain : Bool) → i < count_of plain M v → replica M v ≢ null → i < count_of plain M (replica M v)
  has_field true h n = rw (replica-counts k n).1 h
  has_field false h n = rw (replica-counts k n).0 h

  pub replica_written : replica_for M (count_of plain) l v i ≡ passed (written_replica M l v)
  unfolding replica_for
  replica_written = bool_or (copies_at l)
      (λ t. eq_or (replica M v) null
      (λ z. rw (t, eq-eqb (replica M v) null z, z))
      (λ n. rw (t, ne_eqb (replica M v) null n, follow_passes (replica_follows k n), lt-ltb i (count_of plain M (replica M v)) (has_field plain h n))))
      (λ f. rw f)

-- one that is written is the replica
pub written_is : (M : Memory) (l v : ℕ) {t : ℕ} → t ≡ written_replica M l v → (t ≡ 0 → ⊥) → t ≡ replica M v
written_is M l v e n = bool_or (copies_at l) (λ y. e ∙ rw y) (λ y. absurd (n (e ∙ rw y)))

-- a store where nothing is shaded, into a record that was followed
pub as_copied : (z : Heap) (l v i q : ℕ) → followable z.memory v ≡ true → i < refs z.memory v → shades_at l ≡ false
    → store_writes z l v i q ≡ (own_word z l v q >>= (λ (own : ℕ). cond (eqb (written_replica z.memory l v) null) (passed null) (replica_word z l v q)
    >>= (λ (copy : ℕ). passed (record { first = null; second = null; own = own; replica = written_replica z.memory l v; copy = copy }))))
unfolding store_writes
as_copied z l v i q f h e = rw (unshaded z l (word z.memory v (ref_field i)) q e, replica_written (can_follow z.memory v f) false l i h)
