-- The test of following, on any memory: its parts as facts, and back; and that the replica of a record that passes it passes it too.
use Prim.Native.Nat.{ℕ}
use mathlib.Core.Path.{◌≡◌, refl, sym, ap}
use mathlib.Core.Logic.{◌≢◌}
use mathlib.Core.Bool.{true, not}
use borrow.Author.Tests.{eq-eqb, ne_eqb, eqb-true, eqb-false, not-true}
use Rattle.rules.specs.Refusals.{passed}
use Rattle.rules.specs.Memory.{Memory, null, half_of, replica, refs, plains, points_back, followable, followed}
use Rattle.rules.specs.Claims.{PointsBack, CanFollow}
use Rattle.rules.proofs.Ranges.{both, together, after_check}
use Rattle.rules.proofs.memory.Cases.{eq_or, or_second}

-- ---- a replica that points back

points_back_lem : (M : Memory) (w v : ℕ) → points_back M w v ≡ true → PointsBack M w v
unfolding points_back
points_back_lem M w v e =
    let a = both _ _ e in
    let b = both _ _ a.0 in
    let c = both _ _ b.0 in
    record { sound = c.0; across = eqb-false _ _ (not-true _ c.1); shape = eqb-true _ _ b.1; back = eqb-true _ _ a.1 }

back_points : {M : Memory} {w v : ℕ} → PointsBack M w v → points_back M w v ≡ true
unfolding points_back
back_points {M} {w} {v} p =
    together (together (together p.sound (ap not (ne_eqb (half_of w) (half_of v) p.across))) (eq-eqb _ _ p.shape)) (eq-eqb _ _ p.back)

-- ---- the test

pub can_follow : (M : Memory) (v : ℕ) → followable M v ≡ true → CanFollow M v
unfolding followable
can_follow M v e =
    let a = both _ _ e in
    record { sound = a.0; paired = λ n. points_back_lem M (replica M v) v (or_second _ _ a.1 (ne_eqb (replica M v) null n)) }

pub follows : {M : Memory} {v : ℕ} → CanFollow M v → followable M v ≡ true
unfolding followable
follows {M} {v} k = together k.sound (eq_or (replica M v) null (λ z. rw (eq-eqb (replica M v) null z)) (λ n. rw (ne_eqb (replica M v) null n) (back_points (k.paired n))))

-- following, by its test
pub follow_passes : {M : Memory} {v : ℕ} → CanFollow M v → followed M v ≡ passed tt
unfolding followed
follow_passes k = rw (follows k)

pub passed-follow : (M : Memory) (v : ℕ) → followed M v ≡ passed tt → CanFollow M v
unfolding followed
passed-follow M v e = can_follow M v (after_check {A = ℕ} {x = 0} (followable M v) 12 (passed 0) (rw e)).0

-- ---- the replica of a record that passes

module _ {M : Memory} {v : ℕ} (k : CanFollow M v) (n : replica M v ≢ null) where
  pub replica_follows : CanFollow M (replica M v)
  replica_follows =
      let p = k.paired n in
      record { sound = p.sound; paired = λ z. rw p.back (record { sound = k.sound; across = λ e. p.across (sym e); shape = sym p.shape; back = refl }) }

  pub replica-counts : (refs M (replica M v) ≡ refs M v) × (plains M (replica M v) ≡ plains M v)
  unfolding refs plains
  replica-counts = rw (k.paired n).shape (refl, refl)
