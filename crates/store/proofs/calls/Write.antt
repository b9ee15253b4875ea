-- A write of a plain field, by its plan: the words written are words of their halves, and the replica has the same shape.
use Prim.Native.Nat.{ℕ, ◌<◌}
use mathlib.Core.Path.{◌≡◌, ◌∙◌, sym, ap}
use mathlib.Core.Bool.{true}
use lib.Dec.{ltb}
use borrow.Author.Tests.{ltb-true, eq-eqb}
use Rattle.rules.specs.Refusals.{passed}
use Rattle.rules.specs.Memory.{Memory, replica, refs, plains, plain_field, followable}
use Rattle.rules.specs.Control.{Store}
use Rattle.rules.specs.Barriers.{replica_for, put_both}
use Rattle.rules.specs.declared.WritePlan.{WritePlan}
use Rattle.rules.specs.Calls.{record_of, write_plan}
use Rattle.rules.specs.Claims.{CanFollow}
use Rattle.rules.proofs.Ranges.{InRange, fronts, after_check}
use Rattle.rules.proofs.memory.Cases.{eq_or}
use Rattle.rules.proofs.memory.Followed.{can_follow, replica_follows, replica-counts}
use Rattle.heap.proofs.Passed.{bind_passed, same-passed}
use Rattle.heap.proofs.Fields.{plain_inside}
use Rattle.heap.proofs.Replicas.{replica_written, written_is}
use Rattle.heap.specs.View.{written_replica, Inside}
use Rattle.store.proofs.tests.Opening.{recorded}

-- the replica of a record that can be followed needs no test
pub replica_passes : (M : Memory) (l v i : ℕ) → followable M v ≡ true → i < plains M v → replica_for M plains l v i ≡ passed (written_replica M l v)
replica_passes M l v i f h = replica_written (can_follow M v f) true l i h

-- what is known where the tests of a write passed
record Targets (s : Store) (i : ℕ) (w : WritePlan) : Type 0 where
  pub known : InRange s
  pub follows : CanFollow s.memory w.own
  pub refs : w.refs ≡ refs s.memory w.own
  pub field : i < plains s.memory w.own
  pub copied : (w.replica ≡ 0 → ⊥) → w.replica ≡ replica s.memory w.own

targets : {w : WritePlan} (s : Store) (n k i : ℕ) → write_plan s n k i ≡ passed w → Targets s i w
unfolding write_plan
targets {w} s n k i e =
    let a = bind_passed (record_of s n k k) _ e in
    let x = a.0 in
    let b = recorded s n k k a.1 in
    let d = after_check (ltb i (plains s.memory x.own)) 13 _ a.2 in
    let f = bind_passed (replica_for s.memory plains x.level x.own i) _ d.1 in
    let q : record { own = x.own; refs = refs s.memory x.own; replica = f.0 } ≡ w = same-passed f.2 in
    let o : x.own ≡ w.own = ap (λ (y : WritePlan). y.own) q in
    let r : refs s.memory x.own ≡ w.refs = ap (λ (y : WritePlan). y.refs) q in
    let t : f.0 ≡ w.replica = ap (λ (y : WritePlan). y.replica) q in
    let l = ltb-true i (plains s.memory x.own) d.0 in
    record {
      known = b.0.known;
      follows = rw o at b.1;
      refs = rw o at (sym r);
      field = rw o at l;
      copied = λ z. rw o at (written_is s.memory x.level x.own (sym t ∙ same-passed (sym f.1 ∙ replica_written b.1 true x.level i l)) z);
    }

module _ {w : WritePlan} (s : Store) (n k i : ℕ) (e : passed w ≡ write_plan s n k i) where
  target : Targets s i w
  target = targets s n k i (sym e)

  replica-refs : (w.replica ≡ 0 → ⊥) → refs s.memory w.replica ≡ w.refs
  replica-refs z = let e = target.copied z in rw (e, target.refs) (replica-counts target.follows (λ y. z (e ∙ y))).0

  -- a replica has the same fields, and so the field at the same word; the words that are written are words of their halves
  pub targets_inside : Inside s.memory.half0 s.memory.half1 w.own (plain_field w.refs i)
      × ((w.replica ≡ 0 → ⊥) → Inside s.memory.half0 s.memory.half1 w.replica (plain_field w.refs i))
  targets_inside =
      let q = fronts target.known in (
        rw target.refs (plain_inside _ _ _ _ w.own target.follows.sound q.0 q.1 i target.field),
        λ z. let e = target.copied z in
            let n = replica-counts target.follows (λ y. z (e ∙ y)) in
            rw (← replica-refs z) (plain_inside _ _ _ _ w.replica (rw e (replica_follows target.follows (λ y. z (e ∙ y))).sound) q.0 q.1 i (rw (e, n.1) target.field)),
      )

  -- where there is no replica, any word does for it
  pub same_word : (x : ℕ) → put_both s.memory w.own (plain_field w.refs i) x w.replica (plain_field (refs s.memory w.replica) i) x
      ≡ put_both s.memory w.own (plain_field w.refs i) x w.replica (plain_field w.refs i) x
  unfolding put_both
  same_word x = eq_or w.replica 0 (λ z. rw (eq-eqb w.replica 0 z)) (λ z. rw (replica-refs z))
