-- What is known of the records that a plan writes: they are sound, and the list has room.
use Prim.Native.Nat.{ℕ, zero, suc, ◌+◌, ◌≤◌, ◌<◌}
use mathlib.Core.Path.{◌≡◌, ◌∙◌, refl, ap}
use mathlib.Core.Bool.{Bool, true, false, cond, not, ◌||◌}
use mathlib.Core.List.{List, [], ◌∷◌}
use native.Mathlib.Omega.{arith}
use native.Mathlib.Nat.{le_of_suc-le-suc, not-suc-le-zero}
use lib.Dec.{leb, ltb, eqb}
use lib.ListN.{length, get_or, get_or-eq_default}
use borrow.Author.Tests.{leb-true, ltb-true, eqb-false, ne_eqb}
use Rattle.rules.specs.Refusals.{Tested, passed, check, ◌>>=◌, ◌>>◌}
use Rattle.rules.specs.Memory.{Memory, word, replica, refs, ref_field, sound, followable, followed}
use Rattle.rules.specs.Barriers.{Heap, to_shade, list_room, shading, without, to_shade_all, listing, shading_all, shades_at, shades_old_at, barrier_shades, copies_at, replica_for, own_word, replica_word, store_writes, put_writes}
use Rattle.rules.specs.declared.Writes.{Writes}
use Rattle.rules.proofs.Ranges.{after_check}
use Rattle.rules.proofs.memory.Cases.{lt_or, bool_or}
use Rattle.rules.proofs.memory.Followed.{can_follow}
use Rattle.rules.proofs.marking.Whites.{All, all_none, all_more, without_all}
use Rattle.heap.proofs.Passed.{bind_passed, second-passed, same-passed}
use Rattle.heap.proofs.ToShade.{to_shade-sound, split}

-- ---- shading several references

-- the records found are sound
abbrev AllSound : Memory → List ℕ → Type 0
AllSound M ws = All (λ u. sound M u ≡ true) ws

found-step : (M : Memory) (v w : ℕ) (ws : List ℕ) (b : Bool) → eqb w 0 ≡ b → to_shade M v ≡ passed w → AllSound M ws → AllSound M (cond b ws (w ∷ without w ws))
found-step M v w ws true q e a = a
found-step M v w ws false q e a = all_more {v = w} (to_shade-sound M v w e (eqb-false w 0 q)) (without_all w a)

found-sound : (M : Memory) (vs ws : List ℕ) → to_shade_all M vs ≡ passed ws → AllSound M ws
found-sound M [] ws e = rw (← same-passed e) all_none
found-sound M (v ∷ vs) ws e =
    let k = split M v vs ws e in
    rw (← k.joined) (found-step M v k.one k.others (eqb k.one 0) refl k.tested (found-sound M vs k.others k.rest))

each : (M : Memory) {ws : List ℕ} → AllSound M ws → (j : ℕ) → j < length ws → sound M (get_or ws j 0) ≡ true
each M all_none j h = absurd (not-suc-le-zero h)
each M (all_more e a) zero h = e
each M (all_more e a) (suc j) h = each M a j (le_of_suc-le-suc h)

whites-sound : (M : Memory) (vs ws : List ℕ) → to_shade_all M vs ≡ passed ws → (j : ℕ) → j < length ws → sound M (get_or ws j 0) ≡ true
whites-sound M vs ws e = each M (found-sound M vs ws e)

-- ---- room in the list

-- a record to shade after j others is sound, and the list has room for it
pub record Shadable (z : Heap) (w j : ℕ) : Type 0 where
  pub sound : sound z.memory w ≡ true
  pub room : z.tail + j < z.capacity

pub shading-known : (z : Heap) (v w : ℕ) → shading z v ≡ passed w → (w ≡ 0 → ⊥) → Shadable z w 0
unfolding shading list_room
shading-known z v w e n =
    let a = bind_passed (to_shade z.memory v) (λ (u : ℕ). check (leb (z.tail + cond (eqb u 0) 0 1) z.capacity) 12 >> passed u) e in
    let b = after_check (leb (z.tail + cond (eqb a.0 0) 0 1) z.capacity) 12 (passed a.0) a.2 in
    let c : a.0 ≡ w = same-passed b.1 in
    let d : z.tail + 1 ≤ z.capacity = leb-true (z.tail + 1) z.capacity (rw (c, ne_eqb w 0 n) at b.0) in
    record { sound = to_shade-sound z.memory v w (rw c at a.1) n; room = omega arith }

-- an entry that isn't null is one of the list
entered : (ws : List ℕ) (j : ℕ) → (get_or ws j 0 ≡ 0 → ⊥) → j < length ws
entered ws j n = lt_or j (length ws) (λ h. h) (λ h. absurd (n (get_or-eq_default ws 0 h)))

shading_all-known : (z : Heap) (vs ws : List ℕ) → shading_all z vs ≡ passed ws → (j : ℕ) → (get_or ws j 0 ≡ 0 → ⊥) → Shadable z (get_or ws j 0) j
unfolding shading_all listing list_room
shading_all-known z vs ws e j n =
    let a = bind_passed (to_shade_all z.memory vs) (λ (us : List ℕ). check (leb (z.tail + length us) z.capacity) 12 >> passed us) e in
    let b = after_check (leb (z.tail + length a.0) z.capacity) 12 (passed a.0) a.2 in
    let c : a.0 ≡ ws = same-passed b.1 in
    let d : z.tail + length ws ≤ z.capacity = leb-true (z.tail + length ws) z.capacity (rw c at b.0) in
    let h = entered ws j n in
    record { sound = whites-sound z.memory vs ws (rw c at a.1) j h; room = omega arith }

-- what a plan shades: the first record and the second, where there are any
pub record Shading (z : Heap) (v w : ℕ) : Type 0 where
  pub first : (v ≡ 0 → ⊥) → Shadable z v 0
  pub second : (w ≡ 0 → ⊥) → Shadable z w 1

barrier_known : (z : Heap) (l old q : ℕ) (vs : List ℕ) → barrier_shades z l old q ≡ passed vs → Shading z (get_or vs 0 0) (get_or vs 1 0)
unfolding barrier_shades
barrier_known z l old q vs e = bool_or (shades_at l)
    (λ t. let a = shading_all-known z (cond (shades_old_at l) old 0 ∷ q ∷ []) vs (rw t at e) in record { first = a 0; second = a 1 })
    (λ f. let a : [] ≡ vs = same-passed (rw f at e) in record { first = λ n. absurd (n (rw (← a))); second = λ n. absurd (n (rw (← a))) })

-- ---- the replica written

-- a replica written is sound and has the field
pub record Copied (M : Memory) (count : Memory → ℕ → ℕ) (t i : ℕ) : Type 0 where
  pub sound : sound M t ≡ true
  pub field : i < count M t

pub replica-known : (M : Memory) (count : Memory → ℕ → ℕ) (l v i t : ℕ) → replica_for M count l v i ≡ passed t → (t ≡ 0 → ⊥) → Copied M count t i
unfolding replica_for followed
replica-known M count l v i t e n =
    let u = replica M v in
    let a = second-passed (not (copies_at l) || eqb u 0) (check (followable M u) 12 >> (check (ltb i (count M u)) 12 >> passed u)) e n in
    let b = after_check (followable M u) 12 (check (ltb i (count M u)) 12 >> passed u) a.1 in
    let c = after_check (ltb i (count M u)) 12 (passed u) b.1 in
    let d : u ≡ t = same-passed c.1 in
    record { sound = rw d at (can_follow M u b.0).sound; field = rw d at (ltb-true i (count M u) c.0) }

-- ---- stores and puts

pub record Stored (z : Heap) (i : ℕ) (w : Writes) : Type 0 where
  pub shaded : Shading z w.first w.second
  pub copied : (w.replica ≡ 0 → ⊥) → Copied z.memory refs w.replica i

pub store-known : (z : Heap) (l v i q : ℕ) (w : Writes) → store_writes z l v i q ≡ passed w → Stored z i w
unfolding store_writes
store-known z l v i q w e =
    let old = word z.memory v (ref_field i) in
    let copying : ℕ → Tested ℕ = λ t. cond (eqb t 0) (passed 0) (replica_word z l v q) in
    let last : List ℕ → ℕ → ℕ → ℕ → Tested Writes = λ vs t o c. passed (record { first = get_or vs 0 0; second = get_or vs 1 0; own = o; replica = t; copy = c }) in
    let a = bind_passed (barrier_shades z l old q) (λ (vs : List ℕ). replica_for z.memory refs l v i >>= (λ (t : ℕ). own_word z l v q >>= (λ (o : ℕ). copying t >>= (λ (c : ℕ). last vs t o c)))) e in
    let b = bind_passed (replica_for z.memory refs l v i) (λ (t : ℕ). own_word z l v q >>= (λ (o : ℕ). copying t >>= (λ (c : ℕ). last a.0 t o c))) a.2 in
    let o = bind_passed (own_word z l v q) (λ (o : ℕ). copying b.0 >>= (λ (c : ℕ). last a.0 b.0 o c)) b.2 in
    let c = bind_passed (copying b.0) (λ (c : ℕ). last a.0 b.0 o.0 c) o.2 in
    let r = same-passed c.2 in
    record {
      shaded = rw (← r) (barrier_known z l old q a.0 a.1);
      copied = λ n. replica-known z.memory refs l v i w.replica (b.1 ∙ ap (λ (x : Writes). passed x.replica) r) n;
    }

pub put-known : (z : Heap) (l old q : ℕ) (w : Writes) → put_writes z l old q ≡ passed w → Shading z w.first w.second
unfolding put_writes
put-known z l old q w e =
    let last : List ℕ → ℕ → Tested Writes = λ vs o. passed (record { first = get_or vs 0 0; second = get_or vs 1 0; own = o; replica = 0; copy = 0 }) in
    let a = bind_passed (barrier_shades z l old q) (λ (vs : List ℕ). own_word z l 0 q >>= (λ (o : ℕ). last vs o)) e in
    let b = bind_passed (own_word z l 0 q) (λ (o : ℕ). last a.0 o) a.2 in
    rw (← same-passed b.2) (barrier_known z l old q a.0 a.1)
