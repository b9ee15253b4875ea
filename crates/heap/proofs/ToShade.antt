-- What there is to shade of a reference that passes its test, and of several.
use Prim.Native.Nat.{ℕ}
use mathlib.Core.Path.{◌≡◌, ◌∙◌, sym, refl}
use mathlib.Core.Bool.{Bool, true, false, cond}
use mathlib.Core.List.{List, ◌∷◌}
use lib.Dec.{eqb}
use borrow.Author.Tests.{eqb-true}
use Rattle.rules.specs.Refusals.{passed, ◌>>=◌}
use Rattle.rules.specs.Memory.{Memory, white, colour, sound, followable, followed}
use Rattle.rules.specs.Barriers.{to_shade, without, to_shade_all}
use Rattle.rules.proofs.Ranges.{after_check}
use Rattle.rules.proofs.memory.Cases.{bool_or}
use Rattle.rules.proofs.memory.Followed.{can_follow}
use Rattle.heap.specs.View.{if_white}
use Rattle.heap.proofs.Passed.{bind_passed, same-passed}

either_null : (b : Bool) → ◌≡◌ {A = ℕ} (cond b 0 0) 0
either_null true = refl
either_null false = refl

pub null-white : (M : Memory) (v : ℕ) → v ≡ 0 → if_white M v ≡ 0
null-white M v z = rw z (either_null (eqb (colour M 0) 0))

-- a record to shade is the one that its reference names, and white
pub white-named : (M : Memory) (v : ℕ) → (if_white M v ≡ 0 → ⊥) → (if_white M v ≡ v) × (colour M v ≡ white)
white-named M v n = bool_or (eqb (colour M v) 0)
    (λ t. (rw t, eqb-true (colour M v) 0 t))
    (λ f. absurd (n (rw f)))

-- a reference that passes its test is null or sound
pub to_shade-white : (M : Memory) (v w : ℕ) → to_shade M v ≡ passed w → (w ≡ if_white M v) × ((v ≡ 0 → ⊥) → sound M v ≡ true)
unfolding to_shade followed
to_shade-white M v w e = bool_or (eqb v 0)
    (λ t. let z = eqb-true v 0 t in (sym (same-passed (rw t at e)) ∙ sym (null-white M v z), λ n. absurd (n z)))
    (λ f. let b = after_check (followable M v) 12 (passed (if_white M v)) (rw f at e) in (sym (same-passed b.1), λ n. (can_follow M v b.0).sound))

pub to_shade-sound : (M : Memory) (v w : ℕ) → to_shade M v ≡ passed w → (w ≡ 0 → ⊥) → sound M w ≡ true
to_shade-sound M v w e n =
    let a = to_shade-white M v w e in
    let b : w ≡ v = a.0 ∙ (white-named M v (λ z. n (a.0 ∙ z))).0 in
    rw b (a.1 (λ z. n (b ∙ z)))

-- ---- shading several references

-- the first of several references that pass, and the others
pub record Split (M : Memory) (v : ℕ) (vs ws : List ℕ) : Type 0 where
  pub one : ℕ
  pub others : List ℕ
  pub tested : to_shade M v ≡ passed one
  pub rest : to_shade_all M vs ≡ passed others
  pub joined : cond (eqb one 0) others (one ∷ without one others) ≡ ws

pub split : (M : Memory) (v : ℕ) (vs ws : List ℕ) → to_shade_all M (v ∷ vs) ≡ passed ws → Split M v vs ws
split M v vs ws e =
    let a = bind_passed (to_shade M v) (λ (w : ℕ). to_shade_all M vs >>= (λ (us : List ℕ). passed (cond (eqb w 0) us (w ∷ without w us)))) e in
    let b = bind_passed (to_shade_all M vs) (λ (us : List ℕ). passed (cond (eqb a.0 0) us (a.0 ∷ without a.0 us))) a.2 in
    record { one = a.0; others = b.0; tested = a.1; rest = b.1; joined = same-passed b.2 }
