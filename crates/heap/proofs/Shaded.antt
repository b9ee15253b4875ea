-- The records that a barrier shades, one after the other, null for none, and the list of them.
use Prim.Native.Nat.{ℕ}
use mathlib.Core.Path.{◌≡◌, sym, refl}
use mathlib.Core.Bool.{Bool, true, false, cond}
use mathlib.Core.List.{[], ◌∷◌}
use lib.Dec.{eqb}
use lib.ListN.{get_or}
use borrow.Author.Tests.{eqb-true}
use Rattle.heap.specs.View.{records}

first_of : (a b : Bool) (v w : ℕ) → eqb v 0 ≡ a → get_or (cond b (cond a [] (v ∷ [])) (v ∷ w ∷ [])) 0 0 ≡ v
first_of true true v w e = sym (eqb-true v 0 e)
first_of true false v w e = refl
first_of false true v w e = refl
first_of false false v w e = refl

second_of : (a b : Bool) (v w : ℕ) → eqb w 0 ≡ b → get_or (cond b (cond a [] (v ∷ [])) (v ∷ w ∷ [])) 1 0 ≡ w
second_of true true v w e = sym (eqb-true w 0 e)
second_of true false v w e = refl
second_of false true v w e = sym (eqb-true w 0 e)
second_of false false v w e = refl

-- they are the first and the second of the list
pub first_record : (v w : ℕ) → get_or (records v w) 0 0 ≡ v
first_record v w = first_of (eqb v 0) (eqb w 0) v w refl

pub second_record : (v w : ℕ) → get_or (records v w) 1 0 ≡ w
second_record v w = second_of (eqb v 0) (eqb w 0) v w refl
