-- What a row of tests that passed says.
use Prim.Native.Nat.{ℕ}
use mathlib.Core.Path.{◌≡◌, refl}
use mathlib.Core.Bool.{Bool, true, false, cond}
use native.Mathlib.Omega.{arith}
use Rattle.rules.specs.Refusals.{Tested, refused, passed, ◌>>=◌}

pub bind_passed : {A B : Type 0} (m : Tested A) (k : A → Tested B) {b : B} → (m >>= k) ≡ passed b → (a : A) × (m ≡ passed a) × (k a ≡ passed b)
bind_passed (refused n) k e = absurd (let z : ◌≡◌ {A = ℕ} 0 1 = cc in omega arith)
bind_passed (passed a) k e = (a, refl, e)

-- a choice that passed with something else than its first arm took its second
pub second-passed : (t : Bool) (k : Tested ℕ) {w : ℕ} → cond t (passed 0) k ≡ passed w → (w ≡ 0 → ⊥) → (t ≡ false) × (k ≡ passed w)
second-passed true k e n = absurd (n cc)
second-passed false k e n = (refl, e)

pub same-passed : {A : Type 0} {a b : A} → passed a ≡ passed b → a ≡ b
same-passed e = cc
