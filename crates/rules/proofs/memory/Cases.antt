-- Case analysis as functions, so that a proof goes by cases inside a term, a recursive call in the arms too.
use Prim.Native.Nat.{ℕ, ◌+◌, ◌≤◌, ◌<◌}
use mathlib.Core.Path.{◌≡◌, refl, sym, ◌∙◌}
use mathlib.Core.Logic.{◌≢◌, ◌⊎◌, inl, inr}
use mathlib.Core.Bool.{Bool, true, false, cond, ◌||◌, false≢true}
use native.Mathlib.Decide.{dec_lt, ℕ_discrete}
use native.Mathlib.Omega.{arith}
use lib.Dec.{eqb}
use borrow.Author.Tests.{eq-eqb, ne_eqb}

on_dec : {A C : Type 0} → Dec A → (A → C) → (¬ A → C) → C
on_dec (yes a) f g = f a
on_dec (no a) f g = g a

pub lt_or : (a b : ℕ) {C : Type 0} → (a < b → C) → (b ≤ a → C) → C
lt_or a b f g = on_dec (dec_lt a b) f (λ l. g (omega arith))

pub eq_or : (a b : ℕ) {C : Type 0} → (a ≡ b → C) → (a ≢ b → C) → C
eq_or a b f g = on_dec (ℕ_discrete a b) f g

-- a number from b on is b, or above it
pub from_or : (a b : ℕ) → b ≤ a → {C : Type 0} → (a ≡ b → C) → (b < a → C) → C
from_or a b l f g = eq_or a b f (λ n. g (omega arith))

-- a number from n on that isn't n
pub above : {n k : ℕ} → n ≤ k → k ≢ n → n + 1 ≤ k
above p q = omega arith

-- a Bool, with the equation
pub bool_or : (t : Bool) {C : Type 0} → (t ≡ true → C) → (t ≡ false → C) → C
bool_or true f g = f refl
bool_or false f g = g refl

-- one of two tests passed, and not the first; or neither did
pub or_second : (a b : Bool) → (a || b) ≡ true → a ≡ false → b ≡ true
or_second a b e f = rw f at e

pub neither : (a b : Bool) → (a || b) ≡ false → (a ≡ false) × (b ≡ false)
neither true b e = absurd (false≢true (sym e))
neither false b e = (refl, e)

-- one of two facts
pub either : {A B C : Type 0} → A ⊎ B → (A → C) → (B → C) → C
either (inl x) f g = f x
either (inr y) f g = g y

-- one of two numbers below a bound
pub chosen_below : (b : Bool) (x y n : ℕ) → x ≤ n → y ≤ n → cond b x y ≤ n
chosen_below true x y n p q = p
chosen_below false x y n p q = q

-- tests of two numbers that are equal where those of two others are
pub same_test : (a b c d : ℕ) → (a ≡ b → c ≡ d) → (c ≡ d → a ≡ b) → eqb a b ≡ eqb c d
same_test a b c d f g = eq_or a b
    (λ e. eq-eqb a b e ∙ sym (eq-eqb c d (f e)))
    (λ n. ne_eqb a b n ∙ sym (ne_eqb c d (λ e. n (g e))))

pub eqb_swap : (a b : ℕ) → eqb a b ≡ eqb b a
eqb_swap a b = same_test a b b a (λ e. sym e) (λ e. sym e)
