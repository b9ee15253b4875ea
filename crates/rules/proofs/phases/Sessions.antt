-- What the collector's tests on sessions say: all at a level, all marked, the lowest without a mark.
use Prim.Native.Nat.{ℕ, zero, suc, ◌≤◌, ◌<◌}
use mathlib.Core.Path.{◌≡◌, refl, sym, ◌∙◌}
use mathlib.Core.Logic.{◌⊎◌, inl, inr}
use mathlib.Core.Bool.{Bool, true, false, cond, not, ◌&&◌, ◌||◌, false≢true}
use mathlib.Core.List.{List, [], ◌∷◌}
use native.Mathlib.Nat.{not-suc-le-zero}
use native.Mathlib.Omega.{arith}
use lib.Dec.{eqb}
use lib.ListN.{get_or, length}
use borrow.Author.Tests.{eqb-true}
use Rattle.rules.specs.Phases.{level_of, absent, all_at, lowest_unmarked}
use Rattle.rules.specs.declared.Session.{Session}
use Rattle.rules.proofs.Ranges.{both}
use Rattle.rules.proofs.invariant.Groups.{Levels, level_before}

-- every attached session has the level
pub all_at_lem : (l : ℕ) (xs : List Session) → all_at l xs ≡ true → (n : ℕ) → (get_or xs n absent).attached ≡ true → (get_or xs n absent).level ≡ l
all_at_lem l [] e n a = absurd (false≢true a)
all_at_lem l (x ∷ xs) e zero a = eqb-true x.level l (rw a at (both (not x.attached || eqb x.level l) (all_at l xs) e).0)
all_at_lem l (x ∷ xs) e (suc n) a = all_at_lem l xs (both (not x.attached || eqb x.level l) (all_at l xs) e).1 n a

-- in a phase with the level of the phase before it all have it
pub all_now : {ph : ℕ} {xs : List Session} → Levels ph xs → level_of ph ≡ level_before ph → (n : ℕ)
    → (get_or xs n absent).attached ≡ true → (get_or xs n absent).level ≡ level_of ph
all_now {ph} {xs} k e n a = pick (k.allowed n a)
  where
    pick : ((get_or xs n absent).level ≡ level_of ph) ⊎ ((get_or xs n absent).level ≡ level_before ph) → (get_or xs n absent).level ≡ level_of ph
    pick (inl o) = o
    pick (inr o) = o ∙ sym e

-- no attached session is without a mark
pub all_marked : (xs : List Session) → length xs ≤ lowest_unmarked xs → (n : ℕ) → (get_or xs n absent).attached ≡ true → (get_or xs n absent).scanned ≡ true
all_marked [] l n a = absurd (false≢true a)
all_marked (x ∷ xs) l n a = pick (all_marked xs) x.attached x.scanned refl refl n l a
  where
    pick : (length xs ≤ lowest_unmarked xs → (i : ℕ) → (get_or xs i absent).attached ≡ true → (get_or xs i absent).scanned ≡ true)
        → (b c : Bool) → x.attached ≡ b → x.scanned ≡ c → (i : ℕ) → suc (length xs) ≤ cond (b && not c) 0 (suc (lowest_unmarked xs))
        → (get_or (x ∷ xs) i absent).attached ≡ true → (get_or (x ∷ xs) i absent).scanned ≡ true
    pick later true false p q i g t = absurd (not-suc-le-zero g)
    pick later true true p q zero g t = q
    pick later true true p q (suc i) g t = later (omega arith) i t
    pick later false c p q zero g t = absurd (false≢true (sym p ∙ t))
    pick later false c p q (suc i) g t = later (omega arith) i t

-- the lowest session without a mark is attached and has none
pub lowest : (xs : List Session) → lowest_unmarked xs < length xs
    → ((get_or xs (lowest_unmarked xs) absent).attached ≡ true) × ((get_or xs (lowest_unmarked xs) absent).scanned ≡ false)
lowest [] l = absurd (not-suc-le-zero l)
lowest (x ∷ xs) l = pick (lowest xs) x.attached x.scanned refl refl l
  where
    pick : (lowest_unmarked xs < length xs → ((get_or xs (lowest_unmarked xs) absent).attached ≡ true) × ((get_or xs (lowest_unmarked xs) absent).scanned ≡ false))
        → (b c : Bool) → x.attached ≡ b → x.scanned ≡ c → cond (b && not c) 0 (suc (lowest_unmarked xs)) < suc (length xs)
        → ((get_or (x ∷ xs) (cond (b && not c) 0 (suc (lowest_unmarked xs))) absent).attached ≡ true)
        × ((get_or (x ∷ xs) (cond (b && not c) 0 (suc (lowest_unmarked xs))) absent).scanned ≡ false)
    pick later true false p q g = (p, q)
    pick later true true p q g = later (omega arith)
    pick later false c p q g = later (omega arith)
