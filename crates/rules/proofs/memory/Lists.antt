-- Lists of one value over and over, and lists with one element set.
use Prim.Native.Nat.{ℕ, zero, suc, ◌<◌}
use mathlib.Core.Path.{◌≡◌, refl}
use mathlib.Core.List.{List, [], ◌∷◌}
use lib.ListN.{get_or, set, length, replicate}
use lib.Seq.{get_or-set_same, get_or-set_other}
use Rattle.rules.proofs.memory.Cases.{eq_or}

-- what holds of the value and of what stands past the end
pub all_same : {A : Type 0} (P : A → Type 0) (a d : A) → P a → P d → (n j : ℕ) → P (get_or (replicate n a) j d)
all_same P a d p e zero j = e
all_same P a d p e (suc n) zero = p
all_same P a d p e (suc n) (suc j) = all_same P a d p e n j

pub zeros : (n k : ℕ) → ◌≡◌ {A = ℕ} (get_or (replicate n 0) k 0) 0
zeros n k = all_same {A = ℕ} (λ x. x ≡ 0) 0 0 refl refl n k

-- what holds of the new pair at n and of every old pair holds of every pair
module _ {A B : Type 0} (xs : List A) (ys : List B) (n : ℕ) (lx : n < length xs) (ly : n < length ys) (x dx : A) (y dy : B) where
  pub set_each : (P : ℕ → A → B → Type 0) → P n x y → ((j : ℕ) → P j (get_or xs j dx) (get_or ys j dy)) → (j : ℕ) → P j (get_or (set xs n x) j dx) (get_or (set ys n y) j dy)
  set_each P p old j = eq_or j n
      (λ e. rw (e, get_or-set_same xs n x dx lx, get_or-set_same ys n y dy ly) p)
      (λ d. rw (get_or-set_other xs n j x dx d, get_or-set_other ys n j y dy d) (old j))

-- what relates an element and itself, and the old element at n and the one that is set there, relates old and new elements at every place
pub set-kept : {A : Type 0} (d : A) (R : ℕ → A → A → Type 0) → ((j : ℕ) (x : A) → R j x x) → (xs : List A) (n : ℕ) (y : A)
    → R n (get_or xs n d) y → (j : ℕ) → R j (get_or xs j d) (get_or (set xs n y) j d)
set-kept d R r [] n y h j = r j d
set-kept d R r (x ∷ xs) zero y h zero = h
set-kept d R r (x ∷ xs) zero y h (suc j) = r (suc j) (get_or xs j d)
set-kept d R r (x ∷ xs) (suc n) y h zero = r zero x
set-kept d R r (x ∷ xs) (suc n) y h (suc j) = set-kept d (λ i. R (suc i)) (λ i. r (suc i)) xs n y h j
