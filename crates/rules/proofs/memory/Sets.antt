-- Runs of elements set in a list: two that adjoin are one, in either order.
use Prim.Native.Nat.{ℕ, suc, ◌+◌, ◌≤◌, ◌<◌}
use mathlib.Core.Path.{◌≡◌, refl}
use mathlib.Core.List.{List, [], ◌∷◌, ◌++◌}
use native.Mathlib.Omega.{arith}
use native.Mathlib.Nat.{add-zero, add-suc, suc-add}
use lib.ListN.{length, set, take, drop, length-append}
use lib.Seq.{sets, sets-eq, set_comm, length-take-le, take_at}

pub sets-append : (l : List ℕ) (i : ℕ) (xs ys : List ℕ) → sets (sets l i xs) (i + length xs) ys ≡ sets l i (xs ++ ys)
sets-append l i [] ys = rw add-zero
sets-append l i (x ∷ xs) ys = rw (add-suc, ← suc-add, sets-append (set l i x) (suc i) xs ys)

-- an element before the others
set-sets : (l : List ℕ) (j : ℕ) (ys : List ℕ) (i x : ℕ) → i < j → set (sets l j ys) i x ≡ sets (set l i x) j ys
set-sets l j [] i x before = refl
set-sets l j (y ∷ ys) i x before = rw (set-sets (set l j y) (suc j) ys i x (omega arith), set_comm l i j x y (λ e. omega arith))

-- the last ones first
pub sets-before : (l : List ℕ) (i : ℕ) (xs ys : List ℕ) → sets (sets l (i + length xs) ys) i xs ≡ sets l i (xs ++ ys)
sets-before l i [] ys = rw add-zero
sets-before l i (x ∷ xs) ys =
    rw (set-sets l (i + suc (length xs)) ys i x (omega arith), add-suc, ← suc-add, sets-before (set l i x) (suc i) xs ys)

-- what is there up to their end
pub take-sets : (l vs : List ℕ) (i : ℕ) → i + length vs ≤ length l → take (i + length vs) (sets l i vs) ≡ take i l ++ vs
take-sets l vs i fits =
    let size : length (take i l ++ vs) ≡ i + length vs = rw (length-append, length-take-le i l (omega arith)) in
    rw (sets-eq vs l i fits, take_at (take i l ++ vs) (drop (i + length vs) l) (i + length vs) size)

-- xs was written into l from place i on, which left m, and the next place is p
pub record Written (l : List ℕ) (i : ℕ) (xs m : List ℕ) (p : ℕ) : Type 0 where
  pub text : m ≡ sets l i xs
  pub end : p ≡ i + length xs

pub written : (l : List ℕ) (i : ℕ) (xs : List ℕ) {m : List ℕ} {p : ℕ} → m ≡ sets l i xs → p ≡ i + length xs → Written l i xs m p
written l i xs e f = record { text = e; end = f }

pub and-more : {l : List ℕ} {i : ℕ} {xs m : List ℕ} {p : ℕ} → Written l i xs m p → (ys : List ℕ) {m' : List ℕ} {p' : ℕ} →
    m' ≡ sets m p ys → p' ≡ p + length ys → Written l i (xs ++ ys) m' p'
and-more {l} {i} {xs} w ys e f =
    record {
      text = rw (e, w.text, w.end, sets-append l i xs ys);
      end = rw (f, w.end, length-append) (omega arith);
    }
