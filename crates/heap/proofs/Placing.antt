-- Which half a reference is in, and a word written to it.
use Prim.Native.Nat.{ℕ, ◌+◌, ◌%◌, ◌≤◌}
use mathlib.Core.Path.{◌≡◌, refl}
use mathlib.Core.Bool.{Bool, true, false, cond}
use mathlib.Core.List.{List}
use lib.Dec.{eqb}
use lib.ListN.{length, set}
use borrow.Author.Tests.{eq-eqb, ne_eqb}
use Rattle.rules.specs.Memory.{half, frontier, half_of, word_of, put, with_half}
use Rattle.heap.specs.View.{memory, Inside}

-- the halves don't depend on the frontiers
pub half_any : (h0 h1 : List ℕ) (f0 f1 h : ℕ) → half (memory h0 h1 f0 f1) h ≡ half (memory h0 h1 0 0) h
unfolding half
half_any h0 h1 f0 f1 h = refl

module _ (h0 h1 : List ℕ) (f0 f1 v : ℕ) where
  pub put_low : (j x : ℕ) → v % 2 ≡ 0 → memory (set h0 (word_of v + j) x) h1 f0 f1 ≡ put (memory h0 h1 f0 f1) v j x
  unfolding put with_half half half_of
  put_low j x e = rw (eq-eqb (v % 2) 0 e)

  pub put-high : (j x : ℕ) → (v % 2 ≡ 0 → ⊥) → memory h0 (set h1 (word_of v + j) x) f0 f1 ≡ put (memory h0 h1 f0 f1) v j x
  unfolding put with_half half half_of
  put-high j x e = rw (ne_eqb (v % 2) 0 e)

kept : (b : Bool) (h0 h1 k0 k1 : List ℕ) → length k0 ≡ length h0 → length k1 ≡ length h1 → length (cond b k0 k1) ≡ length (cond b h0 h1)
kept true h0 h1 k0 k1 x y = x
kept false h0 h1 k0 k1 x y = y

pub half-kept : (h0 h1 k0 k1 : List ℕ) (h : ℕ) → length k0 ≡ length h0 → length k1 ≡ length h1
    → length (half (memory k0 k1 0 0) h) ≡ length (half (memory h0 h1 0 0) h)
unfolding half
half-kept h0 h1 k0 k1 h a b = kept (eqb h 0) h0 h1 k0 k1 a b

-- the words of a record stay inside where the lengths stay
pub inside_kept : (h0 h1 k0 k1 : List ℕ) (v j : ℕ) → length k0 ≡ length h0 → length k1 ≡ length h1 → Inside h0 h1 v j → Inside k0 k1 v j
inside_kept h0 h1 k0 k1 v j a b i = record { named = i.named; below = rw (half-kept h0 h1 k0 k1 (half_of v) a b) i.below }

-- the frontier of a reference's half is within that half
in_half_lem : (b : Bool) (h0 h1 : List ℕ) (f0 f1 : ℕ) → f0 ≤ length h0 → f1 ≤ length h1 → cond b f0 f1 ≤ length (cond b h0 h1)
in_half_lem true h0 h1 f0 f1 x y = x
in_half_lem false h0 h1 f0 f1 x y = y

pub frontier-within : (h0 h1 : List ℕ) (f0 f1 v : ℕ) → f0 ≤ length h0 → f1 ≤ length h1
    → frontier (memory h0 h1 f0 f1) (half_of v) ≤ length (half (memory h0 h1 f0 f1) (half_of v))
unfolding half frontier half_of
frontier-within h0 h1 f0 f1 v x y = in_half_lem (eqb (v % 2) 0) h0 h1 f0 f1 x y
