-- References, shape words and the two halves as numbers.
use Prim.Native.Nat.{ℕ, ◌≤◌, ◌<◌}
use mathlib.Core.Path.{◌≡◌}
use mathlib.Core.Logic.{◌≢◌}
use native.Mathlib.Omega.{arith}
use Rattle.rules.specs.Memory.{reference, half_of, word_of, shape_word, refs_of, plains_of, most_count, most_shape}
use Rattle.rules.specs.Phases.{other_half}

-- ---- references

pub half-reference : (h k : ℕ) → h < 2 → half_of (reference h k) ≡ h
unfolding half_of reference
half-reference h k l = omega arith

pub word-reference : (h k : ℕ) → h < 2 → word_of (reference h k) ≡ k
unfolding word_of reference
word-reference h k l = omega arith

pub reference_injective : (h k g i : ℕ) → h < 2 → g < 2 → reference h k ≡ reference g i → (h ≡ g) × (k ≡ i)
unfolding reference
reference_injective h k g i l l' e = omega arith

pub reference_again : (v : ℕ) → 2 ≤ v → reference (half_of v) (word_of v) ≡ v
unfolding half_of word_of reference
reference_again v l = omega arith

pub reference-from_2 : (h k : ℕ) → 2 ≤ reference h k
unfolding reference
reference-from_2 h k = omega arith

pub half-below_2 : (v : ℕ) → half_of v < 2
unfolding half_of
half-below_2 v = omega arith

-- two references of one half and one word are the same
pub reference-same : (v w : ℕ) → 2 ≤ v → 2 ≤ w → half_of v ≡ half_of w → word_of v ≡ word_of w → v ≡ w
unfolding half_of word_of
reference-same v w l l' e e' = omega arith

-- ---- shape words

pub refs-shape : (r p : ℕ) → p ≤ most_count → refs_of (shape_word r p) ≡ r
unfolding refs_of shape_word
refs-shape r p l = omega arith

pub plains-shape : (r p : ℕ) → p ≤ most_count → plains_of (shape_word r p) ≡ p
unfolding plains_of shape_word
plains-shape r p l = omega arith

pub shape_bound : (r p : ℕ) → r ≤ most_count → p ≤ most_count → shape_word r p ≤ most_shape
unfolding shape_word
shape_bound r p l l' = omega arith

pub refs_bound : (w : ℕ) → w ≤ most_shape → refs_of w ≤ most_count
unfolding refs_of
refs_bound w l = omega arith

pub plains_bound : (w : ℕ) → plains_of w ≤ most_count
unfolding plains_of
plains_bound w = omega arith

-- two shape words with as many fields of each kind are the same
pub shape_same : (w x : ℕ) → refs_of w ≡ refs_of x → plains_of w ≡ plains_of x → w ≡ x
unfolding refs_of plains_of
shape_same w x e e' = omega arith

-- ---- the half that isn't h

pub other_below_2 : (h : ℕ) → other_half h < 2
unfolding other_half
other_below_2 h = omega arith

pub other_differs : (h : ℕ) → h < 2 → other_half h ≢ h
unfolding other_half
other_differs h l e = omega arith

pub other_other : (h : ℕ) → h < 2 → other_half (other_half h) ≡ h
unfolding other_half
other_other h l = omega arith

pub only_other : (h g : ℕ) → h < 2 → g < 2 → g ≢ h → g ≡ other_half h
unfolding other_half
only_other h g l l' d = omega arith
