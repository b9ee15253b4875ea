-- Records of a memory: the starts, a memory filled with records, and what both give.
use Prim.Native.Nat.{ℕ, ◌+◌, ◌≤◌, ◌<◌}
use mathlib.Core.Path.{◌≡◌, refl, sym, ◌∙◌}
use mathlib.Core.Logic.{◌≢◌, ◌⊎◌, inl, inr}
use mathlib.Core.Bool.{true}
use native.Mathlib.Nat.{add-zero}
use native.Mathlib.Omega.{arith}
use lib.ListN.{length}
use borrow.Author.Tests.{le-leb}
use Rattle.rules.specs.Memory.{Memory, half, frontier, reference, half_of, word_of, word, colour, refs, plains, size, sound, header, shape_at, most_count, most_shape, black}
use Rattle.rules.proofs.memory.Cases.{eq_or}
use Rattle.rules.proofs.memory.Encoding.{half-reference, word-reference, reference_again, reference-from_2, half-below_2, reference-same, refs_bound, plains_bound}
use Rattle.rules.proofs.memory.Chain.{word_size, pos, size_at, pos_whole, lt_of_pos, apart}

-- v is the reference of the first word of a record below its half's frontier: the record of number `num`
pub record Start (M : Memory) (v : ℕ) : Type 0 where
  pub num : ℕ
  pub named : 2 ≤ v
  pub place : word_of v ≡ pos (half M (half_of v)) num
  pub below : word_of v < frontier M (half_of v)

-- both halves are filled with records up to their frontiers
pub record Filled (M : Memory) : Type 0 where
  pub count : ℕ → ℕ
  pub full : (h : ℕ) → h < 2 → pos (half M h) (count h) ≡ frontier M h
  pub fits : (h : ℕ) → h < 2 → frontier M h ≤ length (half M h)
  pub shapes : {v : ℕ} → Start M v → word M v shape_at ≤ most_shape
  pub colours : {v : ℕ} → Start M v → colour M v ≤ black

-- ---- a start

-- the record of number n, where it lies below the frontier
pub start_at : (M : Memory) (h n : ℕ) → h < 2 → pos (half M h) n < frontier M h → Start M (reference h (pos (half M h) n))
start_at M h n two l = record {
  num = n;
  named = reference-from_2 h (pos (half M h) n);
  place = rw (half-reference h (pos (half M h) n) two, word-reference h (pos (half M h) n) two);
  below = rw (half-reference h (pos (half M h) n) two, word-reference h (pos (half M h) n) two) l;
}

pub start_from_2 : {M : Memory} {v : ℕ} → Start M v → 2 ≤ v
start_from_2 s = s.named

pub start_nonnull : {M : Memory} {v : ℕ} → Start M v → v ≢ 0
start_nonnull s e = let l = s.named in omega arith

-- a start by its number
pub start_number : {M : Memory} {v h : ℕ} (s : Start M v) → half_of v ≡ h → reference h (pos (half M h) s.num) ≡ v
start_number {M} {v} {h} s side = let e : word_of v ≡ pos (half M h) s.num = rw side at s.place in rw (← e, ← side) (reference_again v s.named)

-- its size, by record number
pub size-at : {M : Memory} {v : ℕ} (s : Start M v) → size M v ≡ size_at (half M (half_of v)) s.num
unfolding size refs plains word size_at word_size
size-at {M} {v} s = rw (add-zero, s.place)

pub size_number : (M : Memory) (h n : ℕ) → h < 2 → size M (reference h (pos (half M h) n)) ≡ size_at (half M h) n
unfolding size refs plains word size_at word_size
size_number M h n two = rw (half-reference h (pos (half M h) n) two, word-reference h (pos (half M h) n) two, add-zero)

-- ---- words of a record (of any reference)

pub size-fields : (M : Memory) (v : ℕ) → size M v ≡ header + refs M v + plains M v
unfolding size
size-fields M v = refl

pub size-least : (M : Memory) (v : ℕ) → header ≤ size M v
size-least M v = omega (arith, size-fields M v)

pub ref_inside : (M : Memory) (v i : ℕ) → i < refs M v → header + i < size M v
ref_inside M v i l = omega (arith, size-fields M v)

pub plain_inside : (M : Memory) (v i : ℕ) → i < plains M v → header + refs M v + i < size M v
plain_inside M v i l = omega (arith, size-fields M v)

-- refs, plains and size go by word 0
pub refs-same : (M M' : Memory) (v : ℕ) → word M' v shape_at ≡ word M v shape_at → refs M' v ≡ refs M v
unfolding refs
refs-same M M' v e = rw e

pub plains-same : (M M' : Memory) (v : ℕ) → word M' v shape_at ≡ word M v shape_at → plains M' v ≡ plains M v
unfolding plains
plains-same M M' v e = rw e

pub size_same : (M M' : Memory) (v : ℕ) → word M' v shape_at ≡ word M v shape_at → size M' v ≡ size M v
unfolding size
size_same M M' v e = rw (refs-same M M' v e, plains-same M M' v e)

-- ---- in a filled memory

module _ {M : Memory} (f : Filled M) {v : ℕ} (s : Start M v) where
  num_below : s.num < f.count (half_of v)
  num_below = lt_of_pos (half M (half_of v)) s.num (f.count (half_of v)) (rw (f.full (half_of v) (half-below_2 v), ← s.place) s.below)

  -- a record lies whole below the frontier
  pub start_whole : word_of v + size M v ≤ frontier M (half_of v)
  start_whole =
      omega (arith, s.place, size-at s, f.full (half_of v) (half-below_2 v), pos_whole (half M (half_of v)) s.num (f.count (half_of v)) num_below)

  -- and its words are there
  pub start_inside : (j : ℕ) → j < size M v → word_of v + j < length (half M (half_of v))
  start_inside j l = omega (arith, start_whole, f.fits (half_of v) (half-below_2 v))

  pub start_refs : refs M v ≤ most_count
  unfolding refs
  start_refs = refs_bound (word M v shape_at) (f.shapes s)

  pub start_plains : plains M v ≤ most_count
  unfolding plains
  start_plains = plains_bound (word M v shape_at)

  pub start_sound : sound M v ≡ true
  unfolding sound
  start_sound =
      rw (le-leb 2 v s.named, le-leb (word M v shape_at) most_shape (f.shapes s), le-leb (colour M v) black (f.colours s), le-leb (word_of v + size M v) (frontier M (half_of v)) start_whole)

-- ---- two starts

-- two starts of one half with one number are one
same_num : {M : Memory} {v w : ℕ} (s : Start M v) (t : Start M w) → half_of w ≡ half_of v → t.num ≡ s.num → w ≡ v
same_num {M} {v} {w} s t e n = reference-same w v t.named s.named e (t.place ∙ rw (e, n) (sym s.place))

-- words of two records, or two words of one, are at different places
module _ {M : Memory} {v w : ℕ} (s : Start M v) (t : Start M w) (j i : ℕ) (e : half_of w ≡ half_of v) (lj : j < size M v) (li : i < size M w) where
  records_apart : w ≢ v → word_of w + i ≢ word_of v + j
  records_apart d q =
      apart (half M (half_of v)) t.num i s.num j (λ n. d (same_num s t e n)) (rw (size-at t, e) at li) (rw (size-at s) at lj)
      (rw (s.place, t.place, e) at q)

  pub starts_apart : w ≢ v ⊎ i ≢ j → word_of w + i ≢ word_of v + j
  starts_apart (inl d) q = records_apart d q
  starts_apart (inr d) q =
      eq_or w v (λ o. d (let p : word_of w ≡ word_of v = rw o in omega arith)) (λ o. records_apart o q)
