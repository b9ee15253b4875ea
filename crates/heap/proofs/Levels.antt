-- What a store or a put writes by level: levels 1 to 3 shade, the others don't; below 4 no replica is written and no reference forwarded.
use Prim.Native.Nat.{ℕ, ◌≤◌, ◌<◌}
use mathlib.Core.Path.{◌≡◌}
use mathlib.Core.Bool.{true, false}
use mathlib.Core.List.{[]}
use native.Mathlib.Omega.{arith}
use lib.Dec.{leb}
use borrow.Author.Tests.{leb-true, lt-leb, ne_eqb}
use Rattle.rules.specs.Refusals.{passed}
use Rattle.rules.specs.Memory.{Memory, word, refs, ref_field}
use Rattle.rules.specs.Barriers.{Heap, shades_at, barrier_shades, copies_at, replica_for, own_word, replica_word, store_writes, put_writes}
use Rattle.rules.proofs.Ranges.{both}
use Rattle.heap.specs.View.{word_alone}

pub unshaded : (z : Heap) (l old q : ℕ) → shades_at l ≡ false → barrier_shades z l old q ≡ passed []
unfolding barrier_shades
unshaded z l old q e = rw e

pub shades_low : (l : ℕ) → shades_at l ≡ true → l ≤ 3
unfolding shades_at
shades_low l e = leb-true l 3 (both (leb 1 l) (leb l 3) e).1

-- below level 4
module _ (z : Heap) (l q : ℕ) (few : l ≤ 3) where
  pub own_itself : (v : ℕ) → own_word z l v q ≡ passed q
  unfolding own_word
  own_itself v = rw (ne_eqb l 6 (λ k. omega (arith, few)), ne_eqb l 5 (λ k. omega (arith, few)))

  no_copy : (M : Memory) (v i : ℕ) → replica_for M refs l v i ≡ passed 0
  unfolding replica_for copies_at
  no_copy M v i = let b : l < 4 = omega (arith, few) in rw (lt-leb 4 l b)

  -- a store is a put over the field's word
  pub as_put : (v i : ℕ) → put_writes z l (word z.memory v (ref_field i)) q ≡ store_writes z l v i q
  unfolding put_writes store_writes
  as_put v i = rw (no_copy z.memory v i, own_itself v, own_itself 0)

  -- and where nothing is shaded the word alone
  pub as_word : shades_at l ≡ false → (v i : ℕ) → store_writes z l v i q ≡ passed (word_alone q)
  unfolding store_writes
  as_word e v i = rw (unshaded z l (word z.memory v (ref_field i)) q e, no_copy z.memory v i, own_itself v)

-- at level 6 both copies get the same word
pub one_word : (z : Heap) (l v q : ℕ) {own : ℕ} → l ≡ 6 → passed own ≡ own_word z l v q → passed own ≡ replica_word z l v q
unfolding own_word replica_word
one_word z l v q e k = rw e (rw e at k)
