-- What the code asks of a replica, only what its record hasn't shown, is the rules' test.
use Prim.Native.Nat.{ℕ, ◌+◌, ◌≤◌, ◌<◌}
use mathlib.Core.Path.{◌≡◌}
use mathlib.Core.Bool.{true, false, ◌&&◌, and-true, and-false}
use native.Mathlib.Omega.{arith}
use lib.Dec.{leb, eqb}
use borrow.Author.Tests.{eq-eqb, ne_eqb, le-leb, lt-leb}
use Rattle.rules.specs.Memory.{Memory, frontier, half_of, word_of, most_shape, black, shape_at, colour_at, replica_at, word, colour, replica, refs, plains, size, sound, points_back}
use Rattle.rules.proofs.memory.Cases.{eq_or}
use Rattle.heap.proofs.Soundness.{sound-shape}

module _ (M : Memory) (w v : ℕ) where
  back_other : (word M w shape_at ≡ word M v shape_at → ⊥) → false ≡ points_back M w v
  unfolding points_back
  back_other d = rw (ne_eqb (word M w shape_at) (word M v shape_at) d, and-false)

  module _ (s : sound M v ≡ true) {n at f : ℕ} (z : n ≡ size M v) (a : at ≡ word_of w) (e : f ≡ frontier M (half_of w)) where
    -- a record with the word 0 of v is as long
    as_long : word M w shape_at ≡ word M v shape_at → word_of w + size M w ≡ at + n
    unfolding size refs plains
    as_long q = rw (q, a, z)

    -- past the frontier
    same-short : f < at + n → word M w shape_at ≡ word M v shape_at → false ≡ points_back M w v
    unfolding points_back sound
    same-short l q = rw (lt-leb (word_of w + size M w) (frontier M (half_of w)) (omega (arith, as_long q)), and-false)

    pub back-short : f < at + n → false ≡ points_back M w v
    back-short l = eq_or (word M w shape_at) (word M v shape_at) (same-short l) back_other

    -- before it the colour is all that is left of soundness
    module _ (two : 2 ≤ w) (d : half_of w ≡ half_of v → ⊥) (l : at + n ≤ f) where
      colour-left : word M w shape_at ≡ word M v shape_at → sound M w ≡ leb (colour M w) black
      unfolding sound
      colour-left q =
          rw (le-leb 2 w two, q, le-leb (word M v shape_at) most_shape (sound-shape M v s), le-leb (word_of w + size M w) (frontier M (half_of w)) (omega (arith, as_long q)), and-true (leb (colour M w) black))

      same_tests : word M w shape_at ≡ word M v shape_at → (leb (colour M w) black && eqb (replica M w) v) ≡ points_back M w v
      unfolding points_back
      same_tests q =
          let c = leb (colour M w) black in
          rw (colour-left q, ne_eqb (half_of w) (half_of v) d, eq-eqb (word M w shape_at) (word M v shape_at) q, and-true c, and-true c)

      words-tested : (eqb (word M w shape_at) (word M v shape_at) && leb (colour M w) black && eqb (replica M w) v) ≡ points_back M w v
      words-tested = eq_or (word M w shape_at) (word M v shape_at)
          (λ q. rw (eq-eqb (word M w shape_at) (word M v shape_at) q) (same_tests q))
          (λ n. rw (ne_eqb (word M w shape_at) (word M v shape_at) n) (back_other n))

      pub back-tested : {x y t u : ℕ} → x ≡ word M v shape_at → y ≡ word M w shape_at → t ≡ word M w colour_at → u ≡ word M w replica_at
          → (eqb y x && leb t black && eqb u v) ≡ points_back M w v
      unfolding colour replica
      back-tested x y t u = rw (x, y, t, u) words-tested
