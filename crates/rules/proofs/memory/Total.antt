-- Totals: the sum of a weight over the starts of a half.
use Prim.Native.Nat.{ℕ, zero, suc, ◌+◌, ◌*◌, ◌≤◌, ◌<◌, zero-le}
use mathlib.Core.Path.{◌≡◌, refl, sym, ap, ◌∙◌}
use mathlib.Core.Logic.{◌≢◌}
use mathlib.Core.Bool.{cond}
use native.Mathlib.Nat.{le_refl}
use native.Mathlib.Omega.{arith}
use lib.Dec.{ltb}
use borrow.Author.Tests.{lt-ltb, le-ltb}
use Rattle.rules.specs.Memory.{Memory, half, frontier, reference, half_of, word_of, size, next_reference, header}
use Rattle.rules.proofs.memory.Cases.{lt_or}
use Rattle.rules.proofs.memory.Encoding.{half-reference, reference_injective}
use Rattle.rules.proofs.memory.Chain.{pos, size_at, pos_zero, pos_suc, pos_lt, pos_le, pos_least, pos_injective}
use Rattle.rules.proofs.memory.Records.{Start, Filled, start_at, start_number, size_number}
use Rattle.rules.proofs.memory.Same.{SameStarts}
use Rattle.rules.proofs.memory.Append.{Appended}
use Rattle.rules.proofs.memory.Sum.{sum, sum_le, sum_same, sum_room, sum_bump, sum_cut, sum_zero, sum_suc, sum_ones}

-- the weight of the record of number n, 0 past the last
weight : Memory → ℕ → (ℕ → ℕ) → ℕ → ℕ
weight M h f n = cond (ltb (pos (half M h) n) (frontier M h)) (f (reference h (pos (half M h) n))) 0

-- the sum of f over the starts of half h; there are no more of them than words
pub total : Memory → ℕ → (ℕ → ℕ) → ℕ
total M h f = sum (weight M h f) (frontier M h)

weight_in : (M : Memory) (h : ℕ) (f : ℕ → ℕ) (n : ℕ) → pos (half M h) n < frontier M h → weight M h f n ≡ f (reference h (pos (half M h) n))
unfolding weight
weight_in M h f n l = rw (lt-ltb (pos (half M h) n) (frontier M h) l)

weight_out : (M : Memory) (h : ℕ) (f : ℕ → ℕ) (n : ℕ) → frontier M h ≤ pos (half M h) n → weight M h f n ≡ 0
unfolding weight
weight_out M h f n l = rw (le-ltb (pos (half M h) n) (frontier M h) l)

-- a start counts by its number
module _ {M : Memory} {h v : ℕ} (s : Start M v) (side : half_of v ≡ h) where
  below-front : pos (half M h) s.num < frontier M h
  below-front = let e : word_of v ≡ pos (half M h) s.num = rw side at s.place in let b : word_of v < frontier M h = rw side at s.below in omega arith

  number-below : s.num < frontier M h
  number-below = omega (arith, below-front, pos_least (half M h) s.num)

  weight_at : (f : ℕ → ℕ) → weight M h f s.num ≡ f v
  weight_at f = weight_in M h f s.num below-front ∙ ap f (start_number s side)

-- ---- two weights over one half

module _ (M : Memory) {h : ℕ} (two : h < 2) (f g : ℕ → ℕ) where
  -- what holds at every start of the half holds at every number
  weights : (R : ℕ → ℕ → Type 0) → R 0 0 → (n : ℕ) → (pos (half M h) n < frontier M h → R (f (reference h (pos (half M h) n))) (g (reference h (pos (half M h) n))))
      → R (weight M h f n) (weight M h g n)
  weights R z n k = lt_or (pos (half M h) n) (frontier M h)
      (λ l. rw (weight_in M h f n l, weight_in M h g n l) (k l))
      (λ l. rw (weight_out M h f n l, weight_out M h g n l) z)

  here : (n : ℕ) → half_of (reference h (pos (half M h) n)) ≡ h
  here n = half-reference h (pos (half M h) n) two

  pub total_equal : ((v : ℕ) → Start M v → half_of v ≡ h → f v ≡ g v) → total M h f ≡ total M h g
  unfolding total
  total_equal e = sum_same (weight M h f) (weight M h g) (frontier M h)
      (λ n l. weights (λ x y. x ≡ y) refl n (λ b. e (reference h (pos (half M h) n)) (start_at M h n two b) (here n)))

  pub total_le : ((v : ℕ) → Start M v → half_of v ≡ h → f v ≤ g v) → total M h f ≤ total M h g
  unfolding total
  total_le e = sum_le (weight M h f) (weight M h g) (frontier M h)
      (λ n l. weights (λ x y. x ≤ y) zero-le n (λ b. e (reference h (pos (half M h) n)) (start_at M h n two b) (here n)))

  -- one start's weight grows by d
  pub total_bump : {v : ℕ} → Start M v → half_of v ≡ h → (d : ℕ) → g v ≡ f v + d
      → ((u : ℕ) → Start M u → half_of u ≡ h → u ≢ v → g u ≡ f u) → total M h g ≡ total M h f + d
  unfolding total
  total_bump {v} s side d e same =
      sum_bump (weight M h f) (weight M h g) (frontier M h) s.num d (number-below s side)
      (rw (weight_at s side f, weight_at s side g) e)
      (λ n l o. sym (weights (λ x y. x ≡ y) refl n (λ b. sym (same (reference h (pos (half M h) n)) (start_at M h n two b) (here n) (other n o)))))
    where
      other : (n : ℕ) → n ≢ s.num → reference h (pos (half M h) n) ≢ v
      other n o e = o (pos_injective (half M h) n s.num
          (reference_injective h (pos (half M h) n) h (pos (half M h) s.num) two two (e ∙ sym (start_number s side))).1)

  -- where one start's weight lacks d, the total does
  pub total_room : {v : ℕ} → Start M v → half_of v ≡ h → (d : ℕ) → f v + d ≤ g v
      → ((u : ℕ) → Start M u → half_of u ≡ h → f u ≤ g u) → total M h f + d ≤ total M h g
  unfolding total
  total_room {v} s side d e le =
      sum_room (weight M h f) (weight M h g) (frontier M h) s.num d (number-below s side)
      (λ n l. weights (λ x y. x ≤ y) zero-le n (λ b. le (reference h (pos (half M h) n)) (start_at M h n two b) (here n)))
      (rw (weight_at s side f, weight_at s side g) e)

-- ---- one weight, over halves that change

-- a half whose records stay
pub total_kept : {M M' : Memory} {h : ℕ} → SameStarts M M' h → (f : ℕ → ℕ) → total M' h f ≡ total M h f
unfolding total weight
total_kept {M} {M'} {h} e f = rw e.front (sum_same (weight M' h f) (weight M h f) (frontier M h) (λ n l. rw (e.chain n, e.front)))

-- an empty half
pub total_empty : (M : Memory) (h : ℕ) → frontier M h ≡ 0 → (f : ℕ → ℕ) → total M h f ≡ 0
unfolding total
total_empty M h z f = rw z (sum_zero (weight M h f))

-- in a filled memory: the sum over the numbers below the count
module _ {M : Memory} (k : Filled M) {h : ℕ} (two : h < 2) where
  pub total_numbers : (f : ℕ → ℕ) → total M h f ≡ sum (λ n. f (reference h (pos (half M h) n))) (k.count h)
  unfolding total
  total_numbers f =
      let e = k.full h two in
      sum_cut (weight M h f) (k.count h) (frontier M h) (omega (arith, e, pos_least (half M h) (k.count h)))
      (λ n l. weight_out M h f n (rw (← e) (pos_le (half M h) (k.count h) n l)))
      ∙ sum_same (weight M h f) (λ n. f (reference h (pos (half M h) n))) (k.count h)
      (λ n l. weight_in M h f n (rw (← e) (pos_lt (half M h) n (k.count h) l)))

  -- the sizes make up the half
  pub total_size : total M h (size M) ≡ frontier M h
  total_size = total_numbers (size M) ∙ sizes (k.count h) ∙ k.full h two
    where
      sizes : (n : ℕ) → sum (λ i. size M (reference h (pos (half M h) i))) n ≡ pos (half M h) n
      sizes zero = sum_zero _ ∙ sym (pos_zero (half M h))
      sizes (suc n) = sum_suc _ n ∙ rw (sizes n, size_number M h n two) (sym (pos_suc (half M h) n))

  -- the words of a header for each record at least
  pub total_count : total M h (λ v. 1) * header ≤ frontier M h
  total_count = omega (arith, total_numbers (λ v. 1), sum_ones (k.count h), pos_least (half M h) (k.count h), k.full h two)

-- a weight that is 0 at every record of a half
pub total_none : {M : Memory} → Filled M → {h : ℕ} → h < 2 → (w : ℕ → ℕ) → ((v : ℕ) → Start M v → half_of v ≡ h → w v ≡ 0) → total M h w ≡ 0
total_none {M} k {h} two w z =
    total_equal M two w (λ v. 0) z ∙ total_numbers k two (λ v. 0) ∙ sum_cut (λ n. 0) 0 (k.count h) zero-le (λ n l. refl) ∙ sum_zero (λ n. 0)

-- a new record adds its weight
module _ {M M' : Memory} {h w c v b n : ℕ} (a : Appended M M' h w c v b n) where
  last : ℕ
  last = a.before.filled.count h

  at_last : pos (half M' h) last ≡ frontier M h
  unfolding last
  at_last = a.chain last (le_refl last) ∙ a.before.filled.full h a.before.side

  reference_last : reference h (pos (half M' h) last) ≡ next_reference M h
  unfolding next_reference
  reference_last = rw at_last

  -- there is one record more
  count-after : a.filled.count h ≡ suc last
  count-after =
      let z : size_at (half M' h) last ≡ header + n = sym (size_number M' h last a.before.side) ∙ rw reference_last a.new_size in
      pos_injective (half M' h) (a.filled.count h) (suc last)
      (omega (arith, a.filled.full h a.before.side, a.front, pos_suc (half M' h) last, at_last, z))

  pub total_append : (f : ℕ → ℕ) → total M' h f ≡ total M h f + f (next_reference M h)
  unfolding last
  total_append f =
      let one : ℕ → ℕ = λ k. f (reference h (pos (half M h) k)) in
      let two : ℕ → ℕ = λ k. f (reference h (pos (half M' h) k)) in
      let e : sum two last ≡ sum one last = sum_same two one last (λ k l. rw (a.chain k (omega arith))) in
      let q : sum two (suc last) ≡ sum two last + two last = sum_suc two last in
      let t : two last ≡ f (next_reference M h) = ap f reference_last in
      total_numbers a.filled a.before.side f ∙ rw count-after (q ∙ rw (e, t, total_numbers a.before.filled a.before.side f))
