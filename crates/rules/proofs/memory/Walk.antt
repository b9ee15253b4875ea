-- A walk over the records of a half: k is the place of a start of half h, or its frontier.
use Prim.Native.Nat.{ℕ, suc, ◌+◌, ◌≤◌, ◌<◌, zero-le}
use mathlib.Core.Path.{◌≡◌, sym, ◌∙◌}
use mathlib.Core.Logic.{◌⊎◌, inl, inr}
use native.Mathlib.Omega.{arith}
use Rattle.rules.specs.Memory.{Memory, half, frontier, reference, half_of, word_of, size}
use Rattle.rules.proofs.memory.Cases.{lt_or, eq_or}
use Rattle.rules.proofs.memory.Encoding.{half-reference, word-reference, reference-from_2, reference-same}
use Rattle.rules.proofs.memory.Chain.{pos, size_at, pos_zero, pos_suc, pos_whole, pos_lt}
use Rattle.rules.proofs.memory.Records.{Start, Filled, start_at, size_number, start_whole}

pub record Walk (M : Memory) (h k : ℕ) : Type 0 where
  pub num : ℕ
  pub place : k ≡ pos (half M h) num
  pub within : k ≤ frontier M h

pub walk-zero : (M : Memory) (h : ℕ) → Walk M h 0
walk-zero M h = record { num = 0; place = sym (pos_zero (half M h)); within = zero-le }

pub walk-within : {M : Memory} {h k : ℕ} → Walk M h k → k ≤ frontier M h
walk-within k = k.within

module _ {M : Memory} {h : ℕ} {k : ℕ} (two : h < 2) (at : Walk M h k) where
  -- below the frontier it stands at a start
  pub walk_start : k < frontier M h → Start M (reference h k)
  walk_start l = rw at.place (start_at M h at.num two (rw at.place at l))

  -- the size of the record there
  walk-size : size M (reference h k) ≡ size_at (half M h) at.num
  walk-size = rw at.place (size_number M h at.num two)

  -- past that record it stands again at a start or the frontier
  pub walk-next : Filled M → k < frontier M h → Walk M h (k + size M (reference h k))
  walk-next f l = record {
    num = suc at.num;
    place = rw (walk-size, at.place) (sym (pos_suc (half M h) at.num));
    within = rw (half-reference h k two, word-reference h k two) at (start_whole f (walk_start l));
  }

  -- every start of the half that lies before the next place lies before this one or is the one here
  pub walk_split : {v : ℕ} → Start M v → half_of v ≡ h → word_of v < k + size M (reference h k) → word_of v < k ⊎ v ≡ reference h k
  walk_split {v} s side l =
      let e : word_of v ≡ pos (half M h) s.num = rw side at s.place in
      lt_or (word_of v) k (λ g. inl g)
      (λ g. inr (reference-same v (reference h k) s.named (reference-from_2 h k) (side ∙ sym (half-reference h k two))
      (eq_or s.num at.num
      (λ n. rw (word-reference h k two) (e ∙ rw n (sym at.place)))
      (λ n. absurd (lt_or s.num at.num
      (λ o. omega (arith, e, pos_lt (half M h) s.num at.num o, at.place))
      (λ o. omega (arith, e, pos_whole (half M h) at.num s.num (omega arith), at.place, walk-size)))))))

-- past the frontier every start of the half is before the walk
pub walk-done : {M : Memory} {h k v : ℕ} → frontier M h ≤ k → Start M v → half_of v ≡ h → word_of v < k
walk-done {M} {h} {k} {v} l s side = let b : word_of v < frontier M h = rw side at s.below in omega arith
