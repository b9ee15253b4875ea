-- A half of a filled memory, walked from word 0: a sound record at each place, and after the last one the frontier.
use Prim.Native.Nat.{ℕ, zero, suc, ◌+◌, ◌≤◌, ◌<◌}
use mathlib.Core.Path.{◌≡◌}
use native.Mathlib.Omega.{arith}
use Rattle.rules.specs.Memory.{Memory, frontier, reference}
use Rattle.rules.specs.Claims.{FilledFrom, at_frontier, at_record}
use Rattle.rules.proofs.memory.Cases.{lt_or}
use Rattle.rules.proofs.memory.Records.{Filled, size-least, start_sound}
use Rattle.rules.proofs.memory.Walk.{Walk, walk-zero, walk_start, walk-next}

module _ {M : Memory} (f : Filled M) {h : ℕ} (two : h < 2) where
  walk-ended : {k : ℕ} → Walk M h k → frontier M h ≤ k → FilledFrom M h k
  walk-ended {k} at l = let e : k ≡ frontier M h = omega (arith, at.within) in rw e at_frontier

  -- n bounds the words that are left
  filled-from : (n : ℕ) {k : ℕ} → Walk M h k → frontier M h ≤ k + n → FilledFrom M h k
  filled-from zero at l = walk-ended at (omega arith)
  filled-from (suc n) {k} at l =
      lt_or k (frontier M h)
      (λ b. at_record k (start_sound f (walk_start two at b))
      (filled-from n (walk-next two at f b) (omega (arith, size-least M (reference h k)))))
      (walk-ended at)

  pub filled-half : FilledFrom M h 0
  filled-half = filled-from (frontier M h) (walk-zero M h) (omega arith)
