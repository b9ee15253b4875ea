-- A change of words that leaves every record where it is: `Q v j` says that word j of record v may have changed.
use Prim.Native.Nat.{ℕ, ◌<◌}
use mathlib.Core.Path.{◌≡◌}
use lib.ListN.{length}
use Rattle.rules.specs.Memory.{Memory, half, frontier, word, size, shape_at}
use Rattle.rules.proofs.memory.Records.{Start, Filled}
use Rattle.rules.proofs.memory.Walk.{Walk}
use Rattle.rules.proofs.memory.Total.{total}

pub record Frame (M M' : Memory) (Q : ℕ → ℕ → Type 0) : Type 0 where
  pub to : {v : ℕ} → Start M v → Start M' v
  pub back : {v : ℕ} → Start M' v → Start M v
  pub same : {v : ℕ} → Start M v → (j : ℕ) → j < size M v → ¬ Q v j → word M' v j ≡ word M v j
  pub shapes : (v : ℕ) → ¬ Q v shape_at
  pub filled : Filled M'
  pub front : (h : ℕ) → frontier M' h ≡ frontier M h
  pub lengths : (h : ℕ) → length (half M' h) ≡ length (half M h)
  pub totals : (h : ℕ) → h < 2 → (w : ℕ → ℕ) → total M' h w ≡ total M h w
  pub walks : {h k : ℕ} → h < 2 → Walk M h k → Walk M' h k

-- only word j of v
abbrev pub One : ℕ → ℕ → ℕ → ℕ → Type 0
One v j = λ a i. (a ≡ v) × (i ≡ j)
