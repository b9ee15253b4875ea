-- The collector-free records with one of them changed.
use Prim.Native.Nat.{ℕ, ◌-◌, ◌<◌}
use mathlib.Core.Path.{◌≡◌}
use mathlib.Core.Logic.{◌≢◌}
use mathlib.Core.List.{List}
use lib.ListN.{length, set}
use lib.Seq.{get_or-set_same, get_or-set_other}
use Rattle.rules.specs.Free.{Record, no_record}
use Rattle.rules.proofs.invariant.Words.{rec_of}

-- places q and p by their numbers in the list
module _ (rs : List Record) (q p : ℕ) (x : Record) where
  pub rec_set-same : p - 1 ≡ q - 1 → q - 1 < length rs → rec_of (set rs (q - 1) x) p ≡ x
  rec_set-same e l = rw e (get_or-set_same rs (q - 1) x no_record l)

  pub rec_set_other : p - 1 ≢ q - 1 → rec_of (set rs (q - 1) x) p ≡ rec_of rs p
  rec_set_other d = get_or-set_other rs (q - 1) (p - 1) x no_record d
