-- The record at the walk place, once it was followed: its words in the lent halves, and how long it is.
use Prim.Native.Nat.{ℕ, ◌+◌, ◌≤◌, ◌<◌}
use mathlib.Core.Path.{◌≡◌, subst, refl}
use mathlib.Core.List.{List}
use native.Mathlib.Omega.{arith}
use Rattle.rules.specs.Memory.{Memory, header, size, follow}
use Rattle.rules.specs.Control.{most_fields}
use Rattle.rules.specs.declared.Followed.TheVariants.{Sound}
use Rattle.heap.specs.View.{memory, Has, Inside}
use Rattle.heap.specs.Halves.{as_memory}
use Rattle.heap.specs.declared.halves.Halves.{Halves}
use Rattle.heap.proofs.Soundness.{Found, found}
use Rattle.heap.proofs.Lent.{has_header}

pub has-same : {M N : Memory} {v j : ℕ} → M ≡ N → Has M v j → Has N v j
has-same {v = v} {j = j} e h = subst (λ (M : Memory). Has M v j) e h

pub size-found : {M : Memory} {v at r p : ℕ} → Found M v at r p → size M v ≡ r + p + header
unfolding size
size-found f = omega arith

-- few enough to go on past it
pub past-found : {M : Memory} {v at r p : ℕ} → Found M v at r p → r + p + header ≤ header + most_fields
past-found f = omega arith

-- m lends the halves h0 and h1, and following v in them found a record of r and p fields
module _ {h0 h1 : List ℕ} {f0 f1 v at r p : ℕ} (m : Halves) (e : as_memory m ≡ memory h0 h1 f0 f1) (f : Sound at r p ≡ follow (as_memory m) v) where
  pub walk-found : Found (memory h0 h1 f0 f1) v at r p
  walk-found = found _ _ (rw e at f) refl

  -- its header, as it is lent and in the halves
  pub lent_header : (j : ℕ) → j < header → Has (as_memory m) v j
  lent_header j l = has_header m v (found _ _ f refl).sound j l

  pub walk-header : (j : ℕ) → j < header → Inside h0 h1 v j
  walk-header j l = has-same e (lent_header j l)
