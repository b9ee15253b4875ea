-- The fields of a sound record are words of its half.
use Prim.Native.Nat.{ℕ, ◌+◌, ◌≤◌, ◌<◌}
use mathlib.Core.Path.{◌≡◌}
use mathlib.Core.Bool.{true}
use mathlib.Core.List.{List}
use native.Mathlib.Omega.{arith}
use lib.ListN.{length}
use Rattle.rules.specs.Memory.{refs, plains, size, sound, header}
use Rattle.heap.specs.View.{memory, Inside}
use Rattle.heap.proofs.Soundness.{Found, sound_inside, header_inside}

module _ (h0 h1 : List ℕ) (f0 f1 v : ℕ) (s : sound (memory h0 h1 f0 f1) v ≡ true) (a : f0 ≤ length h0) (b : f1 ≤ length h1) where
  ref_counted : (i : ℕ) → i < refs (memory h0 h1 f0 f1) v → header + i < size (memory h0 h1 f0 f1) v
  unfolding size
  ref_counted i l = omega arith

  plain_counted : (i : ℕ) → i < plains (memory h0 h1 f0 f1) v → header + refs (memory h0 h1 f0 f1) v + i < size (memory h0 h1 f0 f1) v
  unfolding size
  plain_counted i l = omega arith

  pub ref_inside : (i : ℕ) → i < refs (memory h0 h1 f0 f1) v → Inside h0 h1 v (header + i)
  ref_inside i l = sound_inside h0 h1 f0 f1 v s a b (header + i) (ref_counted i l)

  pub plain_inside : (i : ℕ) → i < plains (memory h0 h1 f0 f1) v → Inside h0 h1 v (header + refs (memory h0 h1 f0 f1) v + i)
  plain_inside i l = sound_inside h0 h1 f0 f1 v s a b (header + refs (memory h0 h1 f0 f1) v + i) (plain_counted i l)

-- the same of a record that was followed
module _ (h0 h1 : List ℕ) (f0 f1 v : ℕ) {at r p : ℕ} (f : Found (memory h0 h1 f0 f1) v at r p) (a : f0 ≤ length h0) (b : f1 ≤ length h1) where
  pub found-header : (j : ℕ) → j < header → Inside h0 h1 v j
  found-header = header_inside h0 h1 f0 f1 v f.sound a b

  pub found_ref : (i : ℕ) → i < r → Inside h0 h1 v (header + i)
  found_ref i l = ref_inside h0 h1 f0 f1 v f.sound a b i (rw f.refs at l)

  pub found_plain : (i : ℕ) → i < p → Inside h0 h1 v (header + r + i)
  found_plain i l = rw f.refs (plain_inside h0 h1 f0 f1 v f.sound a b i (rw f.plains at l))
