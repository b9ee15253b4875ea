-- The code's halves: the words of a record that the halves have with the pending words written are words of the halves as they are, and a
-- sound record has its words.
use Prim.Native.Nat.{ℕ, ◌+◌, ◌≤◌, ◌<◌}
use mathlib.Core.Path.{◌≡◌, ◌∙◌, sym}
use mathlib.Core.Bool.{Bool, true, false, cond}
use mathlib.Core.List.{List}
use native.Mathlib.Omega.{arith}
use lib.Dec.{eqb}
use lib.ListN.{length}
use Rattle.rules.specs.Memory.{half, half_of, header, refs, sound, follow}
use Rattle.rules.specs.declared.Followed.{Followed}
use Rattle.rules.specs.declared.Followed.TheVariants.{Sound}
use Rattle.heap.specs.View.{memory, Has, sound_at}
use Rattle.heap.specs.Pending.{laid}
use Rattle.heap.specs.Halves.{as_written, as_memory}
use Rattle.heap.specs.declared.halves.Halves.{Halves}
use Rattle.heap.proofs.Soundness.{header_inside, split, found}
use Rattle.heap.proofs.Fields.{ref_inside}
use Rattle.heap.proofs.Laid.{laid-length}
use Rattle.heap.proofs.Placing.{half-kept}

either_length : (b : Bool) (xs ys : List ℕ) → length (cond b xs ys) ≤ length xs + length ys
either_length true xs ys = omega arith
either_length false xs ys = omega arith

module _ (m : Halves) (v : ℕ) where
  -- the words written keep the length of the half, which is no more than both
  pub laid_long : length (half (memory (laid 0 m.pending.now m.half0.now) (laid 1 m.pending.now m.half1.now) 0 0) (half_of v)) ≡ length (half (as_written m) (half_of v))
  unfolding half
  laid_long = half-kept m.half0.now m.half1.now _ _ (half_of v) (laid-length 0 m.pending.now m.half0.now) (laid-length 1 m.pending.now m.half1.now)

  pub half_short : length (half (as_written m) (half_of v)) ≤ length m.half0.now + length m.half1.now
  unfolding half
  half_short = either_length (eqb (half_of v) 0) m.half0.now m.half1.now

  low : m.frontier0 ≤ length (laid 0 m.pending.now m.half0.now)
  low = omega (arith, m.low, laid-length 0 m.pending.now m.half0.now)

  high : m.frontier1 ≤ length (laid 1 m.pending.now m.half1.now)
  high = omega (arith, m.high, laid-length 1 m.pending.now m.half1.now)

  -- the words of a sound record
  module _ (s : sound (as_memory m) v ≡ true) where
    pub has_header : (j : ℕ) → j < header → Has (as_memory m) v j
    has_header = header_inside _ _ m.frontier0 m.frontier1 v s low high

    pub has_ref : (i : ℕ) → i < refs (as_memory m) v → Has (as_memory m) v (header + i)
    has_ref = ref_inside _ _ m.frontier0 m.frontier1 v s low high

  -- the header of a record found sound, and of one that was followed
  module _ {x : Followed} {at r p : ℕ} where
    pub sound_header : x ≡ sound_at (as_memory m) v → x ≡ Sound at r p → (j : ℕ) → j < header → Has (as_memory m) v j
    sound_header e f = has_header (split (sound (as_memory m) v) _ _ _ (sym e ∙ f)).0

    pub found_header : x ≡ follow (as_memory m) v → x ≡ Sound at r p → (j : ℕ) → j < header → Has (as_memory m) v j
    found_header e f = has_header (found (as_memory m) v e f).sound
