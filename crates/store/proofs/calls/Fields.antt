-- The words that a load, a read and the birth number read lie inside; and what the plan of a load says of its session and its register.
use Prim.Native.Nat.{ℕ, ◌+◌, ◌≤◌, ◌<◌}
use mathlib.Core.Path.{◌≡◌, sym}
use native.Mathlib.Omega.{arith}
use Rattle.rules.specs.Refusals.{passed}
use Rattle.rules.specs.Memory.{Memory, follow, header, birth_at}
use Rattle.rules.specs.Control.{Store, last_register, last_session}
use Rattle.rules.specs.Calls.{operands_of, record_of, load_plan}
use Rattle.rules.specs.declared.Operands.{Operands}
use Rattle.rules.specs.declared.Followed.{Followed}
use Rattle.rules.specs.declared.Followed.TheVariants.{Sound}
use Rattle.rules.proofs.Ranges.{fronts}
use Rattle.heap.specs.View.{Has}
use Rattle.heap.specs.Halves.{as_memory}
use Rattle.heap.specs.declared.halves.Halves.{Halves}
use Rattle.heap.proofs.Passed.{bind_passed}
use Rattle.heap.proofs.Soundness.{found, header_inside}
use Rattle.heap.proofs.Fields.{found_plain}
use Rattle.heap.proofs.Laid.{laid-length}
use Rattle.heap.proofs.Lent.{has_ref}
use Rattle.store.proofs.tests.Opening.{worked, recorded}

-- the fields of a record that was followed
module _ (m : Halves) (v i : ℕ) {x : Followed} {at r p : ℕ} (e : x ≡ follow (as_memory m) v) (f : x ≡ Sound at r p) where
  pub has_ref_field : i < r → Has (as_memory m) v (header + i)
  has_ref_field l = let d = found (as_memory m) v e f in has_ref m v d.sound i (rw d.refs at l)

  pub has_plain_field : i < p → Has (as_memory m) v (header + r + i)
  has_plain_field = found_plain _ _ _ _ v (found (as_memory m) v e f) (omega (arith, m.low, laid-length 0 m.pending.now m.half0.now)) (omega (arith, m.high, laid-length 1 m.pending.now m.half1.now)) i

-- what the plan of a load passed says of its session and its register
pub load_numbers : {w : ℕ} (s : Store) (n to k i : ℕ) → passed w ≡ load_plan s n to k i → (n ≤ last_session) × (to ≤ last_register)
unfolding load_plan record_of
load_numbers s n to k i e =
    let a = bind_passed (operands_of s n k to) _ (bind_passed (record_of s n k to) _ (sym e)).1 in
    let w = worked s n k to a.1 in (w.number, w.second)

-- the birth number of a record that can be followed
pub has_birth : {M : Memory} {x : Operands} (s : Store) (n k o : ℕ) → passed x ≡ record_of s n k o → M ≡ s.memory → Has M x.own birth_at
has_birth {x = x} s n k o e d =
    let a = recorded s n k o (sym e) in
    let b = fronts a.0.known in
    rw d (header_inside _ _ _ _ x.own a.1.sound b.0 b.1 birth_at (omega arith))
