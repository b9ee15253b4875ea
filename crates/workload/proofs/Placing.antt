-- An entry put into a buffer: its kind byte, its arguments, and last its length byte.
use Prim.Native.Nat.{ℕ, suc, ◌+◌, ◌-◌, ◌%◌, ◌≤◌}
use mathlib.Core.Path.{◌≡◌}
use mathlib.Core.List.{List, [], ◌∷◌}
use native.Mathlib.Omega.{arith}
use lib.ListN.{length, set, length-set}
use lib.Seq.{sets, length-sets}
use Rattle.rules.proofs.memory.Sets.{sets-before}
use Rattle.workload.specs.Load.{xorshift32, kind_count, form_at, draw, entry_bytes}
use Rattle.workload.specs.Entries.{Placed, arguments_from, Room, arguments_into, entry_into}
use Rattle.workload.specs.Pieces.{longest_entry}
use Rattle.workload.specs.declared.entries.Class.{Class}
use Rattle.workload.proofs.Sizes.{entry-short}

module _ (x at : ℕ) (out : List ℕ) where
  -- its arguments, and the buffer with the kind byte
  abbrev arguments : List ℕ
  arguments = arguments_from (form_at (x % kind_count)).classes (xorshift32 x)

  abbrev kinded : List ℕ
  kinded = set out (at + 1) (x % kind_count + 1)

  arguments-short : length arguments + 2 ≤ longest_entry
  unfolding draw entry_bytes
  arguments-short = omega (arith, entry-short x)

  -- the classes of its arguments and the value that the first of them is drawn from
  module _ {classes : List Class} {first : ℕ} (kind : classes ≡ (form_at (x % kind_count)).classes) (value : first ≡ xorshift32 x) where
    -- they have room where the longest entry has
    pub arguments-room : at + longest_entry ≤ length out → Room classes first (at + 2) kinded
    arguments-room room = rw (kind, value, length-set) (omega (arith, arguments-short))

    module _ {p : Placed} (e : p ≡ arguments_into classes first (at + 2) kinded) where
      pub entry-end : (at + 2 ≤ p.end) × (p.end ≤ at + longest_entry) × (length p.out ≡ length out)
      unfolding arguments_into
      entry-end = rw (e, kind, value) (omega arith, omega (arith, arguments-short), rw (length-sets, length-set))

      pub entry-placed : record { next = p.next; out = set p.out at (p.end - (at + 1)); end = p.end } ≡ entry_into x at out
      unfolding arguments_into entry_into draw entry_bytes
      entry-placed =
          let place : at + 2 ≡ suc (at + 1) = omega arith in
          let body : at + 2 + length arguments - (at + 1) ≡ suc (length arguments) = omega arith in
          let end : at + 2 + length arguments ≡ at + suc (suc (length arguments)) = omega arith in
          let bytes : set (sets kinded (at + 2) arguments) at (suc (length arguments)) ≡ sets out at (suc (length arguments) ∷ (x % kind_count + 1) ∷ arguments) =
          rw place (sets-before out at (suc (length arguments) ∷ []) ((x % kind_count + 1) ∷ arguments)) in
          rw (e, kind, value, body, bytes, end)
