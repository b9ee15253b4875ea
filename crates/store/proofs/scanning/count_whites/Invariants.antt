use Prim.Native.Nat.{◌≤◌}
use mathlib.Core.Path.{◌≡◌}
use lib.ListN.{length, drop}
use Rattle.rules.specs.Barriers.{to_shade_all}
use Rattle.heap.specs.Halves.{as_memory}
use Rattle.store.specs.Marking.{whites_among}
use Rattle.store.proofs.shading.Whites.{up_to}
use Rattle.store.proofs.shading.Counting.{yields}
use Rattle.store.proofs.scanning.count_whites.Given as goal

abbrev pub invariant-loop-i : goal.invariant-loop-i
invariant-loop-i l = (l.count ≤ l.i) × (l.count ≡ length (up_to (as_memory l.halves) l.registers l.i))
    × (to_shade_all (as_memory l.halves) l.registers ≡ yields (to_shade_all (as_memory l.halves) (drop l.i l.registers)) (whites_among (as_memory l.halves) l.registers))
