use Prim.Native.Nat.{◌-◌}
use mathlib.Core.Path.{◌≡◌}
use Rattle.directory.specs.View.{viewed}
use Rattle.directory.proofs.acts.Ending.{cleared}
use Rattle.directory.proofs.calls.clear_registers.Given as goal

abbrev pub invariant-loop-register : goal.invariant-loop-register
invariant-loop-register l = cleared l.count 0 (viewed l.initial.control l.lent) ≡ cleared (l.count - l.register) l.register (viewed l.control l.lent)
