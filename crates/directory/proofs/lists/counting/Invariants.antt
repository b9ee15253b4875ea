use Prim.Native.Nat.{◌-◌}
use mathlib.Core.Path.{◌≡◌}
use Rattle.directory_rules.specs.Acts.{perform}
use Rattle.directory_rules.specs.Directory.{counting}
use Rattle.directory.specs.View.{viewed}
use Rattle.directory.proofs.lists.counting.Given as goal

abbrev pub invariant-loop-count : goal.invariant-loop-count
invariant-loop-count l = perform (viewed l.initial.control l.lent) (counting l.bound 0) ≡ perform (viewed l.control l.lent) (counting (l.bound - l.count) l.count)
