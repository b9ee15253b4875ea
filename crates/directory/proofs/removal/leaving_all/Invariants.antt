use Prim.Native.Nat.{◌-◌}
use mathlib.Core.Path.{◌≡◌}
use Rattle.directory_rules.specs.Acts.{perform}
use Rattle.directory_rules.specs.Directory.{leaving_all}
use Rattle.directory.specs.View.{Same, viewed_mut}
use Rattle.directory.proofs.removal.leaving_all.Given as goal

abbrev pub invariant-loop : goal.invariant-loop
invariant-loop l = record {
  did : perform (viewed_mut l.initial.control l.initial.lent) (leaving_all l.half l.half l.person) ≡ perform (viewed_mut l.control l.lent) (leaving_all (l.half - l.counter) l.half l.person);
  same : Same l.initial.lent l.lent;
}
