use mathlib.Core.Path.{◌≡◌}
use Rattle.directory.specs.View.{viewed}
use Rattle.directory_rules.specs.Acts.{perform}
use Rattle.directory_rules.specs.Directory.{seek}
use Rattle.directory.proofs.walks.seek.Given as goal

abbrev pub invariant-loop-left : goal.invariant-loop-left
invariant-loop-left l = perform (viewed l.initial.control l.lent) (seek l.bound l.initial.at l.initial.via l.key l.least) ≡ perform (viewed l.control l.lent) (seek l.left l.at l.via l.key l.least)
