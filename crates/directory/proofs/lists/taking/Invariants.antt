use lib.ListN.{length}
use Rattle.directory_rules.specs.Acts.{perform}
use Rattle.directory_rules.specs.Directory.{taking}
use Rattle.directory.specs.View.{viewed}
use Rattle.directory.proofs.acts.Taking.{Underway}
use Rattle.directory.proofs.lists.taking.Given as goal

abbrev pub invariant-loop-slot : goal.invariant-loop-slot
invariant-loop-slot l = Underway (perform (viewed l.initial.control l.lent) (taking (length l.initial.out))) (viewed l.control l.lent) l.slot-index l.out
