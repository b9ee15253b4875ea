-- The attach, and its number.
use mathlib.Core.Path.{sym, ◌∙◌}
use Rattle.directory_rules.specs.Acts.{must, attach}
use Rattle.directory_rules.specs.Directory.{program}
use Rattle.directory_rules.specs.Table.{Open}
use Rattle.directory.proofs.acts.Ending.{directory_call_lem, plain_left}
use Rattle.directory.proofs.calls.open.Goals as goal

pub returns : goal.returns
unfolding program
returns c = plain_left _ _ (must (attach _)) _ _ c.attach-attached.ensures c.and.ensures ∙ sym (directory_call_lem _ (Open _))
