use Rattle.directory_rules.specs.Directory.{adding}
use Rattle.directory.proofs.calls.add.Given as goal

abbrev pub ghost-change : goal.ghost-change
ghost-change a = adding a.act.0 a.act.1
