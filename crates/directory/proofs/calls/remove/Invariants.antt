use Rattle.directory_rules.specs.Directory.{removing}
use Rattle.directory.proofs.calls.remove.Given as goal

abbrev pub ghost-change : goal.ghost-change
ghost-change a = removing a.act.0 a.act.1
