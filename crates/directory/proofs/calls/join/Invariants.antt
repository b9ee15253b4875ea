use Rattle.directory_rules.specs.Directory.{joining}
use Rattle.directory.proofs.calls.join.Given as goal

abbrev pub ghost-change : goal.ghost-change
ghost-change a = joining a.act.0 a.act.1 a.act.2
