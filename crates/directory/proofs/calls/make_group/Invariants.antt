use Rattle.directory_rules.specs.Directory.{making}
use Rattle.directory.proofs.calls.make_group.Given as goal

abbrev pub ghost-change : goal.ghost-change
ghost-change a = making a.act.0 a.act.1
