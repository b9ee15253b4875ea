use Rattle.directory_rules.specs.Directory.{leaving}
use Rattle.directory.proofs.calls.leave.Given as goal

abbrev pub ghost-change : goal.ghost-change
ghost-change a = leaving a.act.0 a.act.1 a.act.2
