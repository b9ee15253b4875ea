-- Each piece takes the version byte or an entry of what is still to come.
use Rattle.workload.proofs.claims.Joining.{items}
use Rattle.workload_main.proofs.write_load.Given as goal

abbrev pub decreases-loop-rest : goal.decreases-loop-rest
decreases-loop-rest g l = items l.rest
