-- The table of limits, computed by the checker group by group.
use mathlib.Core.Path.{refl}
use mathlib.Core.List.{map-append}
use Rattle.rules.specs.Control.{make}
use Rattle.rules.specs.Script.{kinds, kind_of, call_of, decimal}
use Rattle.rules.specs.Examples.{Computed}
use Rattle.rules.specs.Samples.{number, value, following, lending, walking, reaching, levelled, waiting, opened, grown, three, listing, listed, scanning, paired, copies, table}
use Rattle.rules.specs.Limits.{making_rows, record_rows, control_rows, call_rows, phase_rows, barrier_rows, allocation_rows, script_rows, limits}
use Rattle.rules.specs.Claims.{Limits}
use Rattle.rules.proofs.Examples.{rules}

-- opens what the rows look at, and the definitions of the script
looks : Unit {0}
unfolding number value following lending walking reaching levelled waiting opened grown three listing listed scanning paired copies table make kinds kind_of call_of decimal rules
looks = tt

makings_hold : Computed making_rows
unfolding making_rows looks
makings_hold = refl

records_hold : Computed record_rows
unfolding record_rows looks
records_hold = refl

controls_hold : Computed control_rows
unfolding control_rows looks
controls_hold = refl

calls_hold : Computed call_rows
unfolding call_rows looks
calls_hold = refl

phases_hold : Computed phase_rows
unfolding phase_rows looks
phases_hold = refl

barriers_hold : Computed barrier_rows
unfolding barrier_rows looks
barriers_hold = refl

allocations_hold : Computed allocation_rows
unfolding allocation_rows looks
allocations_hold = refl

scripts_hold : Computed script_rows
unfolding script_rows looks
scripts_hold = refl

pub limits_hold : Limits
unfolding Limits limits
limits_hold = simp (map-append, makings_hold, records_hold, controls_hold, calls_hold, phases_hold, barriers_hold, allocations_hold, scripts_hold)
