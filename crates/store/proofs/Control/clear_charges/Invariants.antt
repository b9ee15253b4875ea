use mathlib.Core.Path.{◌≡◌}
use mathlib.Core.List.{◌++◌, map}
use lib.ListN.{take, drop}
use Rattle.rules.specs.Phases.{with_charge}
use Rattle.rules.specs.declared.Session.{Session}
use Rattle.store.proofs.Control.clear_charges.Given as goal

abbrev pub invariant-loop-session : goal.invariant-loop-session
invariant-loop-session l =
    l.sessions ≡ map (λ (x : Session). with_charge x 0) (take l.session-index l.initial.sessions) ++ drop l.session-index l.initial.sessions
