use mathlib.Core.Path.{◌≡◌}
use mathlib.Core.Bool.{false}
use mathlib.Core.List.{◌++◌, map}
use lib.ListN.{take, drop}
use Rattle.rules.specs.Phases.{with_mark}
use Rattle.rules.specs.declared.Session.{Session}
use Rattle.store.proofs.Control.clear_marks.Given as goal

abbrev pub invariant-loop-session : goal.invariant-loop-session
invariant-loop-session l =
    l.sessions ≡ map (λ (x : Session). with_mark x false) (take l.session-index l.initial.sessions) ++ drop l.session-index l.initial.sessions
