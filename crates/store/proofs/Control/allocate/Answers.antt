-- The record written, then the register set and the session charged.
use mathlib.Core.Path.{ap}
use mathlib.Core.List.{[]}
use Rattle.rules.specs.Control.{Store}
use Rattle.rules.specs.Phases.{session_at}
use Rattle.store.proofs.allocation.Tests.{allocating_number, allocating_register, allocating_share, allocated_done}
use Rattle.store.proofs.Control.allocate.Goals as goal

pub given-requires : goal.given-requires
given-requires c =
    let tests = c.in-Ok.ensures in
    (allocating_number _ _ _ _ _ _ _ _ tests, allocating_register _ _ _ _ _ _ _ _ tests, allocating_share _ _ _ _ _ _ _ _ tests (ap (λ (t : Store). t.sessions) (c.allocated-written.ensures [])))

pub returns-in-Ok : goal.returns-in-Ok
unfolding session_at
returns-in-Ok c =
    rw (allocated_done _ _ _ _ _ _ _ _ c.in-Ok.ensures (c.allocated_reference-v.ensures _ _ _)
    (c.allocated-written.ensures _) (c.given.ensures _ _ _))
