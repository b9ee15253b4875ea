-- The reference of the frontier's word in the half that allocated_half answers.
use mathlib.Core.List.{[]}
use Rattle.store.proofs.allocation.Record.{below_at, frontier-small, given}
use Rattle.store.proofs.Control.allocated_reference.Goals as goal

pub reference-requires : goal.reference-requires
reference-requires c =
    let p = c.requires in
    (c.allocated_half-h.ensures.0, below_at (c.frontier.ensures [] []) (frontier-small [] [] _ _ _ p.1 p.2))

pub returns : goal.returns
returns c = λ h0 h1 l. given _ _ _ (c.allocated_half-h.ensures.1 h0 h1 l) (c.frontier.ensures _ _) c.reference.ensures
