-- The record written at the frontier, which moves past it; the number of its colour in the code is its word.
use Rattle.heap.proofs.Written.{colour-word}
use Rattle.store.proofs.allocation.Record.{room_at, placed_at}
use Rattle.store.proofs.Control.placed.Goals as goal

pub append_record-requires : goal.append_record-requires
append_record-requires c = room_at _ _ _ _ _ _ (c.frontier-at.ensures _ _) c.requires.above

pub returns : goal.returns
returns c =
    λ l. rw (← colour-word c.args.colour)
    (placed_at _ _ _ _ _ _ _ (c.frontier-at.ensures _ _) (c.append_record.ensures _ _) (c.with_frontier.ensures _ _ l))
