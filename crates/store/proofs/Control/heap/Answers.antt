-- The halves with the words pending, by their contract, and fromspace by its own.
use Rattle.heap.specs.Pending.{laid}
use Rattle.store.specs.View.{viewed}
use Rattle.store.proofs.Control.heap.Goals as goal

pub returns : goal.returns
returns c =
    let a = c.args in
    cc (c.fromspace.ensures (viewed a.self.now a.lent) (laid 0 a.pending.now a.lent.half0.now) (laid 1 a.pending.now a.lent.half1.now) a.lent.list.now)
