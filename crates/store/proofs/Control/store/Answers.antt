-- What the plan says written: the records shaded, then the field of the two copies.
use Rattle.rules.specs.Calls.{store, store_commit}
use Rattle.rules.specs.Barriers.{shade_both}
use Rattle.heap.proofs.Placing.{inside_kept}
use Rattle.store.specs.View.{view}
use Rattle.store.proofs.calls.Store.{storable}
use Rattle.store.proofs.Control.store.Goals as goal

pub shade_both-self-requires : goal.shade_both-self-requires
shade_both-self-requires c = (storable _ _ _ _ _ c.in-Ok.ensures).shaded

pub put_both-requires : goal.put_both-requires
put_both-requires c =
    let k = storable _ _ _ _ _ c.in-Ok.ensures in
    let l = c.shade_both-self.auto in
    (inside_kept _ _ _ _ _ _ l.h0 l.h1 k.own, λ n. inside_kept _ _ _ _ _ _ l.h0 l.h1 (k.copy n))

pub returns-in-Ok : goal.returns-in-Ok
unfolding store store_commit shade_both
returns-in-Ok c =
    let a = c.args in
    rw (← c.in-Ok.ensures, ← c.shade_both-self.ensures (view a.self a.h0.now a.h1.now a.list.now), ← c.put_both.ensures a.self.cursor.frontier0 a.self.cursor.frontier1)
