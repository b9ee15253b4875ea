-- What the plan says written: the records shaded, then the global.
use Rattle.rules.specs.Calls.{put, put_commit}
use Rattle.rules.specs.Barriers.{shade_both}
use Rattle.store.specs.View.{view}
use Rattle.store.proofs.calls.Store.{put_listable}
use Rattle.store.proofs.Control.put.Goals as goal

pub shade_both-self-requires : goal.shade_both-self-requires
shade_both-self-requires c = put_listable _ _ _ _ c.in-Ok.ensures

pub returns-in-Ok : goal.returns-in-Ok
unfolding put put_commit shade_both
returns-in-Ok c =
    let a = c.args in
    rw (← c.in-Ok.ensures, ← c.shade_both-self.ensures (view a.self a.h0.now a.h1.now a.list.now))
