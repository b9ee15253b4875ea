-- The list done, the lowest session without a mark; none left, the next phase.
use mathlib.Core.Path.{ap}
use mathlib.Core.List.{List}
use lib.ListN.{get_or}
use borrow.Author.Tests.{lt-ltb, le-ltb}
use Rattle.rules.specs.Phases.{absent, move_on}
use Rattle.rules.specs.Collector.{heap_mark}
use Rattle.rules.specs.declared.Session.{Session}
use Rattle.store.proofs.session.Search.{lowest_found, lowest_none}
use Rattle.store.proofs.Cursor.heap_mark.Goals as goal

pub returns-in-Some : goal.returns-in-Some
unfolding heap_mark
returns-in-Some c =
    λ s e.
    let n = rw e at (lowest_found c.args.sessions.now c.in-Some.ensures) in
    rw (le-ltb _ _ c.if-head-self.false, n.0, lt-ltb _ _ n.1) (c.scan_session.ensures s (ap (λ (xs : List Session). (get_or xs c.in-Some.n absent).registers) e))

pub returns-in-None : goal.returns-in-None
unfolding heap_mark move_on
returns-in-None c =
    λ s e.
    let n = rw e at (lowest_none c.args.sessions.now c.in-None.ensures) in
    rw (c.move_on.ensures, le-ltb _ _ c.if-head-self.false, le-ltb _ _ n)
