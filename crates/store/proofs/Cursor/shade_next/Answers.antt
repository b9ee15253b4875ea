-- Nothing to shade, and the walk goes on; or a record with its colour word, and room in the list.
use mathlib.Core.Path.{refl}
use Rattle.store.specs.Cursors.{having}
use Rattle.store.specs.Marking.{shade_next}
use Rattle.store.proofs.collector.Numbers.{some}
use Rattle.store.proofs.shading.Phases.{shadable}
use Rattle.store.proofs.shading.Shade.{shade-null, shade_record}
use Rattle.store.proofs.Cursor.shade_next.Goals as goal

pub returns-then-w-eq0 : goal.returns-then-w-eq0
unfolding shade_next
returns-then-w-eq0 c =
    let a = c.args in
    λ s.
    let e = rw (c.heap.ensures s a.list.now refl) at c.in_ok-w.ensures in
    rw (c.walk_to.ensures, ← e, ← shade-null (having s a.self a.h0.now a.h1.now a.list.now) c.in_ok-w.w c.if-w-eq0.true)

pub put_grey-requires : goal.put_grey-requires
put_grey-requires c =
    let a = c.args in
    let e = rw (c.heap.ensures some a.list.now refl) at c.in_ok-w.ensures in
    shadable (having some a.self a.h0.now a.h1.now a.list.now) a.q c.requires.0.low c.requires.0.high e c.if-w-eq0.false

pub returns : goal.returns
unfolding shade_next
returns c =
    let a = c.args in
    let p = c.put_grey.ensures in
    λ s.
    let e = rw (c.heap.ensures s a.list.now refl) at c.in_ok-w.ensures in
    rw (c.shaded.ensures, ← e, ← shade_record (having s a.self a.h0.now a.h1.now a.list.now) c.in_ok-w.w c.if-w-eq0.false (p.0 _ _) p.1)
