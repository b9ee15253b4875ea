-- The registers are damage or the list is full: refused; else the white records among them are shaded, and the session is marked.
use mathlib.Core.Path.{◌≡◌, ◌∙◌, ap, refl}
use native.Mathlib.Omega.{arith}
use borrow.Author.Rules.{rules}
use lib.ListN.{length}
use Rattle.rules.specs.Control.{register_count}
use Rattle.rules.specs.Phases.{session_at}
use Rattle.rules.specs.Barriers.{shade_all}
use Rattle.heap.specs.View.{memory}
use Rattle.heap.proofs.Soundness.{header_inside}
use Rattle.store.specs.Cursors.{having}
use Rattle.store.specs.Marking.{whites_among}
use Rattle.store.proofs.collector.Numbers.{damaged}
use Rattle.store.proofs.shading.Counting.{tested-sound}
use Rattle.store.proofs.shading.Phases.{whites_any, counted, scan_damage, scan_full, scan_shaded}
use Rattle.store.proofs.Cursor.scan_session.Goals as goal

pub returns-in_err-count : goal.returns-in_err-count
unfolding session_at
returns-in_err-count c =
    let a = c.args in
    λ s e.
    let w = rw (c.halves.ensures.memory, e) at c.in_err-count.ensures in
    let t = having s a.self a.h0.now a.h1.now a.list.now in
    damaged t c.from_residual.result c.from_residual.ensures.0 ∙ rw (scan_damage t a.n w)

pub returns-then-list-self : goal.returns-then-list-self
unfolding session_at
returns-then-list-self c =
    let a = c.args in
    λ s e.
    let w = rw (c.halves.ensures.memory, e) at c.in_ok-count.ensures in
    rw (scan_full (having s a.self a.h0.now a.h1.now a.list.now) a.n w (omega arith))

pub shade_registers-requires : goal.shade_registers-requires
shade_registers-requires c =
    let a = c.args in
    let r = c.requires.0 in
    let w = rw c.halves.ensures.memory at c.in_ok-count.ensures in
    let k = counted (memory a.h0.now a.h1.now a.self.frontier0 a.self.frontier1) a.session.now.registers w in
    let n : length a.session.now.registers ≡ register_count = search rules in (
      n,
      λ j h z. header_inside _ _ _ _ _ (tested-sound _ _ _ k.0 j (omega arith) z) r.low r.high _ (omega arith),
      rw (whites_any a.h0.now a.h1.now a.self.frontier0 a.self.frontier1 a.session.now.registers, k.1) refl,
      omega arith,
    )

pub returns : goal.returns
unfolding session_at
returns c =
    let a = c.args in
    λ s e.
    let w = rw (c.halves.ensures.memory, e) at c.in_ok-count.ensures in
    let t = having s a.self a.h0.now a.h1.now a.list.now in
    let f = c.shade_registers.ensures t ∙ ap (shade_all t) (whites_any _ _ _ _ _ ∙ ap (whites_among t.memory) e) in
    rw (scan_shaded t a.n w (omega arith) f)
