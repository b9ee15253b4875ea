-- Damage, or the next global forwarded.
use Prim.Native.Nat.{ℕ}
use mathlib.Core.Path.{◌∙◌}
use lib.ListN.{get_or}
use borrow.Author.Tests.{lt-ltb}
use Rattle.rules.specs.Memory.{Memory, forward}
use Rattle.rules.specs.Collector.{root_flip}
use Rattle.store.specs.Cursors.{having}
use Rattle.store.proofs.collector.Numbers.{damaged, by_lent}
use Rattle.store.proofs.Cursor.root_flip.Goals as goal

pub returns-in_err-word : goal.returns-in_err-word
unfolding root_flip
returns-in_err-word c =
    let a = c.args in
    λ s l e.
    let f = rw e at (by_lent a.self a.h0.now a.h1.now c.heap.ensures (λ (M : Memory) (h : ℕ). forward M h (get_or a.globals.now a.self.place 0)) s l c.in_err-word.ensures) in
    damaged (having s a.self a.h0.now a.h1.now l) c.from_residual.result c.from_residual.ensures.0 ∙ rw (lt-ltb _ _ c.if-place-ge-GLOBALS.false, f)

pub returns : goal.returns
unfolding root_flip
returns c =
    let a = c.args in
    λ s l e.
    let f = rw e at (by_lent a.self a.h0.now a.h1.now c.heap.ensures (λ (M : Memory) (h : ℕ). forward M h (get_or a.globals.now a.self.place 0)) s l c.in_ok-word.ensures) in
    rw (lt-ltb _ _ c.if-place-ge-GLOBALS.false, f)
