-- A reference field is forwarded.
use Prim.Native.Nat.{ℕ}
use mathlib.Core.Path.{sym}
use borrow.Author.Tests.{lt-ltb}
use Rattle.rules.specs.Memory.{Memory, forward}
use Rattle.store.proofs.collector.Numbers.{by_lent}
use Rattle.store.proofs.Cursor.copied_word.Goals as goal

pub returns : goal.returns
returns c =
    let a = c.args in
    λ s l. rw (lt-ltb _ _ c.if-r-self.false)
    (sym (by_lent a.self a.h0.now a.h1.now c.heap.ensures (λ (M : Memory) (h : ℕ). forward M h a.x) s l c.forward.ensures))
