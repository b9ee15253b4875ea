-- Tospace current after the last session; before it damage, or the registers of the next session forwarded.
use Prim.Native.Nat.{ℕ}
use mathlib.Core.Path.{◌∙◌}
use lib.ListN.{get_or}
use borrow.Author.Tests.{lt-ltb, le-ltb}
use Rattle.rules.specs.Memory.{Memory}
use Rattle.rules.specs.Phases.{absent, session_at, with_session, move_on, tospace}
use Rattle.rules.specs.Collector.{forward_all, stack_flip}
use Rattle.store.specs.Cursors.{having}
use Rattle.store.proofs.collector.Numbers.{damaged, by_lent}
use Rattle.store.proofs.session.Search.{lowest_found, lowest_none}
use Rattle.store.proofs.Cursor.stack_flip.Goals as goal

pub returns-in_default : goal.returns-in_default
unfolding stack_flip move_on tospace
returns-in_default c =
    let a = c.args in
    λ s l e.
    let f = rw e at (lowest_none a.sessions.now c.in_default.ensures) in
    rw (c.flip.ensures, c.other_half.ensures, c.fromspace.ensures s a.h0.now a.h1.now l, le-ltb _ _ f)

pub returns-in_err-registers : goal.returns-in_err-registers
unfolding stack_flip session_at
returns-in_err-registers c =
    let a = c.args in
    λ s l e.
    let n = rw e at (lowest_found a.sessions.now c.in-Some.ensures) in
    let f = rw e at (by_lent a.self a.h0.now a.h1.now c.heap-heap.ensures (λ (M : Memory) (h : ℕ). forward_all M h (get_or a.sessions.now c.in-Some.n absent).registers) s l c.in_err-registers.ensures) in
    damaged (having s a.self a.h0.now a.h1.now l) c.from_residual.result c.from_residual.ensures.0 ∙ rw (n.0, lt-ltb _ _ n.1, f)

pub returns : goal.returns
unfolding stack_flip session_at with_session
returns c =
    let a = c.args in
    λ s l e.
    let n = rw e at (lowest_found a.sessions.now c.in-Some.ensures) in
    let f = rw e at (by_lent a.self a.h0.now a.h1.now c.heap-heap.ensures (λ (M : Memory) (h : ℕ). forward_all M h (get_or a.sessions.now c.in-Some.n absent).registers) s l c.in_ok-registers.ensures) in
    rw (n.0, lt-ltb _ _ n.1, f)
