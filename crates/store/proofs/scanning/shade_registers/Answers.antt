-- Invariant: the records found among the registers before this one are shaded, and the colours are those that this leaves. Where as
-- many were found as there are, or no register is left, all of them are shaded.
use mathlib.Core.Path.{sym}
use native.Mathlib.Omega.{arith}
use Rattle.heap.proofs.Placing.{inside_kept}
use Rattle.store.proofs.collector.Walk.{has-same}
use Rattle.store.proofs.shading.ShadeAll.{turn_inside, turn-room, next-turn, last_turn}
use Rattle.store.proofs.scanning.shade_registers.Goals as goal

pub if_white-w-requires : goal.if_white-w-requires
if_white-w-requires c =
    let l = c.loop-v in
    λ n. has-same (sym c.new.ensures.memory) (inside_kept _ _ _ _ _ _ l.auto.h0 l.auto.h1 (c.requires.1 l.v-index (omega arith) n))

pub shade_one-end-requires : goal.shade_one-end-requires
shade_one-end-requires c =
    let l = c.loop-v in
    let t = c.requires.1 l.v-index (omega arith) in
    let e = rw c.new.ensures.memory at c.if_white-w.ensures in
    λ n. (
      turn_inside l.invariant l.auto.h0 l.auto.h1 (omega arith) t e n,
      turn-room l.invariant l.auto.h0 l.auto.h1 (omega arith) t e n l.auto.list (omega (arith, c.requires.2, c.requires.3)),
    )

pub loop-v-preserved : goal.loop-v-preserved
loop-v-preserved c =
    let l = c.loop-v in
    let t = c.requires.1 l.v-index (omega arith) in
    let e = rw c.new.ensures.memory at c.if_white-w.ensures in
    next-turn l.invariant l.auto.h0 l.auto.h1 (omega arith) t e c.shade_one-end.ensures

pub returns-then-last-end : goal.returns-then-last-end
returns-then-last-end c = last_turn c.loop-v.invariant c.args.last c.requires.2 (omega arith) (omega arith)
