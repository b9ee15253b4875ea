-- The record of each level.
use Prim.Native.Nat.{◌≤◌}
use mathlib.Core.List.{[]}
use native.Mathlib.Omega.{arith}
use Rattle.store.proofs.allocation.Record.{below_at, other_small, fromspace-small, frontier-small, room_one, room_each, room-second, allocated-white, allocated-black, allocated_both}
use Rattle.store.proofs.Control.allocated.Goals as goal

pub placed-requires : goal.placed-requires
placed-requires c = room_one _ _ _ _ _ _ c.requires (omega (arith, c.if-level-le1.true))

pub returns-then-level-le1 : goal.returns-then-level-le1
returns-then-level-le1 c = λ l. allocated-white _ _ _ _ c.if-level-le1.true (c.placed.ensures l)

pub placed-requires-then-level-le2 : goal.placed-requires-then-level-le2
placed-requires-then-level-le2 c = room_one _ _ _ _ _ _ c.requires c.if-level-le2.true

pub returns-then-level-le2 : goal.returns-then-level-le2
returns-then-level-le2 c = λ l. allocated-black _ _ _ _ c.if-level-le1.false c.if-level-le2.true (c.placed-then-level-le2.ensures l)

pub reference-old-requires : goal.reference-old-requires
reference-old-requires c =
    let from-small : c.fromspace-from.result ≤ 1 =
    fromspace-small _ (c.fromspace-from.ensures [] [] []) c.requires.small.half in
    let k = c.requires.small in
    (from-small, below_at (c.frontier.ensures [] []) (frontier-small [] [] _ _ _ k.low k.high))

pub reference-new-requires : goal.reference-new-requires
reference-new-requires c =
    let k = c.requires.small in
    (below_at c.other_half-to.ensures (other_small _), below_at (c.frontier-2.ensures [] []) (frontier-small [] [] _ _ _ k.low k.high))

pub placed-first-requires : goal.placed-first-requires
placed-first-requires c =
    let from-small : c.fromspace-from.result ≤ 1 =
    fromspace-small _ (c.fromspace-from.ensures [] [] []) c.requires.small.half in
    room_each _ _ _ _ _ _ c.requires c.if-level-le2.false _ from-small

pub placed-requires-2 : goal.placed-requires-2
placed-requires-2 c =
    let from-small : c.fromspace-from.result ≤ 1 =
    fromspace-small _ (c.fromspace-from.ensures [] [] []) c.requires.small.half in
    room-second _ _ _ _ _ _ _ _ _ _ _ _ from-small c.other_half-to.ensures
    (room_each _ _ _ _ _ _ c.requires c.if-level-le2.false _ (below_at c.other_half-to.ensures (other_small _)))
    (c.placed-first.ensures [])

pub returns : goal.returns
returns c =
    λ l. allocated_both _ _ _ _ c.if-level-le1.false c.if-level-le2.false (c.fromspace-from.ensures _ _ l) c.other_half-to.ensures
    (c.frontier.ensures _ _) c.reference-old.ensures (c.frontier-2.ensures _ _) c.reference-new.ensures
    (c.placed-first.ensures l) (c.placed-2.ensures l)
