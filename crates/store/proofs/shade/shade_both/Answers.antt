-- The first keeps the lengths and moves the list's end by one at most, so that the second still has room.
use Prim.Native.Nat.{◌+◌, ◌≤◌}
use native.Mathlib.Omega.{arith}
use Rattle.heap.proofs.Placing.{inside_kept}
use Rattle.store.proofs.shading.Shade.{end_after}
use Rattle.store.proofs.shade.shade_both.Goals as goal

pub shade_one-requires : goal.shade_one-requires
shade_one-requires c = λ n.
    let p = c.requires.1 n in
    let next : c.shade_one-next.result ≤ c.args.end + 1 = end_after _ _ _ _ _ _ _ _ _ c.shade_one-next.ensures in
    (inside_kept _ _ _ _ _ _ c.shade_one-next.auto.h0 c.shade_one-next.auto.h1 p.0, omega (arith, p.1, next, c.shade_one-next.auto.list))
