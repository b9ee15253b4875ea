-- The different white records among the registers before register i are counted, and the registers from i on are left to test.
use Prim.Native.Nat.{◌<◌}
use mathlib.Core.Path.{◌∙◌, sym, refl}
use native.Mathlib.Omega.{arith}
use lib.ListN.{length}
use Rattle.heap.specs.Halves.{as_memory}
use Rattle.store.proofs.shading.Counting.{count_first, count_on, count-more}
use Rattle.store.proofs.scanning.count_whites.Goals as goal
use Rattle.store.proofs.scanning.count_whites.Goals.{then-is_new, else-is_new}

pub loop-i-init : goal.loop-i-init
loop-i-init c = (omega arith, refl, count_first (as_memory c.args.halves.now) c.args.registers.now)

pub loop-i-preserved : goal.loop-i-preserved
loop-i-preserved c =
    let M = as_memory c.args.halves.now in
    let vs = c.args.registers.now in
    let i = c.loop-i.i in
    let h : i < length vs = omega arith in
    let e = sym c.in_ok-w.ensures in
    let m = count-more M vs i h e c.is_new.ensures in
    let r = c.loop-i.invariant.2 ∙ count_on M vs i _ h e in
    elim c.if-is_new.branch [
      | then-is_new w ↦ let n = rw w.if-is_new.true at m in (omega arith, omega arith, r)
      | else-is_new w ↦ let n = rw w.if-is_new.false at m in (omega arith, omega arith, r)
    ]
