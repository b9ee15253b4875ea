-- One register more is forwarded, or damage.
use mathlib.Core.Path.{◌≡◌, ◌∙◌, sym}
use native.Mathlib.Omega.{arith}
use Rattle.rules.specs.Refusals.{refused, checked}
use Rattle.rules.specs.Barriers.{to}
use Rattle.heap.specs.Halves.{as_heap}
use Rattle.store.proofs.collector.Forward.{all_lost, all_more}
use Rattle.store.proofs.flipping.forward_all.Goals as goal

pub returns-in_err-register : goal.returns-in_err-register
returns-in_err-register c =
    let z = as_heap c.args.heap.now in
    let l = c.loop-register in
    let e : checked c.from_residual.result ≡ refused 12 = grind arith in
    e ∙ sym (l.invariant ∙ all_lost z.memory (to z) l.register-items l.register-index (omega arith) (sym c.in_err-register.ensures))

pub loop-register-preserved : goal.loop-register-preserved
loop-register-preserved c =
    let z = as_heap c.args.heap.now in
    let l = c.loop-register in
    l.invariant ∙ all_more z.memory (to z) l.register-items l.register-index (omega arith) _ (sym c.in_ok-register.ensures)
