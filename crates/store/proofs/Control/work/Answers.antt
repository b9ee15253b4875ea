-- Refused with 4; else what the unit of work leaves.
use mathlib.Core.Path.{sym}
use Rattle.rules.proofs.Ranges.{in_range_lem}
use Rattle.std.proofs.lemmas.Result.{err_from_is_err_and}
use Rattle.store.specs.View.{view}
use Rattle.store.proofs.collector.Numbers.{ready, ends}
use Rattle.store.proofs.collector.Step.{step_done}
use Rattle.store.proofs.Control.work.Goals as goal

pub unit-requires : goal.unit-requires
unit-requires c =
    let k = in_range_lem _ (sym (c.if-not-valid.ensures)) in
    (ready c.args.self.now k, ends c.args.self.now k)

pub returns-in_err-unit : goal.returns-in_err-unit
returns-in_err-unit c =
    let s = view c.args.self.now c.args.h0.now c.args.h1.now c.args.list.now in
    let p = err_from_is_err_and c.from_residual.result c.from_residual.ensures.1 in
    rw (p.1, p.2) (step_done s c.if-not-valid.ensures c.in_err-unit.ensures)

pub returns : goal.returns
returns c =
    let s = view c.args.self.now c.args.h0.now c.args.h1.now c.args.list.now in
    step_done s c.if-not-valid.ensures c.in_ok-unit.ensures
