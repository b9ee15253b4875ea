-- The unit of work by the number of the phase; a phase that is none of the others only waits.
use mathlib.Core.Path.{refl}
use native.Mathlib.Omega.{arith}
use Rattle.rules.specs.Cycle.{at_allocate, at_copy, at_heap_mark, at_reclaim, at_rest, at_root_flip, at_root_mark, at_stack_flip}
use Rattle.store.specs.View.{view}
use Rattle.store.proofs.collector.Step.{waits, by_phase, by_waiting}
use Rattle.store.proofs.Control.unit.Goals as goal

pub returns-in-0 : goal.returns-in-0
returns-in-0 c =
    let s = view c.args.self.now c.args.h0.now c.args.h1.now c.args.list.now in
    by_phase s at_rest c.in-0.is (c.rest.ensures s s.memory.half0 s.memory.half1 s.list.words)

pub returns-in-3 : goal.returns-in-3
returns-in-3 c =
    let s = view c.args.self.now c.args.h0.now c.args.h1.now c.args.list.now in
    by_phase s at_root_mark c.in-3.is (c.root_mark.ensures s refl)

pub returns-in-4 : goal.returns-in-4
returns-in-4 c =
    let s = view c.args.self.now c.args.h0.now c.args.h1.now c.args.list.now in
    by_phase s at_heap_mark c.in-4.is (c.heap_mark.ensures s refl)

pub returns-in-5 : goal.returns-in-5
returns-in-5 c =
    let s = view c.args.self.now c.args.h0.now c.args.h1.now c.args.list.now in
    by_phase s at_allocate c.in-5.is (c.allocate_shells.ensures s s.list.words (c.have_level.ensures s.memory.half0 s.memory.half1 s.list.words))

pub returns-in-7 : goal.returns-in-7
returns-in-7 c =
    let s = view c.args.self.now c.args.h0.now c.args.h1.now c.args.list.now in
    by_phase s at_copy c.in-7.is (c.copy.ensures s s.list.words)

pub returns-in-10 : goal.returns-in-10
returns-in-10 c =
    let s = view c.args.self.now c.args.h0.now c.args.h1.now c.args.list.now in
    by_phase s at_root_flip c.in-10.is (c.root_flip.ensures s s.list.words refl)

pub returns-in-11 : goal.returns-in-11
returns-in-11 c =
    let s = view c.args.self.now c.args.h0.now c.args.h1.now c.args.list.now in
    by_phase s at_stack_flip c.in-11.is (c.stack_flip.ensures s s.list.words refl)

pub returns-in-12 : goal.returns-in-12
returns-in-12 c =
    let s = view c.args.self.now c.args.h0.now c.args.h1.now c.args.list.now in
    by_phase s at_reclaim c.in-12.is (c.reclaim.ensures s s.list.words (c.have_level-in-12.ensures s.memory.half0 s.memory.half1 s.list.words))

pub returns-in_default : goal.returns-in_default
returns-in_default c =
    let s = view c.args.self.now c.args.h0.now c.args.h1.now c.args.list.now in
    let n = waits s.phase (λ e. omega (arith, e)) (λ e. omega (arith, e)) (λ e. omega (arith, e)) (λ e. omega (arith, e))
    (λ e. omega (arith, e)) (λ e. omega (arith, e)) (λ e. omega (arith, e)) (λ e. omega (arith, e)) in
    by_waiting s n (c.handshake.ensures s s.memory.half0 s.memory.half1 s.list.words (c.have_level-in_default.ensures s.memory.half0 s.memory.half1 s.list.words))
