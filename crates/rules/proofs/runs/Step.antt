-- A collector step does the unit of its phase, passes its tests and keeps the invariant.
use Prim.Native.Nat.{ℕ, ◌≤◌, zero-le}
use mathlib.Core.Path.{◌≡◌, refl, ◌∙◌}
use native.Mathlib.Omega.{arith}
use lib.ListN.{get_or}
use Rattle.rules.specs.Refusals.{answered}
use Rattle.rules.specs.Control.{Store}
use Rattle.rules.specs.Cycle.{last_phase, at_rest, at_pre_mark1, at_pre_mark2, at_root_mark, at_heap_mark, at_allocate, at_pre_copy, at_copy, at_pre_flip1, at_pre_flip2, at_root_flip, at_stack_flip, at_reclaim}
use Rattle.rules.specs.Collector.{units, handshake, step}
use Rattle.rules.specs.Free.{Free}
use Rattle.rules.specs.Answers.{Phase}
use Rattle.rules.proofs.Ranges.{in_range-tested}
use Rattle.rules.proofs.memory.Cases.{from_or}
use Rattle.rules.proofs.invariant.Stages.{stage_is}
use Rattle.rules.proofs.invariant.Sim.{Sim}
use Rattle.rules.proofs.relation.Stepped.{Stepped}
use Rattle.rules.proofs.phases.Handshakes.{rest-stepped, handshake-stepped}
use Rattle.rules.proofs.phases.RootFlip.{root_flip-stepped}
use Rattle.rules.proofs.phases.StackFlip.{stack_flip-stepped}
use Rattle.rules.proofs.phases.Reclaim.{reclaim-stepped}
use Rattle.rules.proofs.marking.RootMark.{root_mark-stepped}
use Rattle.rules.proofs.marking.HeapMark.{heap_mark-stepped}
use Rattle.rules.proofs.fields.Copying.{copy-stepped}
use Rattle.rules.proofs.allocation.AllocateShells.{allocate_shells-stepped}

module _ {K : ℕ → Type 0} {m : ℕ → ℕ} {s : Store} {f : Free} (h : Sim K m s f) where
  abbrev Unit-of : ℕ → Type 0
  Unit-of ph = Stepped K m s f (get_or units ph handshake s)

  -- by the number of the phase
  each_unit : (ph : ℕ) → s.phase ≡ ph → ph ≤ last_phase → Unit-of ph
  each_unit ph p l =
      from_or ph at_rest zero-le (λ e. rw e (rest-stepped h (stage_is (p ∙ e))))
      (λ l1. from_or ph at_pre_mark1 l1 (λ e. rw e (handshake-stepped h (omega (arith, stage_is (p ∙ e)))))
      (λ l2. from_or ph at_pre_mark2 l2 (λ e. rw e (handshake-stepped h (omega (arith, stage_is (p ∙ e)))))
      (λ l3. from_or ph at_root_mark l3 (λ e. rw e (root_mark-stepped h (stage_is (p ∙ e))))
      (λ l4. from_or ph at_heap_mark l4 (λ e. rw e (heap_mark-stepped h (stage_is (p ∙ e))))
      (λ l5. from_or ph at_allocate l5 (λ e. rw e (allocate_shells-stepped h (stage_is (p ∙ e))))
      (λ l6. from_or ph at_pre_copy l6 (λ e. rw e (handshake-stepped h (omega (arith, stage_is (p ∙ e)))))
      (λ l7. from_or ph at_copy l7 (λ e. rw e (copy-stepped h (stage_is (p ∙ e))))
      (λ l8. from_or ph at_pre_flip1 l8 (λ e. rw e (handshake-stepped h (omega (arith, stage_is (p ∙ e)))))
      (λ l9. from_or ph at_pre_flip2 l9 (λ e. rw e (handshake-stepped h (omega (arith, stage_is (p ∙ e)))))
      (λ l10. from_or ph at_root_flip l10 (λ e. rw e (root_flip-stepped h (stage_is (p ∙ e))))
      (λ l11. from_or ph at_stack_flip l11 (λ e. rw e (stack_flip-stepped h (stage_is (p ∙ e))))
      (λ l12. from_or ph at_reclaim l12 (λ e. rw e (reclaim-stepped h (stage_is (p ∙ e))))
      (λ l13. absurd (omega arith))))))))))))))

  pub unit_stepped : Stepped K m s f (get_or units s.phase handshake s)
  unit_stepped = each_unit s.phase refl h.range.phases

  -- the step answers the phase after it
  pub step-passed : step s ≡ answered unit_stepped.after (Phase unit_stepped.after.phase)
  unfolding step
  step-passed = rw (in_range-tested h.range, unit_stepped.passes)
