-- Claim 7: a collection's steps in HeapMark are at most the used words of the current half plus 17, at every moment of a run. So among
-- any calls that hold more collector steps than a half's length plus 17 there is a moment at which the phase is another.
use Prim.Native.Nat.{ℕ, suc, ◌+◌, ◌≤◌, zero-le}
use mathlib.Core.Path.{◌≡◌, refl, sym, ap, ◌∙◌}
use mathlib.Core.Logic.{◌≢◌, ◌⊎◌, inl, inr}
use mathlib.Core.Bool.{Bool, true, false, cond}
use mathlib.Core.List.{List, [], ◌∷◌, ◌++◌}
use native.Mathlib.Omega.{arith}
use lib.Dec.{eqb}
use lib.ListN.{length, take}
use Rattle.rules.specs.Memory.{Memory, frontier}
use Rattle.rules.specs.Control.{Store}
use Rattle.rules.specs.Cycle.{at_rest, at_heap_mark, at_reclaim}
use Rattle.rules.specs.Runs.{Call, apply, after, is_step, steps, spent_by, spent}
use Rattle.rules.specs.Tracking.{new_beside, beside, records_of}
use Rattle.rules.specs.Claims.{Made, MarkingEnds, steps_on, MarkingSteps, MarkingIsOver}
use Rattle.rules.proofs.memory.Cases.{eq_or, either}
use Rattle.rules.proofs.memory.Listing.{sum_over, listing_sum}
use Rattle.rules.proofs.invariant.Stages.{phase-is}
use Rattle.rules.proofs.invariant.Words.{work}
use Rattle.rules.proofs.invariant.Laws.{cur_two}
use Rattle.rules.proofs.invariant.Range.{frontier_range}
use Rattle.rules.proofs.invariant.Spent.{spent-zero, spent_work, spent_bound}
use Rattle.rules.proofs.relation.Rules.{call_stays}
use Rattle.rules.proofs.runs.Runs.{run-spent, beside-store, after_more}
use Rattle.rules.proofs.runs.Claims.{start_holds, holds}

pub marking_ends : MarkingEnds
unfolding MarkingEnds
marking_ends s made cs = rw (← beside-store (new_beside s) cs)
    (spent_bound (holds s made cs) (spent 0 s cs) (run-spent (new_beside s) (start_holds s made) cs 0 (spent-zero s)))

-- ---- the sharper form

steps_on_lem : (M : Memory) (vs : List ℕ) → sum_over (work M) vs ≡ steps_on M vs
unfolding sum_over
steps_on_lem M [] = refl
steps_on_lem M (v ∷ vs) = rw (steps_on_lem M vs)

pub marking_steps : MarkingSteps
unfolding MarkingSteps
marking_steps s made cs a b =
    let e = beside-store (new_beside s) cs in
    let t = (beside (new_beside s) cs).store in
    let h = holds s made cs in
    let z : (after s cs).phase ≡ t.phase = ap (λ x. x.phase) (sym e) in
    let w = spent_work h (spent 0 s cs) (run-spent (new_beside s) (start_holds s made) cs 0 (spent-zero s))
    (λ q. a (z ∙ phase-is at_rest h.range.phases (omega arith) q)) (λ q. b (z ∙ phase-is at_reclaim h.range.phases (omega arith) q)) in
    rw (← e) (rw (← listing_sum h.filled (cur_two h) (work t.memory), steps_on_lem t.memory (records_of t.memory t.current)) at w)

-- ---- calls after calls

spent-more : (n : ℕ) (s : Store) (cs ds : List Call) → spent n s (cs ++ ds) ≡ spent (spent n s cs) (after s cs) ds
spent-more n s [] ds = refl
spent-more n s (c ∷ cs) ds = spent-more (spent_by n s c) (apply s c).store cs ds

-- ---- from the bound to the end

-- a moment of the calls ds from s on at which the phase isn't HeapMark
abbrev Over : Store → List Call → Type 0
Over s ds = (n : ℕ) × (n ≤ length ds) × ((after s (take n ds)).phase ≢ at_heap_mark)

-- in HeapMark each step counts
counted : (n : ℕ) (s : Store) (c : Call) (k : ℕ) → s.phase ≡ at_heap_mark → spent_by n s c + k ≡ n + cond (is_step c) (suc k) k
counted n s c k e = pick (is_step c)
  where
    pick : (b : Bool) → ◌≡◌ {A = ℕ} (cond b (cond (eqb s.phase at_rest) 0 (cond (eqb s.phase at_heap_mark) (suc n) n)) n + k) (n + cond b (suc k) k)
    pick true = rw e (omega arith)
    pick false = refl

over_or : (n : ℕ) (s : Store) (ds : List Call) → Over s ds ⊎ (spent n s ds ≡ n + steps ds)
over_or n s [] = inr (omega arith)
over_or n s (c ∷ ds) = eq_or s.phase at_heap_mark
    (λ e. either (over_or (spent_by n s c) (apply s c).store ds)
    (λ o. inl (suc o.0, omega (arith, o.1), o.2))
    (λ q. inr (q ∙ counted n s c (steps ds) e)))
    (λ d. inl (0, zero-le, d))

run-lengths : (s : Store) (cs : List Call) → (after s cs).lengths ≡ s.lengths
run-lengths s [] = refl
run-lengths s (c ∷ cs) = run-lengths (apply s c).store cs ∙ (call_stays s c).lengths

-- the used words are no more than a half has, and that stays
used-most : (s : Store) → Made s → (cs ds : List Call)
    → frontier (after (after s cs) ds).memory (after (after s cs) ds).current ≤ (after s cs).lengths.half0
used-most s made cs ds =
    let t = after (after s cs) ds in
    let e : (beside (new_beside s) (cs ++ ds)).store ≡ t = beside-store (new_beside s) (cs ++ ds) ∙ after_more s cs ds in
    rw (← ap (λ n. n.half0) (run-lengths (after s cs) ds)) (frontier_range (rw e at (holds s made (cs ++ ds)).range) t.current)

pub marking_is-over : MarkingIsOver
unfolding MarkingIsOver MarkingEnds
marking_is-over s made cs ds more = either (over_or (spent 0 s cs) (after s cs) ds) (λ o. o)
    (λ q. absurd (omega (arith, rw (spent-more 0 s cs ds, after_more s cs ds) at (marking_ends s made (cs ++ ds)), used-most s made cs ds)))
