-- Stages: the place of each phase in a collection, by the phase's name. The stage tells the phase, and the next phase has the next stage.
use Prim.Native.Nat.{ℕ, zero, suc, ◌≤◌, ◌<◌}
use mathlib.Core.Path.{◌≡◌}
use mathlib.Core.Bool.{Bool, true, false, ◌&&◌, ◌||◌, not, false≢true}
use native.Mathlib.Omega.{arith}
use native.Mathlib.Nat.{not-suc-le-zero}
use lib.Dec.{T, leb, ltb, eqb, leb→le, eqb→eq}
use lib.ListN.{get_or}
use borrow.Author.Tests.{lt-ltb, eq-eqb}
use Rattle.rules.specs.Control.{Store}
use Rattle.rules.specs.Cycle.{stage, stages, next_phase, last_phase, phase_count, at_rest, at_pre_mark1, at_pre_mark2, at_root_mark, at_heap_mark, at_allocate, at_pre_copy, at_copy, at_pre_flip1, at_pre_flip2, at_root_flip, at_stack_flip, at_reclaim}
use Rattle.rules.proofs.Ranges.{InRange}
use Rattle.rules.proofs.memory.Cases.{lt_or}

-- ---- the stage of each phase

-- of a phase whose number is given: it computes, where `stage` of a store's phase is one number for omega
abbrev pub stage_of : ℕ → ℕ
stage_of ph = get_or stages ph 0

abbrev pub st_rest : ℕ
st_rest = stage_of at_rest

abbrev pub st_pre_mark1 : ℕ
st_pre_mark1 = stage_of at_pre_mark1

abbrev pub st_pre_mark2 : ℕ
st_pre_mark2 = stage_of at_pre_mark2

abbrev pub st_root_mark : ℕ
st_root_mark = stage_of at_root_mark

abbrev pub st_heap_mark : ℕ
st_heap_mark = stage_of at_heap_mark

abbrev pub st_allocate : ℕ
st_allocate = stage_of at_allocate

abbrev pub st_pre_copy : ℕ
st_pre_copy = stage_of at_pre_copy

abbrev pub st_copy : ℕ
st_copy = stage_of at_copy

abbrev pub st_pre_flip1 : ℕ
st_pre_flip1 = stage_of at_pre_flip1

abbrev pub st_pre_flip2 : ℕ
st_pre_flip2 = stage_of at_pre_flip2

abbrev pub st_root_flip : ℕ
st_root_flip = stage_of at_root_flip

abbrev pub st_stack_flip : ℕ
st_stack_flip = stage_of at_stack_flip

abbrev pub st_reclaim : ℕ
st_reclaim = stage_of at_reclaim

-- ---- tests over all numbers below a bound

abbrev pub up_to : ℕ → (ℕ → Bool) → Bool
up_to zero f = true
up_to (suc n) f = f n && up_to n f

both_true : (a b : Bool) → T (a && b) → T a × T b
both_true true b t = (tt, t)
both_true false b t = absurd t

pub at_each : (n : ℕ) (f : ℕ → Bool) → T (up_to n f) → (k : ℕ) → k < n → T (f k)
at_each zero f t k l = absurd (not-suc-le-zero l)
at_each (suc n) f t k l =
    let q = both_true (f n) (up_to n f) t in
    lt_or k n (λ g. at_each n f q.1 k g) (λ g. let e : k ≡ n = omega arith in rw e q.0)

-- a test that is asked only where another holds
pub given : (a b : Bool) → a ≡ true → T (not a || b) → T b
given true b e t = t
given false b e t = absurd (false≢true e)

-- ---- what the tables say

-- Reclaim is the last
pub stage-most : (ph : ℕ) → ph ≤ last_phase → stage ph ≤ st_reclaim
unfolding stage
stage-most ph l = leb→le _ _ (at_each phase_count (λ i. leb (stage i) st_reclaim) tt ph (omega arith))

-- the next phase has the next stage, but after the last
pub stage-next : (ph : ℕ) → ph ≤ last_phase → stage ph < st_reclaim → stage (next_phase ph) ≡ suc (stage ph)
unfolding stage next_phase
stage-next ph l b = eqb→eq _ _ (given (ltb (stage ph) st_reclaim) _ (lt-ltb (stage ph) st_reclaim b)
    (at_each phase_count (λ i. not (ltb (stage i) st_reclaim) || eqb (stage (next_phase i)) (suc (stage i))) tt ph (omega arith)))

pub stage-first : (ph : ℕ) → ph ≤ last_phase → stage ph ≡ st_reclaim → stage (next_phase ph) ≡ st_rest
unfolding stage next_phase
stage-first ph l e = eqb→eq _ _ (given (eqb (stage ph) st_reclaim) _ (eq-eqb (stage ph) st_reclaim e)
    (at_each phase_count (λ i. not (eqb (stage i) st_reclaim) || eqb (stage (next_phase i)) st_rest) tt ph (omega arith)))

-- a phase has its stage
pub stage_is : {ph p : ℕ} → ph ≡ p → stage ph ≡ stage_of p
unfolding stage
stage_is e = rw e

-- and the stage tells the phase
pub phase-is : {ph : ℕ} (p : ℕ) → ph ≤ last_phase → p ≤ last_phase → stage ph ≡ stage_of p → ph ≡ p
unfolding stage
phase-is {ph} p a b e =
    let t = at_each phase_count (λ i. up_to phase_count (λ j. not (eqb (stage_of i) (stage_of j)) || eqb i j)) tt ph (omega arith) in
    eqb→eq _ _ (given (eqb (stage ph) (stage_of p)) _ (eq-eqb (stage ph) (stage_of p) e)
    (at_each phase_count (λ j. not (eqb (stage_of ph) (stage_of j)) || eqb ph j) t p (omega arith)))

-- of a store in range
pub in_stage : {s : Store} → InRange s → stage s.phase ≤ st_reclaim
in_stage {s} k = stage-most s.phase k.phases
