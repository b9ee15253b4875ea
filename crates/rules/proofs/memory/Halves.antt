-- The halves and frontiers of a changed memory.
use Prim.Native.Nat.{ℕ, zero, suc, ◌<◌}
use mathlib.Core.Path.{◌≡◌, refl}
use mathlib.Core.Logic.{◌≢◌}
use mathlib.Core.Bool.{Bool, true, false, cond, not}
use mathlib.Core.List.{List}
use native.Mathlib.Omega.{arith}
use lib.Dec.{eqb}
use lib.ListN.{length}
use Rattle.rules.specs.Memory.{Memory, half, frontier, with_half, with_frontier}

-- what a choice by a test gives where the test, or its opposite, is known to be another
chosen : {A : Type 0} (b : Bool) (x y z : A) → cond b (cond b x y) (cond b z x) ≡ x
chosen true x y z = refl
chosen false x y z = refl

passed_over : {A : Type 0} (b : Bool) (x y z : A) → cond (not b) (cond b x y) (cond b z x) ≡ cond (not b) y z
passed_over true x y z = refl
passed_over false x y z = refl

-- of two halves one is half 0
tests_differ : (h g : ℕ) → h < 2 → g < 2 → g ≢ h → eqb g 0 ≡ not (eqb h 0)
tests_differ zero zero l l' d = absurd (d refl)
tests_differ zero (suc zero) l l' d = refl
tests_differ (suc zero) zero l l' d = refl
tests_differ (suc zero) (suc zero) l l' d = absurd (d refl)
tests_differ zero (suc (suc g)) l l' d = absurd (omega arith)
tests_differ (suc zero) (suc (suc g)) l l' d = absurd (omega arith)
tests_differ (suc (suc h)) g l l' d = absurd (omega arith)

pub half-same : (M : Memory) (h : ℕ) (ws : List ℕ) → half (with_half M h ws) h ≡ ws
unfolding half with_half
half-same M h ws = chosen (eqb h 0) ws M.half0 M.half1

pub half_other : (M : Memory) (h g : ℕ) (ws : List ℕ) → h < 2 → g < 2 → g ≢ h → half (with_half M h ws) g ≡ half M g
unfolding half with_half
half_other M h g ws l l' d = rw (tests_differ h g l l' d) (passed_over (eqb h 0) ws M.half0 M.half1)

pub frontier-half : (M : Memory) (h g : ℕ) (ws : List ℕ) → frontier (with_half M h ws) g ≡ frontier M g
unfolding frontier with_half
frontier-half M h g ws = refl

pub half-frontier : (M : Memory) (h f g : ℕ) → half (with_frontier M h f) g ≡ half M g
unfolding half with_frontier
half-frontier M h f g = refl

pub frontier-same : (M : Memory) (h f : ℕ) → frontier (with_frontier M h f) h ≡ f
unfolding frontier with_frontier
frontier-same M h f = chosen (eqb h 0) f M.frontier0 M.frontier1

pub frontier_other : (M : Memory) (h f g : ℕ) → h < 2 → g < 2 → g ≢ h → frontier (with_frontier M h f) g ≡ frontier M g
unfolding frontier with_frontier
frontier_other M h f g l l' d = rw (tests_differ h g l l' d) (passed_over (eqb h 0) f M.frontier0 M.frontier1)

-- ---- lengths

-- a half replaced by one of its length
length_chosen : (b c : Bool) (ws x y : List ℕ) → length ws ≡ length (cond b x y) → length (cond c (cond b ws x) (cond b y ws)) ≡ length (cond c x y)
length_chosen true true ws x y e = e
length_chosen true false ws x y e = refl
length_chosen false true ws x y e = refl
length_chosen false false ws x y e = e

pub length-half : (M : Memory) (h g : ℕ) (ws : List ℕ) → length ws ≡ length (half M h) → length (half (with_half M h ws) g) ≡ length (half M g)
unfolding half with_half
length-half M h g ws e = length_chosen (eqb h 0) (eqb g 0) ws M.half0 M.half1 e
