-- Levels by phase: what the level of an attached session says of the phase's stage. Both are few, so tests over all of them show it.
use Prim.Native.Nat.{ℕ, suc, ◌≤◌, ◌<◌}
use mathlib.Core.Path.{◌≡◌}
use mathlib.Core.Logic.{◌⊎◌, inl, inr}
use mathlib.Core.Bool.{Bool, true, false, ◌||◌, not}
use mathlib.Core.List.{[], ◌∷◌}
use native.Mathlib.Omega.{arith}
use lib.Dec.{T, leb, eqb, leb→le, eqb→eq}
use lib.ListN.{get_or}
use borrow.Author.Tests.{le-leb}
use Rattle.rules.specs.Control.{last_level}
use Rattle.rules.specs.Cycle.{level_of, next_phase, stage, last_phase, phase_count}
use Rattle.rules.proofs.memory.Cases.{lt_or, either}
use Rattle.rules.proofs.invariant.Stages.{st_rest, st_pre_mark1, st_pre_mark2, st_heap_mark, st_allocate, st_pre_copy, st_pre_flip1, st_pre_flip2, st_reclaim, up_to, at_each, given}
use Rattle.rules.proofs.invariant.Groups.{level_before, NoFlip}

or_true : (a b : Bool) → T (a || b) → T a ⊎ T b
or_true true b t = inl t
or_true false b t = inr t

-- ---- the level of an attached session: the phase's, or that of the phase before

abbrev pub Allowed : ℕ → ℕ → Type 0
Allowed ph l = (l ≡ level_of ph) ⊎ (l ≡ level_before ph)

-- a test of phase and level that holds of both levels of every phase
each_allowed : (f : ℕ → ℕ → Bool) → T (up_to phase_count (λ ph. f ph (level_of ph))) → T (up_to phase_count (λ ph. f ph (level_before ph)))
    → (ph l : ℕ) → ph ≤ last_phase → Allowed ph l → T (f ph l)
each_allowed f t u ph l b (inl e) = rw e (at_each phase_count (λ ph. f ph (level_of ph)) t ph (omega arith))
each_allowed f t u ph l b (inr e) = rw e (at_each phase_count (λ ph. f ph (level_before ph)) u ph (omega arith))

pub level_most : (ph l : ℕ) → ph ≤ last_phase → Allowed ph l → l ≤ last_level
unfolding level_of level_before
level_most ph l b a = leb→le _ _ (each_allowed (λ ph l. leb l last_level) tt tt ph l b a)

-- the first stage of the levels from k on; the last of those from 1 to k, which come at no later one; level 0 comes in Reclaim again
abbrev first : ℕ → ℕ
first k = get_or (st_rest ∷ st_pre_mark1 ∷ st_pre_mark2 ∷ st_allocate ∷ st_pre_copy ∷ st_pre_flip1 ∷ st_pre_flip2 ∷ []) k 0

abbrev last : ℕ → ℕ
last k = get_or (st_pre_mark1 ∷ st_pre_mark2 ∷ st_allocate ∷ st_pre_copy ∷ st_pre_flip1 ∷ st_pre_flip2 ∷ st_reclaim ∷ []) k 0

module _ (k : ℕ) (small : k < suc last_level) {ph l : ℕ} (b : ph ≤ last_phase) (a : Allowed ph l) where
  pub level_from : k ≤ l → first k ≤ stage ph
  unfolding level_of level_before stage
  level_from g =
      let t = each_allowed (λ ph l. up_to (suc last_level) (λ k. not (leb k l) || leb (first k) (stage ph))) tt tt ph l b a in
      leb→le (first k) (stage ph) (given (leb k l) _ (le-leb k l g) (at_each (suc last_level) (λ k. not (leb k l) || leb (first k) (stage ph)) t k small))

  pub level_to : 1 ≤ l → l ≤ k → stage ph ≤ last k
  unfolding level_of level_before stage
  level_to g d =
      let t = each_allowed (λ ph l. up_to (suc last_level) (λ k. not (leb 1 l) || (not (leb l k) || leb (stage ph) (last k)))) tt tt ph l b a in
      leb→le (stage ph) (last k) (given (leb l k) _ (le-leb l k d)
      (given (leb 1 l) _ (le-leb 1 l g) (at_each (suc last_level) (λ k. not (leb 1 l) || (not (leb l k) || leb (stage ph) (last k))) t k small)))

  pub level_low : l ≤ k → (stage ph ≤ last k) ⊎ (stage ph ≡ st_reclaim)
  unfolding level_of level_before stage
  level_low d =
      let t = each_allowed (λ ph l. up_to (suc last_level) (λ k. not (leb l k) || (leb (stage ph) (last k) || eqb (stage ph) st_reclaim))) tt tt ph l b a in
      either (or_true (leb (stage ph) (last k)) (eqb (stage ph) st_reclaim)
      (given (leb l k) _ (le-leb l k d) (at_each (suc last_level) (λ k. not (leb l k) || (leb (stage ph) (last k) || eqb (stage ph) st_reclaim)) t k small)))
      (λ z. inl (leb→le (stage ph) (last k) z)) (λ z. inr (eqb→eq (stage ph) st_reclaim z))

-- at levels 0 to 4 every word names the current half
pub level_home : {ph l : ℕ} → ph ≤ last_phase → Allowed ph l → l ≤ 4 → NoFlip (stage ph)
level_home b a g = either (level_low 4 (omega arith) b a g) (λ z. omega arith) (λ z. omega arith)

-- of the levels 4 to 6, those of the flips, and that of Reclaim
pub level_late : {ph l : ℕ} → ph ≤ last_phase → Allowed ph l → 4 ≤ l → st_pre_flip2 ≤ stage ph → 5 ≤ l
level_late {ph} {l} b a g d = lt_or l 5 (λ z. absurd (omega (arith, level_to 4 (omega arith) b a (omega arith) (omega arith)))) (λ z. z)

pub level_last : {ph l : ℕ} → ph ≤ last_phase → Allowed ph l → 4 ≤ l → stage ph ≡ st_reclaim → l ≡ 6
level_last {ph} {l} b a g e = lt_or l 6
    (λ z. absurd (omega (arith, level_to 5 (omega arith) b a (omega arith) (omega arith))))
    (λ z. omega (arith, level_most ph l b a))

-- in HeapMark no session has a lower level than 2
pub level_marking : {ph l : ℕ} → ph ≤ last_phase → Allowed ph l → stage ph ≡ st_heap_mark → 2 ≤ l
level_marking {ph} {l} b a e = lt_or l 2
    (λ z. absurd (either (level_low 1 (omega arith) b a (omega arith)) (λ y. omega arith) (λ y. omega arith)))
    (λ z. z)

-- ---- moving on where all have the phase's level: it is the level before the next phase's
pub moves_on : (ph : ℕ) → ph ≤ last_phase → level_of ph ≡ level_before (next_phase ph)
unfolding level_of level_before next_phase
moves_on ph b = eqb→eq _ _ (at_each phase_count (λ ph. eqb (level_of ph) (level_before (next_phase ph))) tt ph (omega arith))
