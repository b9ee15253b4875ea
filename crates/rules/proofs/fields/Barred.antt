-- Levels 0 to 3: what the level shades is shaded, the overwritten reference before the stored one, and then they name no white record in the
-- phases where that counts.
use Prim.Native.Nat.{ℕ, zero, suc, ◌≤◌, ◌<◌}
use mathlib.Core.Path.{◌≡◌, refl}
use mathlib.Core.Logic.{◌≢◌, ◌⊎◌}
use mathlib.Core.Bool.{Bool, true, false, cond}
use mathlib.Core.List.{List, [], ◌∷◌}
use native.Mathlib.Omega.{arith}
use lib.ListN.{get_or, length}
use Rattle.rules.specs.Refusals.{passed}
use Rattle.rules.specs.Memory.{null}
use Rattle.rules.specs.Control.{Store}
use Rattle.rules.specs.Cycle.{stage}
use Rattle.rules.specs.Barriers.{heap_of, shades_at, shades_old_at, barrier_shades, shade, shade_all, shade_both}
use Rattle.rules.specs.Free.{Free}
use Rattle.rules.specs.declared.Session.{Session}
use Rattle.rules.specs.declared.Writes.{Writes}
use Rattle.rules.proofs.memory.Cases.{lt_or, either}
use Rattle.rules.proofs.invariant.Stages.{st_pre_mark1, st_heap_mark, st_pre_copy, st_stack_flip, st_reclaim}
use Rattle.rules.proofs.invariant.Words.{Ok, ok_null, Names, Clean}
use Rattle.rules.proofs.invariant.Groups.{NoFlip}
use Rattle.rules.proofs.invariant.Sim.{Sim}
use Rattle.rules.proofs.invariant.Alive.{alive}
use Rattle.rules.proofs.invariant.Spans.{Allowed, level_from, level_to, level_low, level_marking}
use Rattle.rules.proofs.sessions.Session.{WordFits}
use Rattle.rules.proofs.marking.Shading.{ShadeKeeps, keeps_none}
use Rattle.rules.proofs.marking.ShadeAll.{ShadedAll, shading_all_clean, shading_all_marks}
use Rattle.rules.proofs.fields.Barrier.{shades_low, shades_old}

-- a store or a put of q over old shades `them`, at most two; then q is clean, and in HeapMark old is
pub record Barred (K : ℕ → Type 0) (m : ℕ → ℕ) (s : Store) (f : Free) (l old q : ℕ) : Type 0 where
  pub them : List ℕ
  pub passes : barrier_shades (heap_of s) l old q ≡ passed them
  pub few : length them ≤ 2
  pub sim : Sim K m (shade_all s them) f
  pub keeps : ShadeKeeps s (shade_all s them)
  pub clean : st_pre_mark1 < stage s.phase → stage s.phase ≤ st_stack_flip → Clean (shade_all s them).memory s.current q
  pub over : stage s.phase ≡ st_heap_mark → Clean (shade_all s them).memory s.current old

-- what is written as two records to shade is shaded as a list
pub both_shaded : (s : Store) (w : Writes) (vs : List ℕ) → length vs ≤ 2 → w.first ≡ get_or vs 0 null → w.second ≡ get_or vs 1 null
    → shade_both s w ≡ shade_all s vs
unfolding shade_both shade
both_shaded s w [] l a b = rw (a, b)
both_shaded s w (u ∷ []) l a b = rw (a, b)
both_shaded s w (u ∷ v ∷ []) l a b = rw (a, b)
both_shaded s w (u ∷ v ∷ x ∷ vs) l a b = absurd (omega arith)

module _ {K : ℕ → Type 0} {m : ℕ → ℕ} {s : Store} {f : Free} (h : Sim K m s f) (l old q : ℕ) where
  -- the references that the levels 1 to 3 shade
  abbrev both : List ℕ
  both = cond (shades_old_at l) old null ∷ q ∷ []

  each : (P : ℕ → Type 0) → P null → P old → P q → (k : ℕ) → P (get_or both k null)
  each P n o r zero = pick (shades_old_at l)
    where
      pick : (b : Bool) → P (cond b old null)
      pick true = o
      pick false = n
  each P n o r (suc zero) = r
  each P n o r (suc (suc k)) = n

  -- level 0: nothing is black in its phases
  barred_none : l ≡ 0 → (stage s.phase ≤ st_pre_mark1) ⊎ (stage s.phase ≡ st_reclaim) → Barred K m s f l old q
  unfolding barrier_shades shades_at
  barred_none e st = record {
    them = [];
    passes = rw e;
    few = omega arith;
    sim = h;
    keeps = keeps_none h.filled;
    clean = λ lo hi. absurd (either st (λ z. omega arith) (λ z. omega arith));
    over = λ i. absurd (either st (λ z. omega arith) (λ z. omega arith));
  }

  barred_shaded : Allowed s.phase l → 1 ≤ l → l ≤ 3 → ShadedAll K m s f both → Barred K m s f l old q
  unfolding barrier_shades
  barred_shaded a lo hi w = record {
    them = w.them;
    passes = rw (shades_low l lo hi) w.passes;
    few = w.few;
    sim = w.sim;
    keeps = w.keeps;
    clean = λ y z. w.clean 1;
    over = λ e. rw (shades_old l (level_marking h.range.phases a e) hi) at (w.clean 0);
  }

  -- words that the session may hold, at its level
  pub barred : {x : Session} {p r : ℕ} → Allowed s.phase l → l ≤ 3 → WordFits K m s x old r → WordFits K m s x q p → Barred K m s f l old q
  barred {x} a b o t = lt_or l 1
      (λ z. barred_none (omega arith) (level_low 0 (omega arith) h.range.phases a (omega arith)))
      (λ z. let lo : st_pre_mark1 ≤ stage s.phase = level_from 1 (omega arith) h.range.phases a z in
      let hi : stage s.phase ≤ st_pre_copy = level_to 3 (omega arith) h.range.phases a z b in
      let early : NoFlip (stage s.phase) = omega arith in
      let ok = each (Ok s.memory) (ok_null refl) o.ok t.ok in
      let side = each (Names s.current) (λ n. absurd (n refl)) (o.names early) (t.names early) in
      barred_shaded a z b
      (lt_or st_heap_mark (stage s.phase)
      (λ y. shading_all_clean h ok side (each (Clean s.memory s.current) (λ n. absurd (n refl)) (o.clean y (omega arith)) (t.clean y (omega arith))))
      (λ y. shading_all_marks h ok side (omega arith) y
      (each (λ u. u ≢ null → K (m u)) (λ n. absurd (n refl)) (λ n. alive h o.ok n o.is o.kept) (λ n. alive h t.ok n t.is t.kept)))))
