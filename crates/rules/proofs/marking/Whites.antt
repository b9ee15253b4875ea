-- The white records among references, each once: what to_shade_all gives.
use Prim.Native.Nat.{ℕ, zero, suc, ◌≤◌}
use mathlib.Core.Path.{◌≡◌, refl, sym}
use mathlib.Core.Logic.{◌≢◌}
use mathlib.Core.List.{List, [], ◌∷◌}
use native.Mathlib.Nat.{le_refl}
use native.Mathlib.Omega.{arith}
use lib.ListN.{get_or, length}
use borrow.Author.Tests.{eq-eqb, ne_eqb}
use Rattle.rules.specs.Refusals.{passed}
use Rattle.rules.specs.Memory.{Memory, null, white, colour}
use Rattle.rules.specs.Barriers.{without, to_shade_all}
use Rattle.rules.proofs.memory.Cases.{eq_or}
use Rattle.rules.proofs.invariant.Words.{In, Ok, Names, Clean}
use Rattle.rules.proofs.invariant.Laws.{in_half_lem, in_nonnull}
use Rattle.rules.proofs.invariant.Following.{Followable}
use Rattle.rules.proofs.marking.Shading.{to_shade-white, to_shade_clean}

-- what holds of every entry
pub data All (P : ℕ → Type 0) : List ℕ → Type 0 where
  all_none : All P []
  all_more : {v : ℕ} {vs : List ℕ} → P v → All P vs → All P (v ∷ vs)

-- different white records of half h, of each of which P holds
pub data Whites (M : Memory) (h : ℕ) (P : ℕ → Type 0) : List ℕ → Type 0 where
  no_whites : Whites M h P []
  one_white : {v : ℕ} {vs : List ℕ} → In M h v → colour M v ≡ white → P v → All (λ u. u ≢ v) vs → Whites M h P vs → Whites M h P (v ∷ vs)

-- ---- a list without v

pub without_all : {P : ℕ → Type 0} (v : ℕ) {ws : List ℕ} → All P ws → All P (without v ws)
without_all v all_none = all_none
without_all {P} v (all_more {v = w} {vs = ws} p q) = eq_or v w
    (λ e. rw (eq-eqb v w e) (without_all v q))
    (λ d. rw (ne_eqb v w d) (all_more p (without_all v q)))

-- v and what is left of the list make it up
without_back : {P : ℕ → Type 0} (v : ℕ) (ws : List ℕ) → P v → All P (without v ws) → All P ws
without_back v [] p = λ a. all_none
without_back {P} v (w ∷ ws) p = eq_or v w
    (λ e. rw (eq-eqb v w e) (λ a. all_more {v = w} (rw (← e) p) (without_back v ws p a)))
    (λ d. rw (ne_eqb v w d) (more (λ a. without_back v ws p a)))
  where
    more : (All P (without v ws) → All P ws) → All P (w ∷ without v ws) → All P (w ∷ ws)
    more k (all_more q a) = all_more q (k a)

without_shorter : (v : ℕ) (ws : List ℕ) → length (without v ws) ≤ length ws
without_shorter v [] = le_refl 0
without_shorter v (w ∷ ws) = eq_or v w
    (λ e. rw (eq-eqb v w e) (omega (arith, without_shorter v ws)))
    (λ d. rw (ne_eqb v w d) (omega (arith, without_shorter v ws)))

without-absent : (v : ℕ) (ws : List ℕ) → All (λ u. u ≢ v) (without v ws)
without-absent v [] = all_none
without-absent v (w ∷ ws) = eq_or v w
    (λ e. rw (eq-eqb v w e) (without-absent v ws))
    (λ d. rw (ne_eqb v w d) (all_more (λ e. d (sym e)) (without-absent v ws)))

without-whites : {M : Memory} {h : ℕ} {P : ℕ → Type 0} (v : ℕ) {ws : List ℕ} → Whites M h P ws → Whites M h P (without v ws)
without-whites v no_whites = no_whites
without-whites v (one_white {v = w} {vs = ws} t c p a q) = eq_or v w
    (λ e. rw (eq-eqb v w e) (without-whites v q))
    (λ d. rw (ne_eqb v w d) (one_white t c p (without_all v a) (without-whites v q)))

-- ---- what to_shade_all gives

-- `them`: once they are marked, every reference is clean
pub record Found (M : Memory) (h : ℕ) (P : ℕ → Type 0) (rs : List ℕ) : Type 0 where
  pub them : List ℕ
  pub passes : to_shade_all M rs ≡ passed them
  pub few : length them ≤ length rs
  pub whites : Whites M h P them
  pub clean : (M' : Memory) → ((u : ℕ) → Ok M u → Clean M h u → Clean M' h u) → All (λ u. colour M' u ≢ white) them
      → (k : ℕ) → Clean M' h (get_or rs k null)

module _ {M : Memory} {h : ℕ} {P : ℕ → Type 0} (follow : (v : ℕ) → In M h v → Followable M v) where
  -- a clean reference before others
  found_clean : {v : ℕ} {rs : List ℕ} → Ok M v → Names h v → Clean M h v → Found M h P rs → Found M h P (v ∷ rs)
  found_clean {v} {rs} ok side c q = record {
    them = q.them;
    passes = rw (to_shade_clean ok side (follow v) c, q.passes);
    few = omega (arith, q.few);
    whites = q.whites;
    clean = clean;
  }
    where
      clean : (M' : Memory) → ((u : ℕ) → Ok M u → Clean M h u → Clean M' h u) → All (λ u. colour M' u ≢ white) q.them
          → (k : ℕ) → Clean M' h (get_or (v ∷ rs) k null)
      clean M' still a zero = still v ok c
      clean M' still a (suc k) = q.clean M' still a k

  -- a white one
  found-white : {v : ℕ} {rs : List ℕ} → In M h v → colour M v ≡ white → P v → Found M h P rs → Found M h P (v ∷ rs)
  found-white {v} {rs} t c p q = record {
    them = v ∷ without v q.them;
    passes = rw (to_shade-white (follow v t) c, q.passes, ne_eqb v null (in_nonnull t));
    few = omega (arith, q.few, without_shorter v q.them);
    whites = one_white t c p (without-absent v q.them) (without-whites v q.whites);
    clean = clean;
  }
    where
      clean : (M' : Memory) → ((u : ℕ) → Ok M u → Clean M h u → Clean M' h u) → All (λ u. colour M' u ≢ white) (v ∷ without v q.them)
          → (k : ℕ) → Clean M' h (get_or (v ∷ rs) k null)
      clean M' still (all_more n a) zero = λ x y. n
      clean M' still (all_more n a) (suc k) = q.clean M' still (without_back v q.them n a) k

  pub found : (rs : List ℕ) → ((k : ℕ) → Ok M (get_or rs k null)) → ((k : ℕ) → Names h (get_or rs k null))
      → ((k : ℕ) → In M h (get_or rs k null) → colour M (get_or rs k null) ≡ white → P (get_or rs k null)) → Found M h P rs
  found [] ok side p = record { them = []; passes = refl; few = le_refl 0; whites = no_whites; clean = λ M' still a k n. absurd (n refl) }
  found (v ∷ rs) ok side p =
      let q = found rs (λ k. ok (suc k)) (λ k. side (suc k)) (λ k. p (suc k)) in
      eq_or v null
      (λ e. found_clean (ok 0) (side 0) (λ n. absurd (n e)) q)
      (λ n. eq_or (colour M v) white
      (λ c. let t = in_half_lem (ok 0) n (side 0) in found-white t c (p 0 t c) q)
      (λ c. found_clean (ok 0) (side 0) (λ a b. c) q))

-- where none is white there are none
pub no_white : {M : Memory} {h : ℕ} {vs : List ℕ} → Whites M h (λ v. ⊥) vs → vs ≡ []
no_white no_whites = refl
no_white (one_white t c p a q) = absurd p
