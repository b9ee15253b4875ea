-- The white records among references, each once: what one reference more adds, and when none is left to add.
use Prim.Native.Nat.{ℕ, zero, suc, ◌+◌, ◌-◌, ◌≤◌, ◌<◌}
use mathlib.Core.Path.{◌≡◌, sym, refl, ap}
use mathlib.Core.Logic.{◌⊎◌, inl, inr}
use mathlib.Core.Bool.{Bool, true, false, cond, ◌||◌, or-false}
use mathlib.Core.List.{List, [], ◌∷◌, ◌++◌, append_assoc, append-nil}
use native.Mathlib.Omega.{arith}
use native.Mathlib.Nat.{add-zero}
use native.Mathlib.Numerals.{add-one}
use lib.Dec.{eqb}
use lib.ListN.{length, take, drop, get_or, length-append}
use lib.Seq.{take-suc, take_all}
use Rattle.std.proofs.lemmas.List.{take-append-drop}
use Rattle.std.proofs.lemmas.List.Folds.{list_any-append}
use borrow.Author.Tests.{eqb-true, eq-eqb, ne_eqb}
use Rattle.rules.specs.Memory.{Memory, colour, white}
use Rattle.rules.specs.Barriers.{without}
use Rattle.rules.proofs.memory.Cases.{bool_or, either}
use Rattle.heap.specs.View.{if_white}
use Rattle.store.specs.Marking.{among, whites_among}

-- ---- words, one more at their end

pub among-more : (v w : ℕ) (xs : List ℕ) → among v (xs ++ (w ∷ [])) ≡ (among v xs || eqb w v)
among-more v w xs = rw (list_any-append, or-false)

without_more : (w u : ℕ) (xs : List ℕ) → without w (xs ++ (u ∷ [])) ≡ cond (eqb w u) (without w xs) (without w xs ++ (u ∷ []))
without_more w u [] = refl
without_more w u (x ∷ xs) = bool_or (eqb w x)
    (λ t. rw t (without_more w u xs))
    (λ f. bool_or (eqb w u) (λ a. rw (f, without_more w u xs, a)) (λ a. rw (f, without_more w u xs, a)))

-- taking out another word leaves v among them
among-without : (v w : ℕ) (xs : List ℕ) → eqb w v ≡ false → among v (without w xs) ≡ among v xs
among-without v w [] d = refl
among-without v w (x ∷ xs) d = bool_or (eqb w x)
    (λ t. let e : eqb x v ≡ false = rw (eqb-true w x t) at d in rw (t, e) (among-without v w xs d))
    (λ f. rw f (ap (λ (b : Bool). eqb x v || b) (among-without v w xs d)))

-- ---- one reference more

-- the records found, and w behind them where it is a new one
abbrev pub added : ℕ → List ℕ → List ℕ
added w ws = cond (eqb w 0 || among w ws) ws (ws ++ (w ∷ []))

pub one_counted : (b : Bool) (w : ℕ) (ws : List ℕ) → length (cond b ws (ws ++ (w ∷ []))) ≡ length ws + cond b 0 1
one_counted true w ws = sym (add-zero (length ws))
one_counted false w ws = length-append ws (w ∷ [])

-- a record found before all others makes no difference to what is added behind them
abbrev Behind : ℕ → ℕ → List ℕ → Type 0
Behind y w ws = cond (eqb y 0) (added w ws) (y ∷ without y (added w ws)) ≡ added w (cond (eqb y 0) ws (y ∷ without y ws))

added_behind : (y w : ℕ) (ws : List ℕ) → Behind y w ws
added_behind y w ws = bool_or (eqb y 0) (λ a. rw a) (λ a. bool_or (eqb w 0) (λ b. rw (a, b)) (λ b. bool_or (eqb y w) (same a b) (other a b)))
  where
    same : eqb y 0 ≡ false → eqb w 0 ≡ false → eqb y w ≡ true → Behind y w ws
    same a b d = bool_or (among w ws) (λ e. rw (a, b, d, e)) (λ e. rw (a, b, d, e, without_more y w ws, d))

    other : eqb y 0 ≡ false → eqb w 0 ≡ false → eqb y w ≡ false → Behind y w ws
    other a b d =
        bool_or (among w ws) (λ e. rw (a, b, d, among-without w y ws d, e)) (λ e. rw (a, b, d, among-without w y ws d, e, without_more y w ws, d))

one_more : (M : Memory) (vs : List ℕ) (v : ℕ) → whites_among M (vs ++ (v ∷ [])) ≡ added (if_white M v) (whites_among M vs)
one_more M [] v = rw or-false
one_more M (x ∷ vs) v = rw (one_more M vs v) (added_behind (if_white M x) (if_white M v) (whites_among M vs))

-- more references give no fewer
fewer : (M : Memory) (vs ws : List ℕ) → length (whites_among M vs) ≤ length (whites_among M (vs ++ ws))
fewer M vs [] = rw append-nil (omega arith)
fewer M vs (w ∷ ws) =
    let one : length (whites_among M vs) ≤ length (whites_among M (vs ++ (w ∷ []))) = rw (one_more, one_counted) (omega arith) in
    let rest = rw append_assoc at (fewer M (vs ++ (w ∷ [])) ws) in
    omega arith

-- a white record is among those found exactly where its reference is among the references
module _ (M : Memory) (v : ℕ) (n : v ≡ 0 → ⊥) (c : colour M v ≡ white) where
  white-next : (x : ℕ) (vs : List ℕ) → among v (whites_among M vs) ≡ among v vs → among v (whites_among M (x ∷ vs)) ≡ among v (x ∷ vs)
  white-next x vs e = bool_or (eqb x v) same other
    where
      same : eqb x v ≡ true → among v (whites_among M (x ∷ vs)) ≡ among v (x ∷ vs)
      same t = rw (eqb-true x v t, c, ne_eqb v 0 n, eq-eqb v v refl)

      other : eqb x v ≡ false → among v (whites_among M (x ∷ vs)) ≡ among v (x ∷ vs)
      other f = bool_or (eqb (colour M x) 0)
          (λ t. bool_or (eqb x 0) (λ z. rw (t, z, f) e) (λ z. rw (t, z, f, among-without v x (whites_among M vs) f) e))
          (λ t. rw (t, f) e)

  pub white-among : (vs : List ℕ) → among v (whites_among M vs) ≡ among v vs
  white-among [] = refl
  white-among (x ∷ vs) = white-next x vs (white-among vs)

module _ (M : Memory) (vs : List ℕ) where
  -- those among the first i references
  abbrev pub up_to : ℕ → List ℕ
  up_to i = whites_among M (take i vs)

  pub up_to-next : (i : ℕ) → i < length vs → up_to (i + 1) ≡ added (if_white M (get_or vs i 0)) (up_to i)
  up_to-next i h = rw (add-one i, take-suc vs i 0 h) (one_more M (take i vs) (get_or vs i 0))

  pub up_to-few : (i : ℕ) → length (up_to i) ≤ length (whites_among M vs)
  up_to-few i = rw take-append-drop at (fewer M (take i vs) (drop i vs))

  pub up_to-all : (i : ℕ) → length vs ≤ i → up_to i ≡ whites_among M vs
  up_to-all i h = ap (whites_among M) (take_all i vs h)

  -- the first i references give all of them, or fewer
  abbrev AllOrFewer : ℕ → Type 0
  AllOrFewer i = (up_to i ≡ whites_among M vs) ⊎ (length (up_to i) < length (whites_among M vs))

  -- register i adds nothing
  abbrev nothing : ℕ → Bool
  nothing i = eqb (if_white M (get_or vs i 0)) 0 || among (if_white M (get_or vs i 0)) (up_to i)

  one_fewer : (i : ℕ) → i < length vs → AllOrFewer (i + 1) → AllOrFewer i
  one_fewer i h o = bool_or (nothing i) known new
    where
      known : nothing i ≡ true → AllOrFewer i
      known t = let d : up_to (i + 1) ≡ up_to i = rw t at (up_to-next i h) in rw d at o

      new : nothing i ≡ false → AllOrFewer i
      new f =
          let m : length (up_to (i + 1)) ≡ length (up_to i) + 1 = rw (up_to-next i h, f) (length-append (up_to i) (if_white M (get_or vs i 0) ∷ [])) in
          either o (λ a. let l = ap length a in inr (omega arith)) (λ l. inr (omega arith))

  all_or_fewer : (k i : ℕ) → i + k ≡ length vs → AllOrFewer i
  all_or_fewer zero i e = inl (up_to-all i (omega arith))
  all_or_fewer (suc k) i e = one_fewer i (omega arith) (all_or_fewer k (i + 1) (omega arith))

  -- where the first i references give as many, they give all
  pub none_left : (i : ℕ) → i ≤ length vs → length (whites_among M vs) ≤ length (up_to i) → up_to i ≡ whites_among M vs
  none_left i h l = either (all_or_fewer (length vs - i) i (omega arith)) (λ a. a) (λ b. absurd (omega arith))
