-- All registers of a session forwarded one after another.
use Prim.Native.Nat.{ℕ, suc, ◌+◌, ◌<◌}
use mathlib.Core.Path.{◌≡◌, sym, ap, refl}
use mathlib.Core.List.{List, [], ◌∷◌, ◌++◌, append_assoc}
use native.Mathlib.Omega.{arith}
use native.Mathlib.Numerals.{add-one}
use lib.ListN.{length, take, drop, set, get_or}
use lib.Seq.{drop-cons, take-suc-set}
use Rattle.std.proofs.lemmas.List.{drop-set-lt}
use Rattle.rules.specs.Refusals.{Tested, refused, passed, ◌>>=◌}
use Rattle.rules.specs.Memory.{Memory, forward}
use Rattle.rules.specs.Collector.{forward_all}

grouped : (t : Tested (List ℕ)) (a : List ℕ) (w : ℕ)
    → ((t >>= λ (ws : List ℕ). passed (w ∷ ws)) >>= λ (rest : List ℕ). passed (a ++ rest)) ≡ (t >>= λ (ws : List ℕ). passed ((a ++ (w ∷ [])) ++ ws))
grouped (refused n) a w = refl
grouped (passed ws) a w = ap passed (sym (append_assoc a (w ∷ []) ws))

module _ (M : Memory) (h : ℕ) where
  -- the first i registers are forwarded, and the others remain to be
  abbrev pub rest_of : List ℕ → ℕ → Tested (List ℕ)
  rest_of ws i = forward_all M h (drop i ws) >>= λ (rest : List ℕ). passed (take i ws ++ rest)

  module _ (ws : List ℕ) (i : ℕ) (l : i < length ws) where
    pub all_lost : {n : ℕ} → forward M h (get_or ws i 0) ≡ refused n → rest_of ws i ≡ refused n
    all_lost f = rw (drop-cons ws i 0 l) (simp f)

    pub all_more : (w : ℕ) → forward M h (get_or ws i 0) ≡ passed w → rest_of ws i ≡ rest_of (set ws i w) (i + 1)
    all_more w f =
        let d : drop (i + 1) (set ws i w) ≡ drop (suc i) ws = rw add-one (drop-set-lt (suc i) ws i w (omega arith)) in
        let q : take (i + 1) (set ws i w) ≡ take i ws ++ (w ∷ []) = rw add-one (take-suc-set ws i w l) in
        rw (d, q, drop-cons ws i 0 l, f) (grouped (forward_all M h (drop (suc i) ws)) (take i ws) w)
