-- The first pass: each register tested, and the different white records counted by a look at the earlier registers.
use Prim.Native.Nat.{ℕ, zero, suc, ◌+◌, ◌<◌}
use mathlib.Core.Path.{◌≡◌, ◌∙◌, sym, refl, ap}
use mathlib.Core.Bool.{Bool, true, false, not, cond, ◌||◌}
use mathlib.Core.List.{List, [], ◌∷◌, ◌++◌}
use native.Mathlib.Nat.{le_of_suc-le-suc, not-suc-le-zero}
use native.Mathlib.Numerals.{add-one}
use lib.Dec.{eqb}
use lib.ListN.{length, take, drop, get_or}
use lib.Seq.{drop-cons}
use borrow.Author.Tests.{eqb-false}
use Rattle.rules.specs.Refusals.{Tested, refused, passed, ◌>>=◌}
use Rattle.rules.specs.Memory.{Memory, colour, sound}
use Rattle.rules.specs.Barriers.{to_shade, without, to_shade_all}
use Rattle.rules.proofs.memory.Cases.{bool_or}
use Rattle.heap.proofs.Passed.{same-passed}
use Rattle.heap.proofs.ToShade.{split, to_shade-white, white-named}
use Rattle.store.specs.Marking.{among, whites_among}
use Rattle.store.proofs.shading.Whites.{one_counted, white-among, up_to, up_to-next}

-- ---- references that pass: the white records among them; and each is null or sound

pub tested-whites : (M : Memory) (vs ws : List ℕ) → to_shade_all M vs ≡ passed ws → ws ≡ whites_among M vs
tested-whites M [] ws e = sym (same-passed e)
tested-whites M (v ∷ vs) ws e =
    let k = split M v vs ws e in
    sym k.joined ∙ rw ((to_shade-white M v k.one k.tested).0, tested-whites M vs k.others k.rest)

pub tested-sound : (M : Memory) (vs ws : List ℕ) → to_shade_all M vs ≡ passed ws → (j : ℕ) → j < length vs → (get_or vs j 0 ≡ 0 → ⊥) → sound M (get_or vs j 0) ≡ true
tested-sound M [] ws e j h = absurd (not-suc-le-zero h)
tested-sound M (v ∷ vs) ws e zero h = let k = split M v vs ws e in (to_shade-white M v k.one k.tested).1
tested-sound M (v ∷ vs) ws e (suc j) h = let k = split M v vs ws e in tested-sound M vs k.others k.rest j (le_of_suc-le-suc h)

-- ---- a turn of the pass: the references from i on are left to test

-- ws where the tests pass
abbrev pub yields : Tested (List ℕ) → List ℕ → Tested (List ℕ)
yields t ws = t >>= λ us. passed ws

yields_own : (t : Tested (List ℕ)) (ws : List ℕ) → ((us : List ℕ) → t ≡ passed us → us ≡ ws) → t ≡ yields t ws
yields_own (refused n) ws f = refl
yields_own (passed us) ws f = ap passed (f us refl)

yields_rest : (t : Tested (List ℕ)) (ws : List ℕ) (f : List ℕ → List ℕ) → yields (t >>= λ us. passed (f us)) ws ≡ yields t ws
yields_rest (refused n) ws f = refl
yields_rest (passed us) ws f = refl

module _ (M : Memory) (vs : List ℕ) where
  pub count_first : to_shade_all M vs ≡ yields (to_shade_all M vs) (whites_among M vs)
  count_first = yields_own (to_shade_all M vs) (whites_among M vs) (tested-whites M vs)

  module _ (i : ℕ) (ws : List ℕ) where
    pub count_on : {w : ℕ} → i < length vs → to_shade M (get_or vs i 0) ≡ passed w
        → yields (to_shade_all M (drop i vs)) ws ≡ yields (to_shade_all M (drop (i + 1) vs)) ws
    count_on {w} h e =
        rw (drop-cons vs i 0 h, e, add-one i) (yields_rest (to_shade_all M (drop (suc i) vs)) ws (λ us. cond (eqb w 0) us (w ∷ without w us)))

  one_more : (b : Bool) (w : ℕ) (ws : List ℕ) → length (cond b ws (ws ++ (w ∷ []))) ≡ length ws + cond (not b) 1 0
  one_more true w ws = one_counted true w ws
  one_more false w ws = one_counted false w ws

  -- a record is new among those found exactly where no earlier reference is equal
  module _ {w : ℕ} (i : ℕ) (h : i < length vs) (e : to_shade M (get_or vs i 0) ≡ passed w) where
    by_earlier : (eqb w 0 || among w (up_to M vs i)) ≡ (eqb w 0 || among w (take i vs))
    by_earlier = bool_or (eqb w 0)
        (λ t. rw t)
        (λ f.
        let q = (to_shade-white M (get_or vs i 0) w e).0 in
        let k = white-named M (get_or vs i 0) (λ z. eqb-false w 0 f (q ∙ z)) in
        let c : colour M w ≡ 0 = rw (q, k.0) k.1 in
        ap (λ (b : Bool). eqb w 0 || b) (white-among M w (eqb-false w 0 f) c (take i vs)))

    pub count-more : {b : Bool} → b ≡ not (eqb w 0 || among w (take i vs)) → length (up_to M vs (i + 1)) ≡ length (up_to M vs i) + cond b 1 0
    count-more c =
        rw (up_to-next M vs i h, ← (to_shade-white M (get_or vs i 0) w e).0, c, ← by_earlier)
        (one_more (eqb w 0 || among w (up_to M vs i)) w (up_to M vs i))
