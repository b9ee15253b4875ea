-- The second pass, on registers that were tested: a record is white at its turn exactly where it was white at first and no earlier
-- register named it. So what is shaded is what the first pass counted.
use Prim.Native.Nat.{ℕ, ◌+◌, ◌≤◌, ◌<◌}
use mathlib.Core.Path.{◌≡◌, ◌∙◌, sym, refl, ap}
use mathlib.Core.Bool.{Bool, true, false, cond, ◌||◌, or-true, or-false}
use mathlib.Core.List.{List, [], ◌∷◌, ◌++◌}
use native.Mathlib.Omega.{arith}
use lib.Dec.{eqb}
use lib.ListN.{length, get_or, length-append}
use borrow.Author.Tests.{eqb-true, eq-eqb, ne_eqb}
use Rattle.rules.specs.Memory.{Memory, colour, colour_at, grey}
use Rattle.rules.specs.Control.{Store}
use Rattle.rules.specs.Barriers.{shade, shade_all}
use Rattle.rules.proofs.memory.Cases.{bool_or, eq_or}
use Rattle.heap.specs.View.{memory, Inside, if_white}
use Rattle.heap.proofs.Placing.{inside_kept}
use Rattle.heap.proofs.ToShade.{null-white, white-named}
use Rattle.store.specs.Marking.{among, whites_among, ending}
use Rattle.store.proofs.collector.Numbers.{some}
use Rattle.store.proofs.shading.Shade.{shade-null, shade_record, shade-tail}
use Rattle.store.proofs.shading.Whites.{among-more, added, one_counted, up_to, up_to-next, up_to-few, none_left}
use Rattle.store.proofs.shading.Colours.{coloured}

-- ---- shading, one record more

shade-more : (s : Store) (vs : List ℕ) (w : ℕ) → shade_all s (vs ++ (w ∷ [])) ≡ shade (shade_all s vs) w
shade-more s [] w = refl
shade-more s (v ∷ vs) w = shade-more (shade s v) vs w

-- the records shaded, and w where it isn't null
abbrev more : ℕ → List ℕ → List ℕ
more w vs = cond (eqb w 0) vs (vs ++ (w ∷ []))

shade_added : (s : Store) (vs : List ℕ) (w : ℕ) → shade (shade_all s vs) w ≡ shade_all s (more w vs)
shade_added s vs w = bool_or (eqb w 0)
    (λ t. rw t (sym (shade-null (shade_all s vs) w (eqb-true w 0 t))))
    (λ f. rw f (sym (shade-more s vs w)))

-- ---- a register at its turn

-- M is the memory at first, N the one now, and vs were found before: what v adds to them is what is shaded now
abbrev AddsNow : Memory → Memory → ℕ → List ℕ → Type 0
AddsNow M N v vs = added (if_white M v) vs ≡ more (if_white N v) vs

adds_now : (M N : Memory) (v : ℕ) (vs : List ℕ) → ((v ≡ 0 → ⊥) → colour N v ≡ cond (among v vs) grey (colour M v)) → AddsNow M N v vs
adds_now M N v vs c = eq_or v 0 (λ z. rw (null-white M v z, null-white N v z)) (λ n. bool_or (among v vs) (earlier n) (first n))
  where
    earlier : (v ≡ 0 → ⊥) → among v vs ≡ true → AddsNow M N v vs
    earlier n t =
        let g : colour N v ≡ grey = c n ∙ rw t in
        bool_or (eqb (colour M v) 0) (λ a. rw (g, a, t, or-true)) (λ a. rw (g, a))

    first : (v ≡ 0 → ⊥) → among v vs ≡ false → AddsNow M N v vs
    first n f =
        let g : colour N v ≡ colour M v = c n ∙ rw f in
        bool_or (eqb (colour M v) 0) (λ a. rw (g, a, f, or-false)) (λ a. rw (g, a))

grey_either : (a b : Bool) (c : ℕ) → cond b grey (cond a grey c) ≡ cond (a || b) grey c
grey_either true true c = refl
grey_either true false c = refl
grey_either false b c = refl

-- the pass at register i: the halves a0 and a1 and the list a, which ended at tail, have become h0, h1 and l, which ends at end
pub record Turn (a0 a1 a h0 h1 l vs : List ℕ) (tail end i : ℕ) : Type 0 where
  pub shaded : (s : Store) → ending s h0 h1 l end ≡ shade_all (ending s a0 a1 a tail) (up_to (memory a0 a1 0 0) vs i)
  pub ended : end ≡ tail + length (up_to (memory a0 a1 0 0) vs i)
  pub colours : (v : ℕ) → 2 ≤ v → colour (memory h0 h1 0 0) v ≡ cond (among v (up_to (memory a0 a1 0 0) vs i)) grey (colour (memory a0 a1 0 0) v)

module _ {a0 a1 a h0 h1 l vs : List ℕ} {tail end i : ℕ} (k : Turn a0 a1 a h0 h1 l vs tail end i) where
  abbrev before : Memory
  before = memory a0 a1 0 0

  abbrev found : List ℕ
  found = up_to before vs i

  -- where as many were found as there are, all of them are shaded
  module _ (last : ℕ) (e : last ≡ tail + length (whites_among before vs)) where
    pub last_turn : i ≤ length vs → last ≤ end → (s : Store) → ending s h0 h1 l last ≡ shade_all (ending s a0 a1 a tail) (whites_among before vs)
    last_turn m o s =
        let d = none_left before vs i m (omega (arith, k.ended)) in
        let n = ap length d in
        let q : last ≡ end = omega (arith, k.ended) in
        rw (q, ← d) (k.shaded s)

  -- the register of this turn, by what its record's colour is now
  module _ {w : ℕ} (x0 : length h0 ≡ length a0) (x1 : length h1 ≡ length a1) (h : i < length vs) (t : (get_or vs i 0 ≡ 0 → ⊥) → Inside a0 a1 (get_or vs i 0) colour_at)
      (e : w ≡ if_white (memory h0 h1 0 0) (get_or vs i 0)) where
    pub turn_inside : (w ≡ 0 → ⊥) → Inside h0 h1 w colour_at
    turn_inside n =
        let v : w ≡ get_or vs i 0 = e ∙ (white-named (memory h0 h1 0 0) (get_or vs i 0) (λ z. n (e ∙ z))).0 in
        rw v (inside_kept a0 a1 h0 h1 (get_or vs i 0) colour_at x0 x1 (t (λ z. n (v ∙ z))))

    found-more : up_to before vs (i + 1) ≡ more w found
    found-more = up_to-next before vs i h
        ∙ rw e (adds_now before (memory h0 h1 0 0) (get_or vs i 0) found (λ n. k.colours (get_or vs i 0) (t n).named))

    -- a record that is shaded has room in the list, where all of them have
    pub turn-room : (w ≡ 0 → ⊥) → length l ≡ length a → tail + length (whites_among before vs) ≤ length a → end < length l
    turn-room n y o =
        let m : length (up_to before vs (i + 1)) ≡ length found + 1 = rw (found-more, ne_eqb w 0 n) (length-append found (w ∷ [])) in
        omega (arith, k.ended, up_to-few before vs (i + 1))

    module _ {g0 g1 g : List ℕ} {r : ℕ} (p : (s : Store) → ending s g0 g1 g r ≡ shade (ending s h0 h1 l end) w) where
      memory_now : memory g0 g1 0 0 ≡ (shade (ending some h0 h1 l end) w).memory
      memory_now = ap (λ (s : Store). s.memory) (p some)

      colours_more : (v : ℕ) → 2 ≤ v → colour (memory g0 g1 0 0) v ≡ cond (among v (more w found)) grey (colour before v)
      colours_more v n = eq_or w 0
          (λ z. rw (memory_now, ← shade-null (ending some h0 h1 l end) w z, eq-eqb w 0 z) (k.colours v n))
          (λ o. rw (memory_now, ← shade_record (ending some h0 h1 l end) w o refl refl, ne_eqb w 0 o, coloured h0 h1 w grey (turn_inside o) v n, k.colours v n, among-more v w found)
          (grey_either (among v found) (eqb w v) (colour before v)))

      pub next-turn : Turn a0 a1 a g0 g1 g vs tail r (i + 1)
      next-turn = record {
        shaded = λ s. p s ∙ rw (k.shaded s, found-more) (shade_added (ending s a0 a1 a tail) found w);
        ended =
            let d = ap (λ (s : Store). s.list.tail) (p some) ∙ shade-tail (ending some h0 h1 l end) w in
            let m = one_counted (eqb w 0) w found in
            rw found-more (omega (arith, k.ended));
        colours = rw found-more colours_more;
      }
