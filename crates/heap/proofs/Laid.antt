-- Halves with pending words written: their lengths, each word, and one pending word after another.
use Prim.Native.Nat.{ℕ, ◌+◌, ◌-◌, ◌*◌, ◌/◌, ◌%◌, ◌≤◌, ◌<◌}
use mathlib.Core.Path.{◌≡◌, refl, ◌∙◌}
use mathlib.Core.Bool.{Bool, true, false, cond, ◌&&◌}
use mathlib.Core.List.{List, [], ◌∷◌, ◌++◌}
use native.Mathlib.Omega.{arith}
use lib.Dec.{eqb, leb}
use lib.ListN.{length, get_or, set, length-set}
use lib.Seq.{get_or-set_same, get_or-set_other}
use borrow.Author.Tests.{eq-eqb, ne_eqb, le-leb, leb-true, eqb-true}
use Rattle.rules.specs.Memory.{half, half_of, word_of, in_half, put}
use Rattle.rules.proofs.memory.Cases.{eq_or, bool_or}
use Rattle.heap.specs.View.{memory, Inside}
use Rattle.heap.specs.Pending.{laid, memory_with, seen}
use Rattle.heap.specs.declared.halves.Pending.{Pending}
use Rattle.heap.proofs.Placing.{inside_kept, put_low, put-high}

-- one word
one_length : (b : Bool) (ws : List ℕ) (k x : ℕ) → length (cond b (set ws k x) ws) ≡ length ws
one_length true ws k x = length-set ws k x
one_length false ws k x = refl

one_seen : (b : Bool) (ws : List ℕ) (j x k : ℕ) → k < length ws → get_or (cond b (set ws j x) ws) k 0 ≡ cond (b && eqb j k) x (get_or ws k 0)
one_seen false ws j x k l = refl
one_seen true ws j x k l = eq_or j k
    (λ e. rw (eq-eqb j k e, e) (get_or-set_same ws k x 0 l))
    (λ n. rw (ne_eqb j k n) (get_or-set_other ws j k x 0 (λ z. n (omega arith))))

-- a reference names word k of half h where it is the reference of that word
pub one_reference : (h a k : ℕ) → h ≤ 1 → (in_half h a && eqb (word_of a) k) ≡ eqb a (2 * k + 2 + h)
unfolding in_half half_of word_of
one_reference h a k l = eq_or a (2 * k + 2 + h)
    (λ e.
    let low : 2 ≤ a = omega arith in
    let half : a % 2 ≡ h = omega arith in
    let place : (a - 2) / 2 ≡ k = omega arith in
    rw (eq-eqb a (2 * k + 2 + h) e, le-leb 2 a low, eq-eqb (a % 2) h half, eq-eqb ((a - 2) / 2) k place))
    (λ n. rw (ne_eqb a (2 * k + 2 + h) n)
    (bool_or (leb 2 a)
    (λ t. bool_or (eqb (a % 2) h)
    (λ u.
    let low = leb-true 2 a t in
    let half = eqb-true (a % 2) h u in
    rw (t, u) (ne_eqb ((a - 2) / 2) k (λ w. n (omega arith))))
    (λ f. rw (t, f)))
    (λ f. rw f)))

-- all of them
pub laid-length : (h : ℕ) (ps : List Pending) (ws : List ℕ) → length (laid h ps ws) ≡ length ws
laid-length h [] ws = refl
laid-length h (p ∷ ps) ws = laid-length h ps (cond (in_half h p.place) (set ws (word_of p.place) p.word) ws) ∙ one_length (in_half h p.place) ws (word_of p.place) p.word

pub laid-seen : (h : ℕ) (ps : List Pending) (ws : List ℕ) (k : ℕ) → k < length ws → get_or (laid h ps ws) k 0 ≡ seen h ps k (get_or ws k 0)
unfolding seen
laid-seen h [] ws k l = refl
laid-seen h (p ∷ ps) ws k l =
    let e = one_length (in_half h p.place) ws (word_of p.place) p.word in
    rw (← one_seen (in_half h p.place) ws (word_of p.place) p.word k l) (laid-seen h ps (cond (in_half h p.place) (set ws (word_of p.place) p.word) ws) k (omega arith))

-- some after others
pub laid-append : (h : ℕ) (ps qs : List Pending) (ws : List ℕ) → laid h (ps ++ qs) ws ≡ laid h qs (laid h ps ws)
laid-append h [] qs ws = refl
laid-append h (p ∷ ps) qs ws = laid-append h ps qs (cond (in_half h p.place) (set ws (word_of p.place) p.word) ws)

-- the half of a reference
both_laid : (h : ℕ) (xs : List Pending) (h0 h1 : List ℕ) → h < 2 → cond (eqb h 0) (laid 0 xs h0) (laid 1 xs h1) ≡ laid h xs (cond (eqb h 0) h0 h1)
both_laid h xs h0 h1 two = eq_or h 0
    (λ e. rw (eq-eqb h 0 e, e))
    (λ n. let e : h ≡ 1 = omega arith in rw (ne_eqb h 0 n, e))

half-laid : (xs : List Pending) (h0 h1 : List ℕ) (f0 f1 v : ℕ)
    → half (memory (laid 0 xs h0) (laid 1 xs h1) f0 f1) (half_of v) ≡ laid (half_of v) xs (half (memory h0 h1 f0 f1) (half_of v))
unfolding half half_of
half-laid xs h0 h1 f0 f1 v = both_laid _ xs h0 h1 (omega arith)

-- a word of the half of v
pub half_seen : (xs : List Pending) (h0 h1 : List ℕ) (f0 f1 v k : ℕ) {W : List ℕ} → W ≡ half (memory h0 h1 f0 f1) (half_of v) → k < length W
    → seen (half_of v) xs k (get_or W k 0) ≡ get_or (half (memory_with xs h0 h1 f0 f1) (half_of v)) k 0
half_seen xs h0 h1 f0 f1 v k {W} e l = rw (half-laid xs h0 h1 f0 f1 v, ← e, laid-seen (half_of v) xs W k l)

-- a record's words stay inside
pub laid_inside : (xs : List Pending) (h0 h1 : List ℕ) (v j : ℕ) → Inside (laid 0 xs h0) (laid 1 xs h1) v j → Inside h0 h1 v j
laid_inside xs h0 h1 v j i = inside_kept (laid 0 xs h0) (laid 1 xs h1) h0 h1 v j (omega (arith, laid-length 0 xs h0)) (omega (arith, laid-length 1 xs h1)) i

-- ---- a pending word as a word put

-- the reference of word j of the record v
place_in : (h v j : ℕ) → 2 ≤ v → in_half h (v + 2 * j) ≡ eqb (half_of v) h
unfolding in_half half_of
place_in h v j two = let e : (v + 2 * j) % 2 ≡ v % 2 = omega arith in rw (le-leb 2 (v + 2 * j) (omega arith), e)

place-word : (v j : ℕ) → 2 ≤ v → word_of (v + 2 * j) ≡ word_of v + j
unfolding word_of
place-word v j two = omega arith

pub laid-put : (xs : List Pending) (h0 h1 : List ℕ) (f0 f1 v j x : ℕ) → 2 ≤ v
    → let N = put (memory h0 h1 f0 f1) v j x in memory_with (record { place = v + 2 * j; word = x } ∷ xs) h0 h1 f0 f1 ≡ memory_with xs N.half0 N.half1 N.frontier0 N.frontier1
unfolding half_of
laid-put xs h0 h1 f0 f1 v j x two = eq_or (v % 2) 0
    (λ e. rw (place_in 0 v j two, place_in 1 v j two, place-word v j two, e, ← put_low h0 h1 f0 f1 v j x e))
    (λ n. let e : v % 2 ≡ 1 = omega arith in
    rw (place_in 0 v j two, place_in 1 v j two, place-word v j two, ← put-high h0 h1 f0 f1 v j x n, e))
