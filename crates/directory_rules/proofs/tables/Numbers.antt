-- Lists of different numbers: who is among them, one more, one left out; and lists of places, each with its number.
use Prim.Native.Nat.{ℕ, ◌+◌, ◌-◌, ◌≤◌}
use mathlib.Core.Path.{◌≡◌, refl, sym, ap, ◌∙◌}
use mathlib.Core.Logic.{◌≢◌}
use mathlib.Core.Bool.{Bool, true, false, ◌||◌, or-true, or_assoc, true≢false}
use mathlib.Core.List.Memᴰ
use mathlib.Core.List.{List, [], ◌∷◌, ◌++◌, map, map-append, Memᴰ, head-eq_of_cons-eq, tail-eq_of_cons-eq}
use lib.Dec.{eqb}
use borrow.Author.Tests.{eq-eqb, ne_eqb}
use native.Mathlib.Omega.{arith}
use Rattle.rules.proofs.memory.Cases.{bool_or, either, same_test, eqb_swap}
use Rattle.directory_rules.specs.Table.{among, without}

-- ---- among

pub true-false : {b : Bool} → b ≡ false → b ≢ true
true-false e t = true≢false (sym t ∙ e)

pub or_parts : (a b : Bool) {C : Type 0} → a || b ≡ false → (a ≡ false → b ≡ false → C) → C
or_parts true b e k = absurd (true≢false e)
or_parts false b e k = k refl e

pub among-append : (n : ℕ) (xs ys : List ℕ) → among n (xs ++ ys) ≡ among n xs || among n ys
among-append n [] ys = refl
among-append n (x ∷ xs) ys = rw (among-append n xs ys) (sym (or_assoc (eqb n x) (among n xs) (among n ys)))

-- ---- different numbers

pub data Distinct : List ℕ → Type 0 where
  no_more : Distinct []
  one_more : {x : ℕ} {xs : List ℕ} → among x xs ≡ false → Distinct xs → Distinct (x ∷ xs)

pub distinct_snoc : (n : ℕ) {xs : List ℕ} → among n xs ≡ false → Distinct xs → Distinct (xs ++ (n ∷ []))
distinct_snoc n e no_more = one_more refl no_more
distinct_snoc n e (one_more {x} {xs} a d) =
    or_parts (eqb n x) (among n xs) e
    (λ p q. one_more (among-append x xs (n ∷ []) ∙ rw (a, eqb_swap x n, p)) (distinct_snoc n q d))

-- ---- one left out

without_none : (n : ℕ) (xs : List ℕ) → among n xs ≡ false → without n xs ≡ xs
without_none n [] e = refl
without_none n (x ∷ xs) e = or_parts (eqb n x) (among n xs) e (λ p q. rw (p, without_none n xs q))

-- no number comes in
pub among-without : (m n : ℕ) (xs : List ℕ) → among m xs ≡ false → among m (without n xs) ≡ false
among-without m n [] e = refl
among-without m n (x ∷ xs) e =
    or_parts (eqb m x) (among m xs) e
    (λ p q. bool_or (eqb n x) (λ b. rw b (among-without m n xs q)) (λ b. rw (b, p) (among-without m n xs q)))

pub distinct_without : (n : ℕ) {xs : List ℕ} → Distinct xs → Distinct (without n xs)
distinct_without n no_more = no_more
distinct_without n (one_more {x} {xs} a d) =
    bool_or (eqb n x) (λ b. rw b (distinct_without n d)) (λ b. rw b (one_more (among-without x n xs a) (distinct_without n d)))

without_split : (n : ℕ) (xs ys : List ℕ) → Distinct (xs ++ (n ∷ ys)) → without n (xs ++ (n ∷ ys)) ≡ xs ++ ys
without_split n [] ys (one_more a d) = rw (eq-eqb n n refl) (without_none n ys a)
without_split n (x ∷ xs) ys (one_more a d) =
    let e : among x xs || (eqb x n || among x ys) ≡ false = sym (among-append x xs (n ∷ ys)) ∙ a in
    or_parts (among x xs) (eqb x n || among x ys) e
    (λ p q. or_parts (eqb x n) (among x ys) q (λ u v. rw (eqb_swap n x, u, without_split n xs ys d)))

-- ---- places, and the number that h gives for each

module _ (h : ℕ → ℕ) where
  pub among-map : {q : ℕ} {qs : List ℕ} {n : ℕ} → Memᴰ q qs → h q ≡ n → among n (map h qs) ≡ true
  among-map {n = n} (Memᴰ.head {x = x} e) i = rw (eq-eqb n (h x) (sym i ∙ ap h e))
  among-map {n = n} (Memᴰ.tail {x = x} m) i = rw (among-map m i) (or-true (eqb n (h x)))

  pub among_none : (qs : List ℕ) (n : ℕ) → ((q : ℕ) → Memᴰ q qs → h q ≢ n) → among n (map h qs) ≡ false
  among_none [] n out = refl
  among_none (q ∷ qs) n out =
      rw (ne_eqb n (h q) (λ e. out q (Memᴰ.head refl) (sym e))) (among_none qs n (λ p m. out p (Memᴰ.tail m)))

  -- what stands in front doesn't matter where it has other numbers
  pub among_behind : (ps qs : List ℕ) (n : ℕ) → ((q : ℕ) → Memᴰ q ps → h q ≢ n) → among n (map h (ps ++ qs)) ≡ among n (map h qs)
  among_behind ps qs n out = rw (map-append h ps qs, among-append n (map h ps) (map h qs), among_none ps n out)

  -- a place left out, and its number
  pub without-place : (n q : ℕ) (xs ys ns : List ℕ) → map h (xs ++ (q ∷ ys)) ≡ ns → h q ≡ n → Distinct ns → map h (xs ++ ys) ≡ without n ns
  without-place n q xs ys ns e z d =
      let split : ns ≡ map h xs ++ (n ∷ map h ys) = sym e ∙ map-append h xs (q ∷ ys) ∙ ap (λ a. map h xs ++ (a ∷ map h ys)) z in
      map-append h xs ys ∙ sym (without_split n (map h xs) (map h ys) (rw split at d)) ∙ ap (without n) (sym split)

  -- one place for each number
  pub place_of : (qs : List ℕ) → Distinct (map h qs) → {p q : ℕ} → Memᴰ p qs → Memᴰ q qs → h p ≡ h q → p ≡ q
  place_of [] d i j z = absurd (Memᴰ.not-nil i)
  place_of (x ∷ qs) (one_more new d) i j z =
      either (Memᴰ.cases_cons i)
      (λ s. either (Memᴰ.cases_cons j) (λ t. s ∙ sym t) (λ t. absurd (true-false new (among-map t (sym z ∙ ap h s)))))
      (λ s. either (Memᴰ.cases_cons j) (λ t. absurd (true-false new (among-map s (z ∙ ap h t)))) (λ t. place_of qs d s t z))

-- ---- each number raised by m

module _ (m : ℕ) where
  pub among_raised : (n : ℕ) (ns : List ℕ) → among (m + n) (map (λ k. m + k) ns) ≡ among n ns
  among_raised n [] = refl
  among_raised n (x ∷ ns) = rw (same_test (m + n) (m + x) n x (λ e. omega arith) (λ e. omega arith), among_raised n ns)

  pub distinct_raised : {ns : List ℕ} → Distinct ns → Distinct (map (λ k. m + k) ns)
  distinct_raised no_more = no_more
  distinct_raised (one_more {x} {xs} a d) = one_more (among_raised x xs ∙ a) (distinct_raised d)

  module _ (h : ℕ → ℕ) where
    pub raised_least : (qs ns : List ℕ) → map h qs ≡ map (λ k. m + k) ns → {q : ℕ} → Memᴰ q qs → m ≤ h q
    raised_least qs ns e i = omega (arith, (Memᴰ.of_map (λ k. m + k) ns (rw e at (Memᴰ.map h i))).2)

    pub lowered : (qs ns : List ℕ) → map h qs ≡ map (λ k. m + k) ns → map (λ q. h q - m) qs ≡ ns
    lowered [] [] e = refl
    lowered [] (n ∷ ns) e = let z : ◌≡◌ {A = ℕ} 0 1 = cc in absurd (omega arith)
    lowered (q ∷ qs) [] e = let z : ◌≡◌ {A = ℕ} 0 1 = cc in absurd (omega arith)
    lowered (q ∷ qs) (n ∷ ns) e =
        let x : h q ≡ m + n = head-eq_of_cons-eq e in
        let y : h q - m ≡ n = omega arith in
        rw (y, lowered qs ns (tail-eq_of_cons-eq e))
