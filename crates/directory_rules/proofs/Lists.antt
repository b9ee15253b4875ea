-- Lists: mapped alike, with an element set or added, with each number once, and cut at one of their elements.
use Prim.Native.Nat.{ℕ, zero, suc, ◌+◌, ◌-◌, ◌≤◌, ◌<◌}
use mathlib.Core.Path.{◌≡◌, refl, sym, ap, ◌∙◌}
use mathlib.Core.List.Memᴰ
use mathlib.Core.List.{List, [], ◌∷◌, ◌++◌, map, Memᴰ}
use native.Mathlib.Nat.{not-suc-le-zero}
use native.Mathlib.Omega.{arith}
use lib.ListN.{get_or, set, take, length, length-append, get_or-append}
use lib.Seq.{get_or-append-add}
use Rattle.rules.proofs.memory.Cases.{lt_or}
use Rattle.rules.proofs.runs.LiveFits.{Once}

pub map_same : {A B : Type 0} {g h : A → B} (xs : List A) → ((x : A) → Memᴰ x xs → g x ≡ h x) → map g xs ≡ map h xs
map_same [] e = refl
map_same (x ∷ xs) e = rw (e x (Memᴰ.head refl), map_same xs (λ z i. e z (Memᴰ.tail i)))

pub map-take : {A B : Type 0} (h : A → B) (k : ℕ) (xs : List A) → map h (take k xs) ≡ take k (map h xs)
map-take h zero xs = refl
map-take h (suc k) [] = refl
map-take h (suc k) (x ∷ xs) = ap (h x ∷◌) (map-take h k xs)

-- ---- an element set or added: what holds of it and of the old one holds of whichever stands there

module _ {A : Type 0} (P : A → Type 0) where
  pub set_holds : (xs : List A) (i : ℕ) (a d : A) (j : ℕ) → P a → P (get_or xs j d) → P (get_or (set xs i a) j d)
  set_holds [] i a d j new old = old
  set_holds (x ∷ xs) zero a d zero new old = new
  set_holds (x ∷ xs) zero a d (suc j) new old = old
  set_holds (x ∷ xs) (suc i) a d zero new old = old
  set_holds (x ∷ xs) (suc i) a d (suc j) new old = set_holds xs i a d j new old

  pub append_holds : (xs : List A) (a d : A) (j : ℕ) → P a → P (get_or xs j d) → P (get_or (xs ++ (a ∷ [])) j d)
  append_holds [] a d zero new old = new
  append_holds [] a d (suc j) new old = old
  append_holds (x ∷ xs) a d zero new old = old
  append_holds (x ∷ xs) a d (suc j) new old = append_holds xs a d j new old

-- ---- lists that hold each number once

mem_at : (xs : List ℕ) (i : ℕ) → i < length xs → Memᴰ (get_or xs i 0) xs
mem_at [] i l = absurd (not-suc-le-zero l)
mem_at (x ∷ xs) zero l = Memᴰ.head refl
mem_at (x ∷ xs) (suc i) l = Memᴰ.tail (mem_at xs i (omega arith))

module _ (xs ys : List ℕ) where
  at_first : (i : ℕ) → i < length xs → get_or (xs ++ ys) i 0 ≡ get_or xs i 0
  at_first i l = get_or-append xs ys 0 i l

  at_second : (i : ℕ) → length xs ≤ i → get_or (xs ++ ys) i 0 ≡ get_or ys (i - length xs) 0
  at_second i l =
      let e : length xs + (i - length xs) ≡ i = omega arith in
      ap (λ (k : ℕ). get_or (xs ++ ys) k 0) (sym e) ∙ get_or-append-add xs ys (i - length xs) 0

  -- two such lists with no number in both
  pub once_both : Once xs → Once ys → ((q : ℕ) → Memᴰ q xs → Memᴰ q ys → ⊥) → Once (xs ++ ys)
  once_both a b away i j li lj e =
      let n = length-append xs ys in
      let second : (k : ℕ) → k < length (xs ++ ys) → length xs ≤ k → k - length xs < length ys = λ k l m. omega (arith, n) in
      let crossed : (k m : ℕ) → k < length xs → length xs ≤ m → m < length (xs ++ ys) → get_or (xs ++ ys) k 0 ≡ get_or (xs ++ ys) m 0 → ⊥ =
      λ k m l r s z. away (get_or xs k 0) (mem_at xs k l) (rw (sym (at_first k l) ∙ z ∙ at_second m r) (mem_at ys (m - length xs) (second m s r))) in
      lt_or i (length xs)
      (λ p. lt_or j (length xs)
      (λ q. a i j p q (sym (at_first i p) ∙ e ∙ at_first j q))
      (λ q. absurd (crossed i j p q lj e)))
      (λ p. lt_or j (length xs)
      (λ q. absurd (crossed j i q p li (sym e)))
      (λ q. let z = b (i - length xs) (j - length xs) (second i li p) (second j lj q) (sym (at_second i p) ∙ e ∙ at_second j q) in omega arith))

-- ---- a list cut at one of its elements

pub mem_cut : {A : Type 0} {qs : List A} (xs : List A) (q : A) (ys : List A) → qs ≡ xs ++ (q ∷ ys) → Memᴰ q qs
mem_cut xs q ys e = rw e (Memᴰ.append_right xs (Memᴰ.head refl))

-- a list of two parts: the element is in the second
pub record InSecond (a b xs : List ℕ) (q : ℕ) (ys : List ℕ) : Type 0 where
  pub before : List ℕ
  pub front : xs ≡ a ++ before
  pub back : b ≡ before ++ (q ∷ ys)

second_more : {x z : ℕ} {a b xs : List ℕ} {q : ℕ} {ys : List ℕ} → z ≡ x → InSecond a b xs q ys → InSecond (x ∷ a) b (z ∷ xs) q ys
second_more i r = record { before = r.before; front = cc (i, r.front); back = r.back }

pub in_second : (a b xs : List ℕ) (q : ℕ) (ys : List ℕ) → a ++ b ≡ xs ++ (q ∷ ys) → (Memᴰ q a → ⊥) → InSecond a b xs q ys
in_second [] b xs q ys e out = record { before = xs; front = refl; back = e }
in_second (x ∷ a) b [] q ys e out = absurd (out (Memᴰ.head cc))
in_second (x ∷ a) b (z ∷ xs) q ys e out = second_more (cc) (in_second a b xs q ys (cc) (λ m. out (Memᴰ.tail m)))

-- it is in the first
pub record InFirst (a xs : List ℕ) (q : ℕ) : Type 0 where
  pub rest : List ℕ
  pub front : a ≡ xs ++ (q ∷ rest)

first_more : {x z : ℕ} {a xs : List ℕ} {q : ℕ} → x ≡ z → InFirst a xs q → InFirst (x ∷ a) (z ∷ xs) q
first_more i r = record { rest = r.rest; front = cc (i, r.front) }

pub in_first : (a b xs : List ℕ) (q : ℕ) (ys : List ℕ) → a ++ b ≡ xs ++ (q ∷ ys) → (Memᴰ q b → ⊥) → InFirst a xs q
in_first [] b xs q ys e out = absurd (out (mem_cut xs q ys e))
in_first (x ∷ a) b [] q ys e out = record { rest = a; front = cc }
in_first (x ∷ a) b (z ∷ xs) q ys e out = first_more (cc) (in_first a b xs q ys (cc) out)
