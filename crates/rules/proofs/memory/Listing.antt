-- The records of a half as a list: its members are the starts, each once, and its weights add up to the total.
use Prim.Native.Nat.{ℕ, zero, suc, ◌+◌, ◌≤◌, ◌<◌}
use mathlib.Core.Path.{◌≡◌, refl, sym, ◌∙◌}
use mathlib.Core.List.Memᴰ
use mathlib.Core.List.{List, [], ◌∷◌, map, Memᴰ}
use native.Mathlib.Nat.{le_refl, add-zero, zero-add, not-suc-le-zero}
use native.Mathlib.Omega.{arith}
use lib.ListN.{length, get_or, length-map}
use borrow.Author.Tests.{lt-ltb, le-ltb}
use Rattle.rules.specs.Memory.{Memory, half, frontier, reference, half_of, size, size_of}
use Rattle.rules.specs.Free.{Free, record_at}
use Rattle.rules.specs.Tracking.{records_from, records_of, words_at}
use Rattle.rules.proofs.memory.Cases.{either}
use Rattle.rules.proofs.memory.Encoding.{half-reference, reference_injective}
use Rattle.rules.proofs.memory.Chain.{pos, pos_suc, pos_lt, pos_least, pos_injective}
use Rattle.rules.proofs.memory.Records.{Start, Filled, start_at, size_number}
use Rattle.rules.proofs.memory.Sum.{sum, sum_zero, sum_suc}
use Rattle.rules.proofs.memory.Total.{total, total_equal, total_numbers, total_size}

-- ---- lists of references by record number

-- the references of c records from number n on
numbered : List ℕ → ℕ → ℕ → ℕ → List ℕ
numbered ws h n zero = []
numbered ws h n (suc c) = reference h (pos ws n) ∷ numbered ws h (suc n) c

-- the sum of a weight over a list
unfoldable pub sum_over : (ℕ → ℕ) → List ℕ → ℕ
sum_over f [] = 0
sum_over f (v ∷ vs) = f v + sum_over f vs

module _ (ws : List ℕ) (h : ℕ) where
  numbered-length : (n c : ℕ) → length (numbered ws h n c) ≡ c
  unfolding numbered
  numbered-length n zero = refl
  numbered-length n (suc c) = rw (numbered-length (suc n) c)

  numbered-at : (n c i : ℕ) → i < c → get_or (numbered ws h n c) i 0 ≡ reference h (pos ws (n + i))
  unfolding numbered
  numbered-at n zero i l = absurd (not-suc-le-zero l)
  numbered-at n (suc c) zero l = rw add-zero
  numbered-at n (suc c) (suc i) l = let e : suc n + i ≡ n + suc i = omega arith in numbered-at (suc n) c i (omega arith) ∙ rw e

  numbered_sum : (f : ℕ → ℕ) (n c : ℕ) → sum (λ k. f (reference h (pos ws k))) n + sum_over f (numbered ws h n c) ≡ sum (λ k. f (reference h (pos ws k))) (n + c)
  unfolding numbered sum_over
  numbered_sum f n zero = rw (add-zero n) (add-zero (sum (λ k. f (reference h (pos ws k))) n))
  numbered_sum f n (suc c) = let e : n + suc c ≡ suc n + c = omega arith in rw e (let q = numbered_sum f (suc n) c in let r = sum_suc (λ k. f (reference h (pos ws k))) n in omega arith)

  numbered_member : (n c : ℕ) {v : ℕ} → Memᴰ v (numbered ws h n c) → {C : Type 0} → ((i : ℕ) → i < n + c → v ≡ reference h (pos ws i) → C) → C
  unfolding numbered
  numbered_member n zero m f = absurd (Memᴰ.not-nil m)
  numbered_member n (suc c) m f =
      either (Memᴰ.cases_cons m)
      (λ e. f n (omega arith) e)
      (λ m'. numbered_member (suc n) c m' (λ i l e. f i (omega arith) e))

-- ---- in a filled memory
module _ {M : Memory} (k : Filled M) {h : ℕ} (two : h < 2) where
  -- records_of goes by number
  listed : (m c n : ℕ) → n + c ≡ k.count h → c ≤ m → records_from m M h (pos (half M h) n) ≡ numbered (half M h) h n c
  unfolding numbered
  listed zero zero n e l = refl
  listed zero (suc c) n e l = absurd (not-suc-le-zero l)
  listed (suc m) zero n e l =
      let q : n ≡ k.count h = omega arith in
      rw (le-ltb (pos (half M h) n) (frontier M h) (rw (q, k.full h two) (le_refl _)))
  listed (suc m) (suc c) n e l =
      let b : pos (half M h) n < frontier M h = rw (k.full h two) at (pos_lt (half M h) n (k.count h) (omega arith)) in
      let q : pos (half M h) n + size M (reference h (pos (half M h) n)) ≡ pos (half M h) (suc n) = rw (size_number M h n two) (sym (pos_suc (half M h) n)) in
      rw (lt-ltb (pos (half M h) n) (frontier M h) b, q, listed m c (suc n) (omega arith) (omega arith))

  records-numbered : records_of M h ≡ numbered (half M h) h 0 (k.count h)
  unfolding records_of pos
  records-numbered = listed (frontier M h) (k.count h) 0 (omega arith) (omega (arith, k.full h two, pos_least (half M h) (k.count h)))

  number_start : (i : ℕ) → i < k.count h → Start M (reference h (pos (half M h) i))
  number_start i l = start_at M h i two (rw (k.full h two) at (pos_lt (half M h) i (k.count h) l))

  -- the members are the starts of the half
  pub listing_start : {v : ℕ} → Memᴰ v (records_of M h) → Start M v × (half_of v ≡ h)
  listing_start {v} m =
      numbered_member (half M h) h 0 (k.count h) (rw records-numbered at m)
      (λ i l e. (rw e (number_start i (omega arith)), rw e (half-reference h (pos (half M h) i) two)))

  records-length : length (records_of M h) ≡ k.count h
  records-length = rw records-numbered (numbered-length (half M h) h 0 (k.count h))

  records-at : (i : ℕ) → i < k.count h → get_or (records_of M h) i 0 ≡ reference h (pos (half M h) i)
  records-at i l = rw records-numbered (numbered-at (half M h) h 0 (k.count h) i l ∙ rw zero-add)

  -- each stands there once
  listing-once : (i j : ℕ) → i < length (records_of M h) → j < length (records_of M h)
      → get_or (records_of M h) i 0 ≡ get_or (records_of M h) j 0 → i ≡ j
  listing-once i j li lj e =
      let a = records-at i (rw records-length at li) in
      let b = records-at j (rw records-length at lj) in
      pos_injective (half M h) i j
      (reference_injective h (pos (half M h) i) h (pos (half M h) j) two two (sym a ∙ e ∙ b)).1

  listing-at : (i : ℕ) → i < length (records_of M h) → Start M (get_or (records_of M h) i 0) × (half_of (get_or (records_of M h) i 0) ≡ h)
  listing-at i l =
      let c = rw records-length at l in
      let e = records-at i c in
      (rw e (number_start i c), rw e (half-reference h (pos (half M h) i) two))

  -- its weights add up to the total
  pub listing_sum : (f : ℕ → ℕ) → sum_over f (records_of M h) ≡ total M h f
  listing_sum f =
      let one : ℕ → ℕ = λ i. f (reference h (pos (half M h) i)) in
      let q : sum one 0 + sum_over f (numbered (half M h) h 0 (k.count h)) ≡ sum one (k.count h) = rw zero-add at (numbered_sum (half M h) h f 0 (k.count h)) in
      rw records-numbered (omega (arith, q, sum_zero one, total_numbers k two f))

-- ---- the list under a function m, as the places of the records

-- q is the value of m at a start of half h
pub record Listed (M : Memory) (h : ℕ) (m : ℕ → ℕ) (q : ℕ) : Type 0 where
  pub named : ℕ
  pub start : Start M named
  pub side : half_of named ≡ h
  pub value : m named ≡ q

map_member : (m : ℕ → ℕ) (vs : List ℕ) {q : ℕ} → Memᴰ q (map m vs) → {C : Type 0} → ((v : ℕ) → Memᴰ v vs → m v ≡ q → C) → C
map_member m [] i f = absurd (Memᴰ.not-nil i)
map_member m (v ∷ vs) i f =
    either (Memᴰ.cases_cons i)
    (λ e. f v (Memᴰ.head refl) (sym e))
    (λ j. map_member m vs j (λ u k e. f u (Memᴰ.tail k) e))

map_at : (m : ℕ → ℕ) (vs : List ℕ) (i : ℕ) → i < length vs → get_or (map m vs) i 0 ≡ m (get_or vs i 0)
map_at m [] i l = absurd (not-suc-le-zero l)
map_at m (v ∷ vs) zero l = refl
map_at m (v ∷ vs) (suc i) l = map_at m vs i (omega arith)

-- the words of a record of the collector-free store
abbrev pub words_of : Free → ℕ → ℕ
words_of f q = size_of (length (record_at f q).refs) (length (record_at f q).plains)

map-words : (f : Free) (m : ℕ → ℕ) (vs : List ℕ) → words_at f (map m vs) ≡ sum_over (λ v. words_of f (m v)) vs
unfolding sum_over
map-words f m [] = refl
map-words f m (v ∷ vs) = rw (map-words f m vs)

module _ {M : Memory} (k : Filled M) {h : ℕ} (two : h < 2) (m : ℕ → ℕ) where
  pub mapped_start : {q : ℕ} → Memᴰ q (map m (records_of M h)) → Listed M h m q
  mapped_start i =
      map_member m (records_of M h) i
      (λ v j e. let s = listing_start k two j in record { named = v; start = s.0; side = s.1; value = e })

  -- different values at different starts stand there once
  pub mapped_once : ((u v : ℕ) → Start M u → half_of u ≡ h → Start M v → half_of v ≡ h → m u ≡ m v → u ≡ v)
      → (i j : ℕ) → i < length (map m (records_of M h)) → j < length (map m (records_of M h))
      → get_or (map m (records_of M h)) i 0 ≡ get_or (map m (records_of M h)) j 0 → i ≡ j
  mapped_once apart i j li lj e =
      let a = rw (length-map (records_of M h) m) at li in
      let b = rw (length-map (records_of M h) m) at lj in
      let s = listing-at k two i a in
      let t = listing-at k two j b in
      listing-once k two i j a b
      (apart (get_or (records_of M h) i 0) (get_or (records_of M h) j 0) s.0 s.1 t.0 t.1
      (sym (map_at m (records_of M h) i a) ∙ e ∙ map_at m (records_of M h) j b))

  -- where records have the sizes of their starts, their words make up the half
  pub mapped_words : (f : Free)
      → ((v : ℕ) → Start M v → half_of v ≡ h → size_of (length (record_at f (m v)).refs) (length (record_at f (m v)).plains) ≡ size M v)
      → words_at f (map m (records_of M h)) ≡ frontier M h
  mapped_words f e =
      map-words f m (records_of M h) ∙ listing_sum k two (λ v. words_of f (m v)) ∙ total_equal M two (λ v. words_of f (m v)) (size M) e ∙ total_size k two
