-- Words as records that follow one another: where record n starts, that records are apart, and what a write into one and new words at the end keep.
use Prim.Native.Nat.{ℕ, zero, suc, ◌+◌, ◌*◌, ◌≤◌, ◌<◌, zero-le}
use mathlib.Core.Path.{◌≡◌, refl, ◌∙◌}
use mathlib.Core.Logic.{◌≢◌}
use mathlib.Core.List.{List, [], ◌∷◌}
use native.Mathlib.Nat.{le_refl, add-zero, not-suc-le-zero}
use native.Mathlib.Omega.{arith}
use lib.ListN.{length, get_or, set, length-set}
use lib.Seq.{sets, get_or-set_same, get_or-set_other}
use Rattle.rules.specs.Memory.{header, size_of, refs_of, plains_of}
use Rattle.rules.proofs.memory.Cases.{lt_or, eq_or}

-- the size of a record by its word 0
unfoldable pub word_size : ℕ → ℕ
word_size w = size_of (refs_of w) (plains_of w)

word-size-least : (w : ℕ) → header ≤ word_size w
unfolding word_size
word-size-least w = omega arith

-- where record n starts: each begins where the one before ends
unfoldable pub pos : List ℕ → ℕ → ℕ
pos ws zero = 0
pos ws (suc n) = pos ws n + word_size (get_or ws (pos ws n) 0)

-- the size of record n
unfoldable pub size_at : List ℕ → ℕ → ℕ
size_at ws n = word_size (get_or ws (pos ws n) 0)

pub pos_zero : (ws : List ℕ) → pos ws 0 ≡ 0
unfolding pos
pos_zero ws = refl

pub pos_suc : (ws : List ℕ) (n : ℕ) → pos ws (suc n) ≡ pos ws n + size_at ws n
unfolding pos size_at
pos_suc ws n = refl

size-at-least : (ws : List ℕ) (n : ℕ) → header ≤ size_at ws n
unfolding size_at
size-at-least ws n = word-size-least (get_or ws (pos ws n) 0)

-- ---- order

pub pos_whole : (ws : List ℕ) (n m : ℕ) → n < m → pos ws n + size_at ws n ≤ pos ws m
pos_whole ws n zero h = absurd (not-suc-le-zero h)
pos_whole ws n (suc m) h =
    lt_or n m
    (λ l. let q = pos_whole ws n m l in omega (arith, pos_suc ws m))
    (λ l. let e : n ≡ m = omega arith in rw (e, pos_suc) (le_refl _))

pub pos_lt : (ws : List ℕ) (n m : ℕ) → n < m → pos ws n < pos ws m
pos_lt ws n m l = omega (arith, pos_whole ws n m l, size-at-least ws n)

pub pos_le : (ws : List ℕ) (n m : ℕ) → n ≤ m → pos ws n ≤ pos ws m
pos_le ws n m l = lt_or n m (λ g. omega (arith, pos_lt ws n m g)) (λ g. let e : n ≡ m = omega arith in rw e (le_refl _))

pub lt_of_pos : (ws : List ℕ) (n m : ℕ) → pos ws n < pos ws m → n < m
lt_of_pos ws n m l = lt_or n m (λ g. g) (λ g. absurd (omega (arith, pos_le ws m n g)))

pub le_of_pos : (ws : List ℕ) (n m : ℕ) → pos ws n ≤ pos ws m → n ≤ m
le_of_pos ws n m l = lt_or m n (λ g. absurd (omega (arith, pos_lt ws m n g))) (λ g. g)

pub pos_injective : (ws : List ℕ) (n m : ℕ) → pos ws n ≡ pos ws m → n ≡ m
pos_injective ws n m e = omega (arith, le_of_pos ws n m (rw e (le_refl _)), le_of_pos ws m n (rw e (le_refl _)))

-- the words of a header for each record at least
pub pos_least : (ws : List ℕ) (n : ℕ) → n * header ≤ pos ws n
pos_least ws zero = zero-le
pos_least ws (suc n) = let q = pos_least ws n in omega (arith, pos_suc ws n, size-at-least ws n)

-- words of two records are apart
pub apart : (ws : List ℕ) (n i m j : ℕ) → n ≢ m → i < size_at ws n → j < size_at ws m → pos ws n + i ≢ pos ws m + j
apart ws n i m j d hi hj e =
    lt_or n m
    (λ l. omega (arith, pos_whole ws n m l))
    (λ l. omega (arith, pos_whole ws m n (omega arith)))

-- a word inside record n, past its first, is the first of no record
not_start : (ws : List ℕ) (n j m : ℕ) → j < size_at ws n → 0 < j → pos ws m ≢ pos ws n + j
not_start ws n j m h z e =
    eq_or m n
    (λ q. let r : pos ws m ≡ pos ws n = rw q in omega arith)
    (λ d. apart ws m 0 n j d (omega (arith, size-at-least ws m)) h (rw add-zero e))

-- ---- what keeps the starts

-- they depend on the first words alone
pos_agree : (ws ws' : List ℕ) (n : ℕ) → ((k : ℕ) → k < n → get_or ws' (pos ws k) 0 ≡ get_or ws (pos ws k) 0) → pos ws' n ≡ pos ws n
unfolding pos
pos_agree ws ws' zero h = refl
pos_agree ws ws' (suc n) h =
    let q : pos ws' n ≡ pos ws n = pos_agree ws ws' n (λ k l. h k (omega arith)) in
    rw (q, h n (omega arith))

-- a write past the first word of a record
pub pos_set : (ws : List ℕ) (n j x m : ℕ) → j < size_at ws n → 0 < j → pos (set ws (pos ws n + j) x) m ≡ pos ws m
pos_set ws n j x m inside past =
    pos_agree ws (set ws (pos ws n + j) x) m (λ k l. get_or-set_other ws (pos ws n + j) (pos ws k) x 0 (not_start ws n j k inside past))

-- ---- words put at a place

pub sets-before : (ws vs : List ℕ) (f k : ℕ) → k < f → get_or (sets ws f vs) k 0 ≡ get_or ws k 0
sets-before ws [] f k h = refl
sets-before ws (v ∷ vs) f k h = sets-before (set ws f v) vs (suc f) k (omega arith) ∙ get_or-set_other ws f k v 0 (omega arith)

pub sets_in : (ws vs : List ℕ) (f j : ℕ) → f + length vs ≤ length ws → j < length vs → get_or (sets ws f vs) (f + j) 0 ≡ get_or vs j 0
sets_in ws [] f j fits h = absurd (not-suc-le-zero h)
sets_in ws (v ∷ vs) f zero fits h = rw add-zero (sets-before (set ws f v) vs (suc f) f (omega arith) ∙ get_or-set_same ws f v 0 (omega arith))
sets_in ws (v ∷ vs) f (suc j) fits h =
    let q : suc f + j ≡ f + suc j = omega arith in
    rw (← q) (sets_in (set ws f v) vs (suc f) j (rw length-set (omega arith)) (omega arith))

-- records before the place where words are put stay, and the one there starts there
pub pos_sets : (ws vs : List ℕ) (n k : ℕ) → k ≤ n → pos (sets ws (pos ws n) vs) k ≡ pos ws k
pos_sets ws vs n k l = pos_agree ws (sets ws (pos ws n) vs) k (λ i il. sets-before ws vs (pos ws n) (pos ws i) (pos_lt ws i n (omega arith)))
