-- The kinds of entries: the length byte of each, and a body by its kind and its length.
use Prim.Native.Nat.{ℕ, zero, suc, ◌-◌, ◌≤◌, ◌<◌, max}
use mathlib.Core.Path.{◌≡◌, ap}
use mathlib.Core.List.{List, [], ◌∷◌}
use native.Mathlib.Omega.{arith}
use borrow.Author.Tests.{le-leb, lt-leb, eq-eqb, ne_eqb}
use lib.ListN.{length, get_or, get_or-map, take, drop}
use lib.Seq.{take-length}
use Rattle.rules.specs.Runs.{Step}
use Rattle.rules.specs.Refusals.{refused, passed}
use Rattle.rules.specs.Script.{Kind, kinds, kind_of, call_of}
use Rattle.rules.proofs.memory.Cases.{lt_or}
use Rattle.script.proofs.Bytes.{big_endian_bytes}

-- the length byte of each kind, from 1 on
abbrev sizes : List ℕ
sizes = 2 ∷ 2 ∷ 2 ∷ 5 ∷ 5 ∷ 5 ∷ 4 ∷ 8 ∷ 4 ∷ 3 ∷ 4 ∷ 4 ∷ 4 ∷ 1 ∷ []

size_of : (b : List ℕ) (k : ℕ) → get_or sizes (k - 1) 0 ≡ (kind_of b k).size
unfolding kind_of kinds
size_of b k = get_or-map (λ (x : Kind). x.size) (kinds b) (k - 1) (record { size = 0; call = Step })

-- no element is more than the largest
abbrev largest : List ℕ → ℕ
largest [] = 0
largest (x ∷ l) = max x (largest l)

at_most : (l : List ℕ) (i : ℕ) → get_or l i 0 ≤ largest l
at_most [] i = omega arith
at_most (x ∷ l) zero = omega arith
at_most (x ∷ l) (suc i) = omega (arith, at_most l i)

-- no kind has a length byte above 8
pub short-kinds : (b : List ℕ) (k : ℕ) → (kind_of b k).size ≤ 8
short-kinds b k = rw (← size_of b k) (at_most sizes (k - 1))

-- ---- a body of which the first byte is the kind

-- the bytes behind the kind
abbrev arguments : List ℕ → List ℕ
arguments b = take (length b - 1) (drop 1 b)

with_kind : (b : List ℕ) (m : ℕ) → get_or b 0 0 ≡ m → 1 ≤ length b → b ≡ m ∷ arguments b
with_kind [] m f some = absurd (omega arith)
with_kind (x ∷ xs) m f some =
    let rest : suc (length xs) - 1 ≡ length xs = omega arith in
    rw (← f, rest, take-length xs)

-- of a kind of which there are 14
module _ (b : List ℕ) {m : ℕ} (e : get_or b 0 0 ≡ m) (some : 1 ≤ length b) (least : 1 ≤ m) (most : m ≤ 14) where
  pub called_kind : suc (length (arguments b)) ≡ get_or sizes (m - 1) 0 → call_of b ≡ passed (kind_of (m ∷ arguments b) m).call
  unfolding call_of
  called_kind size =
      rw (ap call_of (with_kind b m e some), le-leb 1 m least, le-leb m 14 most, ← size_of (m ∷ arguments b) m, eq-eqb _ _ size)

  other_length : (suc (length (arguments b)) ≡ get_or sizes (m - 1) 0 → ⊥) → call_of b ≡ refused 15
  unfolding call_of
  other_length size =
      rw (ap call_of (with_kind b m e some), le-leb 1 m least, le-leb m 14 most, ← size_of (m ∷ arguments b) m, ne_eqb _ _ size)

  pub fewer_bytes : suc (length (arguments b)) < get_or sizes (m - 1) 0 → call_of b ≡ refused 15
  fewer_bytes fewer = other_length (λ same. omega arith)

  pub more_bytes : get_or sizes (m - 1) 0 < suc (length (arguments b)) → call_of b ≡ refused 15
  more_bytes more = other_length (λ same. omega arith)

pub other_kind : (b : List ℕ) → (1 ≤ get_or b 0 0 → 14 < get_or b 0 0) → call_of b ≡ refused 15
unfolding call_of
other_kind b other =
    lt_or
    (get_or b 0 0)
    1
    (λ none. rw (lt-leb 1 (get_or b 0 0) none))
    (λ some. rw (le-leb 1 (get_or b 0 0) some, lt-leb (get_or b 0 0) 14 (other some)))

-- what a body is decoded by
pub ruleset decoding = (called_kind, fewer_bytes, more_bytes, other_kind, big_endian_bytes)
