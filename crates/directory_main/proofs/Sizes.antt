-- The length byte of each kind, and an entry by its kind and its length.
use Prim.Native.Nat.{ℕ, suc, ◌+◌, ◌-◌, ◌≤◌, ◌<◌}
use mathlib.Core.Path.{◌≡◌, refl, ap, sym, ◌∙◌}
use mathlib.Core.Bool.{Bool, true, false, ◌&&◌}
use mathlib.Core.List.{List, [], ◌∷◌}
use native.Mathlib.Omega.{arith}
use borrow.Author.Tests.{le-leb, lt-leb, eq-eqb, ne_eqb}
use lib.ListN.{length, get_or, get_or-map, take, drop, length-take, length-drop}
use lib.Seq.{take-length}
use Rattle.std.specs.Prelude.{None, Some}
use Rattle.std.proofs.lemmas.List.{get_or_past}
use Rattle.rules.proofs.memory.Cases.{lt_or}
use Rattle.script.proofs.Bytes.{big_endian_bytes}
use Rattle.directory_main.specs.declared.entries.Request.TheVariants.{Open}
use Rattle.directory_main.specs.Entries.{Kind, kinds, kind_of, is_own, entry_of}

abbrev sizes : List ℕ
sizes = 1 ∷ 5 ∷ 5 ∷ 5 ∷ 9 ∷ 9 ∷ 6 ∷ []

size_of : (b : List ℕ) (k : ℕ) → get_or sizes (k - 16) 0 ≡ (kind_of b k).size
unfolding kind_of kinds
size_of b k = get_or-map (λ (x : Kind). x.size) (kinds b) (k - 16) (record { size = 0; request = Open })

-- the bytes behind the kind
abbrev arguments : List ℕ → List ℕ
arguments b = take (length b - 2) (drop 2 b)

with_kind : (b : List ℕ) (m : ℕ) → get_or b 1 0 ≡ m → 2 ≤ length b → b ≡ get_or b 0 0 ∷ m ∷ arguments b
with_kind [] m e some = absurd (omega arith)
with_kind (x ∷ []) m e some = absurd (omega arith)
with_kind (x ∷ y ∷ xs) m e some =
    let rest : suc (suc (length xs)) - 2 ≡ length xs = omega arith in
    rw (← e, rest, take-length xs)

-- an entry that is whole and has a kind of the directory
module _ (b : List ℕ) {m : ℕ} (e : get_or b 1 0 ≡ m) (some : 2 ≤ length b) (whole : get_or b 0 0 + 1 ≡ length b) (least : 16 ≤ m) (most : m ≤ 22) where
  long : get_or b 0 0 ≡ suc (length (arguments b))
  long = simp (length-take, length-drop) (omega arith)

  pub own_kind : suc (length (arguments b)) ≡ get_or sizes (m - 16) 0 → entry_of b ≡ Some (kind_of (get_or b 0 0 ∷ m ∷ arguments b) m).request
  unfolding entry_of is_own
  own_kind size =
      let n : ℕ = get_or b 0 0 in
      let length_byte : n ≡ get_or sizes (m - 16) 0 = omega (arith, long) in
      let all : suc (suc (length (arguments b))) ≡ 1 + n = omega (arith, long) in
      rw (ap entry_of (with_kind b m e some), le-leb 16 m least, le-leb m 22 most, ← size_of (n ∷ m ∷ arguments b) m, eq-eqb _ _ length_byte, eq-eqb _ _ all)

  other_length : (suc (length (arguments b)) ≡ get_or sizes (m - 16) 0 → ⊥) → entry_of b ≡ None
  unfolding entry_of is_own
  other_length size =
      let n : ℕ = get_or b 0 0 in
      rw (ap entry_of (with_kind b m e some), le-leb 16 m least, le-leb m 22 most, ← size_of (n ∷ m ∷ arguments b) m, ne_eqb n (get_or sizes (m - 16) 0) (λ same. size (sym long ∙ same)))

  pub fewer_bytes : suc (length (arguments b)) < get_or sizes (m - 16) 0 → entry_of b ≡ None
  fewer_bytes fewer = other_length (λ same. omega arith)

  pub more_bytes : get_or sizes (m - 16) 0 < suc (length (arguments b)) → entry_of b ≡ None
  more_bytes more = other_length (λ same. omega arith)

pub other_kind : (b : List ℕ) → (16 ≤ get_or b 1 0 → 22 < get_or b 1 0) → entry_of b ≡ None
unfolding entry_of is_own
other_kind b other =
    lt_or
    (get_or b 1 0)
    16
    (λ below. rw (lt-leb 16 (get_or b 1 0) below))
    (λ least. rw (le-leb 16 (get_or b 1 0) least, lt-leb (get_or b 1 0) 22 (other least)))

-- an entry that is cut
never : (a : Bool) → (a && false) ≡ false
never true = refl
never false = refl

pub cut_entry : (b : List ℕ) → (get_or b 0 0 + 1 ≡ length b → ⊥) → entry_of b ≡ None
unfolding entry_of is_own
cut_entry b cut = rw (ne_eqb (length b) (1 + get_or b 0 0) (λ same. cut (omega arith)), never)

pub no_kind : (b : List ℕ) → length b < 2 → entry_of b ≡ None
no_kind b short = other_kind b (λ least. omega (arith, get_or_past b 1 0 (omega arith)))

pub ruleset reading = (own_kind, fewer_bytes, more_bytes, other_kind, cut_entry, no_kind, big_endian_bytes)
