-- Entries put into a buffer one after another.
use Prim.Native.Nat.{ℕ, zero, suc, ◌+◌, ◌-◌, ◌≤◌, ◌<◌}
use mathlib.Core.Path.{◌≡◌, refl, sym, ◌∙◌}
use mathlib.Core.Bool.{Bool, true, false}
use mathlib.Core.List.{List}
use native.Mathlib.Omega.{arith}
use borrow.Author.Tests.{le-leb, lt-leb}
use lib.ListN.{length}
use lib.Seq.{sets, length-sets}
use Rattle.workload.specs.Load.{draw, entry_bytes}
use Rattle.workload.specs.Entries.{Placed, entry_into}
use Rattle.workload.specs.Pieces.{opening, longest_entry, fill_of, entries_into, filled}
use Rattle.workload.specs.declared.pieces.Rest.{Rest}
use Rattle.workload.specs.declared.pieces.Piece.{Piece}
use Rattle.workload.proofs.Sizes.{entry-short}

-- one entry, where the longest has room
one_in : (left x : ℕ) (out : List ℕ) (end : ℕ) → 0 < left → end + longest_entry ≤ length out →
    entries_into left x out end ≡ entries_into (left - 1) (draw x).next (sets out end (entry_bytes (draw x))) (end + length (entry_bytes (draw x)))
one_in zero x out end some room = absurd (omega arith)
one_in (suc left) x out end some room =
    let less : suc left - 1 ≡ left = omega arith in
    rw (less, le-leb _ _ room)

-- none, where none is left or the longest has no room
none_in : (left x : ℕ) (out : List ℕ) (end : ℕ) → (0 < left → length out < end + longest_entry) →
    entries_into left x out end ≡ record { rest = record { version = false; value = x; left = left }; out = out; end = end }
none_in zero x out end full = refl
none_in (suc left) x out end full = rw (lt-leb _ _ (full (omega arith)))

pub short-opening : (version : Bool) → length (opening version) ≤ 1
short-opening true = omega arith
short-opening false = omega arith

-- of what was still to come, r, so many entries are left, the next of them from the value x on; what goes into the buffer from its place
-- end on is what is put into it in all, out₀ before
pub record Going (r : Rest) (out₀ : List ℕ) (last left x : ℕ) (out : List ℕ) (end : ℕ) : Type 0 where
  pub same : entries_into left x out end ≡ filled r out₀
  pub within : end ≤ length out
  -- the last place at which the longest entry has room
  pub limit : last + longest_entry ≡ length out

-- the version byte is in the buffer, where it was to come
pub begun : (r : Rest) (out₀ : List ℕ) {last left end : ℕ} {out : List ℕ} → last + longest_entry ≡ length out₀ → left ≡ r.left
    → end ≡ length (opening r.version) → out ≡ sets out₀ 0 (opening r.version) → Going r out₀ last left r.value out end
unfolding filled
begun r out₀ limit all e b =
    rw (all, e, b) (record {
      same = rw (le-leb longest_entry (length out₀) (omega arith));
      within = rw length-sets (omega (arith, short-opening r.version));
      limit = rw length-sets limit;
    })

module _ {r : Rest} {out₀ : List ℕ} {last left x : ℕ} {out : List ℕ} {end : ℕ} (g : Going r out₀ last left x out end) where
  -- the next entry is put there
  pub one_more : 0 < left → end ≤ last → {less : ℕ} → less ≡ left - 1 → {p : Placed} → p ≡ entry_into x end out
      → Going r out₀ last less p.next p.out p.end
  unfolding entry_into
  one_more some room l e =
      let fits : end + longest_entry ≤ length out = omega (arith, g.limit) in
      rw (l, e) (record {
        same = sym (one_in left x out end some fits) ∙ g.same;
        within = rw length-sets (omega (arith, entry-short x));
        limit = rw length-sets g.limit;
      })

  -- no more goes in
  pub no_more : (0 < left → last < end) → {p : Piece} → p ≡ record { rest = record { version = false; value = x; left = left }; end = end }
      → fill_of p out ≡ filled r out₀
  no_more full e = rw e (sym (none_in left x out end (λ some. omega (arith, full some, g.limit))) ∙ g.same)

-- there is no room for the longest entry
pub nothing_in : (r : Rest) (out : List ℕ) → length out < longest_entry → record { rest = r; out = out; end = 0 } ≡ filled r out
unfolding filled
nothing_in r out short = rw (lt-leb _ _ short)
