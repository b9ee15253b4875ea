-- A half emptied, and a memory with no record.
use Prim.Native.Nat.{ℕ, ◌<◌, zero-le}
use mathlib.Core.Path.{◌≡◌, refl}
use mathlib.Core.Logic.{◌≢◌}
use mathlib.Core.Bool.{cond}
use native.Mathlib.Nat.{not-suc-le-zero}
use lib.Dec.{eqb}
use lib.ListN.{length}
use borrow.Author.Tests.{eq-eqb, ne_eqb}
use Rattle.rules.specs.Memory.{Memory, half, frontier, with_frontier, half_of, word, colour, refs, plains, shape_at, colour_at}
use Rattle.rules.proofs.memory.Cases.{eq_or}
use Rattle.rules.proofs.memory.Encoding.{half-below_2}
use Rattle.rules.proofs.memory.Chain.{pos_zero}
use Rattle.rules.proofs.memory.Halves.{half-frontier, frontier-same, frontier_other}
use Rattle.rules.proofs.memory.Records.{Start, Filled, refs-same, plains-same}
use Rattle.rules.proofs.memory.Same.{SameStarts, start_kept, start_back}

-- M' is M with half h emptied
pub record Emptied (M M' : Memory) (h : ℕ) : Type 0 where
  pub filled : Filled M'
  pub to : {u : ℕ} → Start M u → half_of u ≢ h → Start M' u
  pub back : {u : ℕ} → Start M' u → Start M u
  pub gone : {u : ℕ} → Start M' u → half_of u ≢ h
  pub same : (u i : ℕ) → word M' u i ≡ word M u i
  pub same-refs : (u : ℕ) → refs M' u ≡ refs M u
  pub same-plains : (u : ℕ) → plains M' u ≡ plains M u
  pub front : frontier M' h ≡ 0
  pub front_other : (g : ℕ) → g < 2 → g ≢ h → frontier M' g ≡ frontier M g
  pub lengths : (g : ℕ) → length (half M' g) ≡ length (half M g)

module _ {M : Memory} (f : Filled M) (h : ℕ) (two : h < 2) where
  abbrev M' : Memory
  M' = with_frontier M h 0

  empty-same : (u i : ℕ) → word M' u i ≡ word M u i
  unfolding word
  empty-same u i = rw (half-frontier M h 0 (half_of u))

  empty-colour : (u : ℕ) → colour M' u ≡ colour M u
  unfolding colour
  empty-colour u = empty-same u colour_at

  empty_starts : (g : ℕ) → g < 2 → g ≢ h → SameStarts M M' g
  empty_starts g l d = record { chain = λ k. rw (half-frontier M h 0 g); front = frontier_other M h 0 g two l d }

  empty_gone : {u : ℕ} → Start M' u → half_of u ≢ h
  empty_gone t e = not-suc-le-zero (rw (e, frontier-same M h 0) at t.below)

  empty_back : {u : ℕ} → Start M' u → Start M u
  empty_back {u} t = start_back (empty_starts (half_of u) (half-below_2 u) (empty_gone t)) t

  pub empty-kept : Emptied M (with_frontier M h 0) h
  empty-kept = record {
    filled = record {
      count = λ g. cond (eqb g h) 0 (f.count g);
      full = λ g l. eq_or g h
          (λ e. rw (e, eq-eqb h h refl, frontier-same M h 0) (pos_zero (half M' h)))
          (λ d. rw (ne_eqb g h d, half-frontier M h 0 g, frontier_other M h 0 g two l d) (f.full g l));
      fits = λ g l. eq_or g h
          (λ e. rw (e, frontier-same M h 0) zero-le)
          (λ d. rw (half-frontier M h 0 g, frontier_other M h 0 g two l d) (f.fits g l));
      shapes = λ {v} t. rw (empty-same v shape_at) (f.shapes (empty_back t));
      colours = λ {v} t. rw (empty-colour v) (f.colours (empty_back t));
    };
    to = λ {u} s d. start_kept (empty_starts (half_of u) (half-below_2 u) d) s;
    back = empty_back;
    gone = empty_gone;
    same = empty-same;
    same-refs = λ u. refs-same M M' u (empty-same u shape_at);
    same-plains = λ u. plains-same M M' u (empty-same u shape_at);
    front = frontier-same M h 0;
    front_other = λ g l d. frontier_other M h 0 g two l d;
    lengths = λ g. rw (half-frontier M h 0 g);
  }

-- ---- no record at all

pub empty_none : {M : Memory} {v : ℕ} → frontier M (half_of v) ≡ 0 → Start M v → ⊥
empty_none z s = not-suc-le-zero (rw z at s.below)

pub empty-filled : {M : Memory} → ((h : ℕ) → h < 2 → frontier M h ≡ 0) → Filled M
empty-filled {M} z = record {
  count = λ h. 0;
  full = λ h l. rw (z h l) (pos_zero (half M h));
  fits = λ h l. rw (z h l) zero-le;
  shapes = λ {v} s. absurd (empty_none (z (half_of v) (half-below_2 v)) s);
  colours = λ {v} s. absurd (empty_none (z (half_of v) (half-below_2 v)) s);
}
