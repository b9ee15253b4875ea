-- Shading several references by the rule: what it gives, and that it keeps the invariant.
use Prim.Native.Nat.{ℕ, ◌+◌, ◌≤◌, ◌<◌}
use mathlib.Core.Path.{◌≡◌, ap, ◌∙◌}
use mathlib.Core.Logic.{◌≢◌}
use mathlib.Core.List.{List, [], ◌∷◌}
use native.Mathlib.Omega.{arith}
use lib.ListN.{get_or, length}
use borrow.Author.Tests.{le-leb}
use Rattle.rules.specs.Refusals.{passed}
use Rattle.rules.specs.Memory.{Memory, null, white, colour_at, colour}
use Rattle.rules.specs.Control.{Store}
use Rattle.rules.specs.Cycle.{stage}
use Rattle.rules.specs.Barriers.{heap_of, list_room, listing, shading_all, shade, shade_all}
use Rattle.rules.specs.Free.{Free}
use Rattle.rules.proofs.memory.Put.{PutKept}
use Rattle.rules.proofs.invariant.Stages.{st_rest, st_heap_mark}
use Rattle.rules.proofs.invariant.Words.{Ok, Names, Clean}
use Rattle.rules.proofs.invariant.Sim.{Sim}
use Rattle.rules.proofs.invariant.Laws.{in_nonnull}
use Rattle.rules.proofs.invariant.Following.{follow_home}
use Rattle.rules.proofs.frames.Kept.{in_to}
use Rattle.rules.proofs.marking.Recolour.{recolour_frame, colour_new, colour_other}
use Rattle.rules.proofs.marking.Shade.{shade-is, greyed_kept, shade_sim}
use Rattle.rules.proofs.marking.Shading.{ShadeKeeps, keeps_none, keeps_shade, keeps_then}
use Rattle.rules.proofs.marking.Whites.{All, all_none, all_more, Whites, no_whites, one_white, Found, found, no_white}

-- ---- different white records, one after another

-- white records other than the one coloured stay white
whites-still : {M M' : Memory} {h v c : ℕ} {P : ℕ → Type 0} {vs : List ℕ} → PutKept M M' v colour_at c → All (λ u. u ≢ v) vs → Whites M h P vs → Whites M' h P vs
whites-still k all_none no_whites = no_whites
whites-still k (all_more d e) (one_white t c p a q) =
    one_white (in_to (recolour_frame k) t) (colour_other k t.start d ∙ c) p a (whites-still k e q)

-- each is marked then; as many entries more, in a list of the same length
record Greyed (K : ℕ → Type 0) (m : ℕ → ℕ) (s : Store) (f : Free) (vs : List ℕ) : Type 0 where
  pub sim : Sim K m (shade_all s vs) f
  pub keeps : ShadeKeeps s (shade_all s vs)
  pub tail : (shade_all s vs).list.tail ≡ s.list.tail + length vs
  pub marked : All (λ u. colour (shade_all s vs).memory u ≢ white) vs

shade-whites : {K : ℕ → Type 0} {m : ℕ → ℕ} (vs : List ℕ) {s : Store} {f : Free} → Sim K m s f → st_rest < stage s.phase → stage s.phase ≤ st_heap_mark
    → Whites s.memory s.current (λ v. K (m v)) vs → Greyed K m s f vs
shade-whites [] h lo hi w = record { sim = h; keeps = keeps_none h.filled; tail = omega arith; marked = all_none }
shade-whites {K} {m} (v ∷ vs) {s} {f} h lo hi (one_white t c k a q) =
    let is = shade-is h lo hi t c in
    let p = greyed_kept h lo hi t c in
    let r : Greyed K m (shade s v) f vs = shade-whites vs (shade_sim h lo hi t c k) (rw is lo) (rw is hi) (rw is (whites-still p a q)) in
    let more : (shade s v).list.tail ≡ s.list.tail + 1 = rw is in
    let grey : colour (shade s v).memory v ≢ white = rw (is, colour_new p) (omega arith) in
    record {
      sim = r.sim;
      keeps = keeps_then (keeps_shade h lo hi t c) r.keeps;
      tail = omega (arith, r.tail, more);
      marked = all_more {v = v} (rw (r.keeps.other v (rw is (in_to (recolour_frame p) t)) grey) grey) r.marked;
    }

-- ---- the rule

-- shading us passes its tests and shades `them`, the white ones among us; all of us are clean then
pub record ShadedAll (K : ℕ → Type 0) (m : ℕ → ℕ) (s : Store) (f : Free) (us : List ℕ) : Type 0 where
  pub them : List ℕ
  pub passes : shading_all (heap_of s) us ≡ passed them
  pub few : length them ≤ length us
  pub sim : Sim K m (shade_all s them) f
  pub keeps : ShadeKeeps s (shade_all s them)
  pub clean : (k : ℕ) → Clean (shade_all s them).memory s.current (get_or us k null)

module _ {K : ℕ → Type 0} {m : ℕ → ℕ} {s : Store} {f : Free} {us : List ℕ} (h : Sim K m s f)
    (ok : (k : ℕ) → Ok s.memory (get_or us k null)) (side : (k : ℕ) → Names s.current (get_or us k null)) where
  -- there is room for as many entries more as the list has then
  shaded-all : (z : Found s.memory s.current (λ v. K (m v)) us) → Greyed K m s f z.them → ShadedAll K m s f us
  unfolding shading_all listing list_room
  shaded-all z g =
      let room : s.list.tail + length z.them ≤ length s.list.words =
      omega (arith, g.sim.range.ends, g.tail, ap (λ x. x.list) g.keeps.lengths, h.range.lent2) in
      record {
        them = z.them;
        passes = rw (z.passes, le-leb (s.list.tail + length z.them) (length s.list.words) room);
        few = z.few;
        sim = g.sim;
        keeps = g.keeps;
        clean = z.clean (shade_all s z.them).memory (g.keeps.clean s.current) g.marked;
      }

  -- from PreMark1 to HeapMark, words that are kept alive
  pub shading_all_marks : st_rest < stage s.phase → stage s.phase ≤ st_heap_mark
      → ((k : ℕ) → get_or us k null ≢ null → K (m (get_or us k null))) → ShadedAll K m s f us
  shading_all_marks lo hi k =
      let z = found (λ v. follow_home h) us ok side (λ i t c. k i (in_nonnull t)) in
      shaded-all z (shade-whites z.them h lo hi z.whites)

  -- words that name no white record, in every phase: nothing is shaded
  pub shading_all_clean : ((k : ℕ) → Clean s.memory s.current (get_or us k null)) → ShadedAll K m s f us
  unfolding shading_all listing list_room
  shading_all_clean c =
      let z : Found s.memory s.current (λ v. ⊥) us = found (λ v. follow_home h) us ok side (λ i t e. c i (in_nonnull t) t.side e) in
      record {
        them = [];
        passes = rw (z.passes, no_white z.whites, le-leb (s.list.tail + 0) (length s.list.words) (omega (arith, h.range.ends, h.range.lent2)));
        few = omega arith;
        sim = h;
        keeps = keeps_none h.filled;
        clean = c;
      }
