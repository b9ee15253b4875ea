-- Shading by the rule: what it gives, and that it keeps the invariant.
use Prim.Native.Nat.{ℕ, ◌+◌, ◌≤◌, ◌<◌}
use mathlib.Core.Path.{◌≡◌, refl, ◌∙◌}
use mathlib.Core.Logic.{◌≢◌}
use native.Mathlib.Nat.{le_refl}
use native.Mathlib.Omega.{arith}
use lib.ListN.{get_or, length}
use lib.Seq.{get_or-set_other}
use borrow.Author.Tests.{ne_eqb, le-leb}
use Rattle.rules.specs.Refusals.{passed}
use Rattle.rules.specs.Memory.{Memory, null, frontier, white, grey, colour_at, colour}
use Rattle.rules.specs.Control.{Store}
use Rattle.rules.specs.Cycle.{stage}
use Rattle.rules.specs.Barriers.{heap_of, to_shade, list_room, shading, shade, shade_both}
use Rattle.rules.specs.Free.{Free}
use Rattle.rules.specs.declared.Writes.{Writes}
use Rattle.rules.proofs.Shaded.{greyed, shaded, shade_either}
use Rattle.rules.proofs.memory.Cases.{eq_or, either}
use Rattle.rules.proofs.memory.Records.{Filled, start_nonnull}
use Rattle.rules.proofs.memory.Put.{PutKept, frontier-put}
use Rattle.rules.proofs.invariant.Stages.{st_rest, st_heap_mark}
use Rattle.rules.proofs.invariant.Words.{In, Ok, ok_null, ok_start, Names, Clean}
use Rattle.rules.proofs.invariant.Sim.{Sim}
use Rattle.rules.proofs.invariant.Spent.{Grows}
use Rattle.rules.proofs.invariant.Laws.{in_half_lem}
use Rattle.rules.proofs.invariant.Following.{Followable, followed_start, follow_home}
use Rattle.rules.proofs.frames.Frame.{Frame}
use Rattle.rules.proofs.frames.Change.{frame_none, frame_then, frame_wider}
use Rattle.rules.proofs.frames.Kept.{in_to, ok_to}
use Rattle.rules.proofs.frames.Spent.{frame_grows}
use Rattle.rules.proofs.marking.Recolour.{colour_new, colour_other, clean_still}
use Rattle.rules.proofs.marking.Shade.{shade-is, greyed_kept, greyed_frame, shade-room, shade_sim}

-- a store after shading differs from s in colours and the list alone
pub record ShadeKeeps (s t : Store) : Type 0 where
  pub frame : Frame s.memory t.memory (λ v j. j ≡ colour_at)
  pub lengths : t.lengths ≡ s.lengths
  pub current : t.current ≡ s.current
  pub phase : t.phase ≡ s.phase
  pub walk : t.walk ≡ s.walk
  pub globals : t.globals ≡ s.globals
  pub sessions : t.sessions ≡ s.sessions
  pub head : t.list.head ≡ s.list.head
  pub grows : s.list.tail ≤ t.list.tail
  pub entries : (i : ℕ) → i < s.list.tail → get_or t.list.words i null ≡ get_or s.list.words i null
  -- what names no white record still names none; what is marked keeps its colour
  pub clean : (h u : ℕ) → Ok s.memory u → Clean s.memory h u → Clean t.memory h u
  pub other : (u : ℕ) → In s.memory s.current u → colour s.memory u ≢ white → colour t.memory u ≡ colour s.memory u

-- shading v by the rule passes its tests and shades `it`, which is v or null; v is clean then
pub record Shaded (K : ℕ → Type 0) (m : ℕ → ℕ) (s : Store) (f : Free) (v : ℕ) : Type 0 where
  pub it : ℕ
  pub passes : shading (heap_of s) v ≡ passed it
  pub sim : Sim K m (shade s it) f
  pub keeps : ShadeKeeps s (shade s it)
  pub clean : Clean (shade s it).memory s.current v

-- ---- what shading keeps

-- the frontiers, whatever is shaded
shade-front : (s : Store) (w g : ℕ) → frontier (shade s w).memory g ≡ frontier s.memory g
shade-front s w g = shade_either (λ t. frontier t.memory g ≡ frontier s.memory g) s w refl (frontier-put s.memory w colour_at grey g)

pub shade_both-front : (s : Store) (w : Writes) (g : ℕ) → frontier (shade_both s w).memory g ≡ frontier s.memory g
unfolding shade_both
shade_both-front s w g = shade-front (shade s w.first) w.second g ∙ shade-front s w.first g

-- nothing shaded
pub keeps_none : {s : Store} → Filled s.memory → ShadeKeeps s s
keeps_none f = record {
  frame = frame_wider (frame_none f) (λ v j q. absurd q) (λ v e. omega arith);
  lengths = refl;
  current = refl;
  phase = refl;
  walk = refl;
  globals = refl;
  sessions = refl;
  head = refl;
  grows = omega arith;
  entries = λ i l. refl;
  clean = λ h u ok c. c;
  other = λ u t c. refl;
}

-- a white record shaded
pub keeps_shade : {K : ℕ → Type 0} {m : ℕ → ℕ} {s : Store} {f : Free} {v : ℕ} → Sim K m s f → st_rest < stage s.phase → stage s.phase ≤ st_heap_mark
    → In s.memory s.current v → colour s.memory v ≡ white → ShadeKeeps s (shade s v)
keeps_shade {s = s} {v = v} h lo hi t e = record {
  frame = rw is (frame_wider (greyed_frame h lo hi t e) (λ a j q. q.1) (λ a q. omega arith));
  lengths = rw is;
  current = rw is;
  phase = rw is;
  walk = rw is;
  globals = rw is;
  sessions = rw is;
  head = rw is;
  grows = rw is (omega arith);
  entries = λ i l. rw is (get_or-set_other s.list.words s.list.tail i v null (omega arith));
  clean = λ g u ok c. rw is (clean_still p (omega arith) ok c);
  other = λ u i c. rw is (colour_other p i.start (λ o. c (rw o e)));
}
  where
    is : shade s v ≡ shaded s v
    is = shade-is h lo hi t e

    p : PutKept s.memory (greyed s v) v colour_at grey
    p = greyed_kept h lo hi t e

-- one record after another
pub keeps_then : {s t u : Store} → ShadeKeeps s t → ShadeKeeps t u → ShadeKeeps s u
keeps_then {s} {t} {u} a b = record {
  frame = frame_wider (frame_then a.frame b.frame) (λ v j q. either q (λ e. e) (λ e. e)) (λ v e. omega arith);
  lengths = b.lengths ∙ a.lengths;
  current = b.current ∙ a.current;
  phase = b.phase ∙ a.phase;
  walk = b.walk ∙ a.walk;
  globals = b.globals ∙ a.globals;
  sessions = b.sessions ∙ a.sessions;
  head = b.head ∙ a.head;
  grows = omega (arith, a.grows, b.grows);
  entries = λ i l. b.entries i (omega (arith, a.grows)) ∙ a.entries i l;
  clean = λ h v ok c. b.clean h v (ok_to a.frame ok) (a.clean h v ok c);
  other = λ v i c. let e = a.other v i c in b.other v (rw a.current (in_to a.frame i)) (rw e c) ∙ e;
}

-- what is counted of marking: no black record changes its colour, and no mark goes
pub keeps_grows : {s t : Store} → s.current < 2 → ShadeKeeps s t → Grows s t
keeps_grows two k = frame_grows two k.frame k.phase k.current
    (λ v t e. k.other v t (λ w. omega arith) ∙ e) (λ a. rw (k.walk, k.sessions) (le_refl _))

-- ---- what is to be shaded

to_shade-null : (M : Memory) → to_shade M null ≡ passed null
unfolding to_shade
to_shade-null M = refl

pub to_shade-white : {M : Memory} {v : ℕ} → Followable M v → colour M v ≡ white → to_shade M v ≡ passed v
unfolding to_shade
to_shade-white {M} {v} t e = rw (ne_eqb v null (start_nonnull t.start), followed_start t, e)

to_shade_marked : {M : Memory} {v : ℕ} → Followable M v → colour M v ≢ white → to_shade M v ≡ passed null
unfolding to_shade
to_shade_marked {M} {v} t d = rw (ne_eqb v null (start_nonnull t.start), followed_start t, ne_eqb (colour M v) white d)

pub to_shade_clean : {M : Memory} {h v : ℕ} → Ok M v → Names h v → (In M h v → Followable M v) → Clean M h v → to_shade M v ≡ passed null
to_shade_clean {M} (ok_null e) side f c = rw e (to_shade-null M)
to_shade_clean (ok_start t) side f c =
    let n = start_nonnull t in to_shade_marked (f (record { start = t; side = side n })) (c n (side n))

-- ---- the rule
module _ {K : ℕ → Type 0} {m : ℕ → ℕ} {s : Store} {f : Free} {v : ℕ} (h : Sim K m s f) where
  -- a word that names no white record, in every phase: nothing is shaded
  shading_clean : Ok s.memory v → Names s.current v → Clean s.memory s.current v → Shaded K m s f v
  unfolding shading list_room shade
  shading_clean ok side c = record {
    it = null;
    passes = rw (to_shade_clean ok side (follow_home h) c, le-leb (s.list.tail + 0) (length s.list.words) (omega (arith, h.range.ends, h.range.lent2)));
    sim = h;
    keeps = keeps_none h.filled;
    clean = c;
  }

  -- a white record: there is room for it
  shading-white : st_rest < stage s.phase → stage s.phase ≤ st_heap_mark → In s.memory s.current v → colour s.memory v ≡ white → shading (heap_of s) v ≡ passed v
  unfolding shading list_room
  shading-white lo hi t e =
      rw (to_shade-white (follow_home h t) e, ne_eqb v null (start_nonnull t.start), le-leb (s.list.tail + 1) (length s.list.words) (shade-room h lo hi t e))

  -- from PreMark1 to HeapMark, a word that is kept alive
  pub shading_marks : st_rest < stage s.phase → stage s.phase ≤ st_heap_mark → Ok s.memory v → Names s.current v → (v ≢ null → K (m v)) → Shaded K m s f v
  shading_marks lo hi ok side k = eq_or v null
      (λ e. shading_clean ok side (λ n. absurd (n e)))
      (λ n. eq_or (colour s.memory v) white
      (λ e. white_record (in_half_lem ok n side) e n)
      (λ c. shading_clean ok side (λ x y. c)))
    where
      white_record : In s.memory s.current v → colour s.memory v ≡ white → v ≢ null → Shaded K m s f v
      white_record t e n = record {
        it = v;
        passes = shading-white lo hi t e;
        sim = shade_sim h lo hi t e (k n);
        keeps = keeps_shade h lo hi t e;
        clean = λ x y. rw (shade-is h lo hi t e, colour_new (greyed_kept h lo hi t e)) (omega arith);
      }
