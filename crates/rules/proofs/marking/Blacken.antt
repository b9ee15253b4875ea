-- HeapMark, a listed record with all its fields passed: it becomes black, and the list goes on.
use Prim.Native.Nat.{ℕ, ◌+◌, ◌≤◌, ◌<◌}
use mathlib.Core.Path.{◌≡◌, refl}
use mathlib.Core.Logic.{◌≢◌}
use native.Mathlib.Nat.{le_refl}
use native.Mathlib.Omega.{arith}
use lib.ListN.{get_or}
use Rattle.rules.specs.Memory.{null, white, black, colour_at, colour, refs, put}
use Rattle.rules.specs.Control.{Store, with_memory, with_walk, with_list}
use Rattle.rules.specs.Cycle.{stage}
use Rattle.rules.specs.Phases.{session_at}
use Rattle.rules.specs.Free.{Free}
use Rattle.rules.proofs.memory.Put.{PutKept, put-colour}
use Rattle.rules.proofs.invariant.Stages.{st_rest, st_heap_mark}
use Rattle.rules.proofs.invariant.Words.{In}
use Rattle.rules.proofs.invariant.Sim.{Sim}
use Rattle.rules.proofs.invariant.Spending.{Spends}
use Rattle.rules.proofs.invariant.Laws.{cur_two}
use Rattle.rules.proofs.invariant.Idle.{agreement_early, walking_early}
use Rattle.rules.proofs.invariant.Range.{range_with}
use Rattle.rules.proofs.frames.Whole.{colour_changed}
use Rattle.rules.proofs.frames.Spent.{black_spends}
use Rattle.rules.proofs.marking.Recolour.{recolour_frame, colour_new}
use Rattle.rules.proofs.marking.Recoloured.{colours_recoloured, kept_recoloured}
use Rattle.rules.proofs.marking.BlackList.{black-list, black_cleaned}

-- the oldest unfinished entry
abbrev pub oldest : Store → ℕ
oldest s = get_or s.list.words s.list.head null

abbrev pub blackened : Store → Store
blackened s =
    with_walk (with_list (with_memory s (put s.memory (oldest s) colour_at black)) s.list.words (s.list.head + 1) s.list.tail) s.walk.place 0

module _ {K : ℕ → Type 0} {m : ℕ → ℕ} {s : Store} {f : Free} (h : Sim K m s f) (is : stage s.phase ≡ st_heap_mark) (more : s.list.head < s.list.tail) where
  pub oldest_in : In s.memory s.current (oldest s)
  oldest_in = h.grey-list.listed (omega arith) (omega arith) s.list.head more

  pub oldest_marked : colour s.memory (oldest s) ≢ white
  oldest_marked = omega (arith, h.grey-list.unfinished (omega arith) (omega arith) s.list.head (omega arith) more)

  pub blacken_kept : PutKept s.memory (put s.memory (oldest s) colour_at black) (oldest s) colour_at black
  blacken_kept = put-colour h.filled oldest_in.start black (omega arith)

  pub blacken_sim : refs s.memory (oldest s) ≤ s.walk.field → Sim K m (blackened s) f
  unfolding session_at
  blacken_sim all =
      let p = blacken_kept in
      let g = colour_changed h (recolour_frame p) (λ u j q. q.1) in
      let r = g.range in
      let lo : st_rest < stage s.phase = omega arith in
      let hi : stage s.phase ≤ st_heap_mark = omega arith in
      let two = cur_two h in
      let t = oldest_in in
      record {
        range = range_with r r.places (omega arith) refl (omega arith) (omega (arith, r.ends, r.lent2)) r.levels;
        filled = g.filled;
        births = h.births;
        identity = g.identity;
        values = g.values;
        roots = g.roots;
        levels = h.levels;
        root_halves = h.root_halves;
        field_halves = g.field_halves;
        pairs = g.pairs;
        agreement = agreement_early (omega arith);
        colours = colours_recoloured p lo hi two t (omega arith) (λ e. absurd (omega arith)) h.colours;
        grey-list = black-list p is two h.grey-list more;
        cleaned = black_cleaned p is two h.grey-list more h.values.ok h.roots.global_ok h.roots.reg_ok all h.cleaned;
        walking = walking_early hi (λ a b. refl);
        kept = kept_recoloured p lo hi two t (omega arith) (h.kept.marked lo (omega arith) (oldest s) t oldest_marked) h.kept;
      }

  -- the steps on its fields, and this one
  pub blacken_spends : Spends s (blackened s)
  blacken_spends = black_spends {t = blackened s} h.range (cur_two h) is (recolour_frame blacken_kept) refl refl oldest_in
      (omega (arith, h.grey-list.unfinished (omega arith) (omega arith) s.list.head (omega arith) more)) (colour_new blacken_kept)
      (h.cleaned.scanned-within is more) (le_refl _)
