-- Shading a white record of the current half from PreMark1 to HeapMark.
use Prim.Native.Nat.{ℕ, ◌+◌, ◌≤◌, ◌<◌}
use mathlib.Core.Path.{◌≡◌}
use native.Mathlib.Omega.{arith}
use lib.ListN.{length, length-set}
use borrow.Author.Tests.{ne_eqb}
use Rattle.rules.specs.Memory.{null, white, grey, colour_at, colour}
use Rattle.rules.specs.Control.{Store}
use Rattle.rules.specs.Cycle.{stage}
use Rattle.rules.specs.Phases.{session_at}
use Rattle.rules.specs.Barriers.{shade}
use Rattle.rules.specs.Free.{Free}
use Rattle.rules.proofs.Shaded.{greyed, shaded}
use Rattle.rules.proofs.memory.Put.{PutKept, put-colour}
use Rattle.rules.proofs.memory.Total.{total_room, total_count}
use Rattle.rules.proofs.invariant.Stages.{st_rest, st_heap_mark}
use Rattle.rules.proofs.invariant.Words.{In, marks}
use Rattle.rules.proofs.invariant.Sim.{Sim}
use Rattle.rules.proofs.invariant.Laws.{cur_two, in_nonnull}
use Rattle.rules.proofs.invariant.Idle.{walking_early}
use Rattle.rules.proofs.invariant.Range.{frontier_range, range_with}
use Rattle.rules.proofs.invariant.Counted.{marks_none, marks_most}
use Rattle.rules.proofs.frames.Frame.{Frame, One}
use Rattle.rules.proofs.frames.Whole.{colour_changed}
use Rattle.rules.proofs.marking.Recolour.{recolour_frame}
use Rattle.rules.proofs.marking.Recoloured.{colours_recoloured, kept_recoloured}
use Rattle.rules.proofs.marking.ShadeList.{shade-list, shade_cleaned}

-- ---- the list has room for a white record

module _ {K : ℕ → Type 0} {m : ℕ → ℕ} {s : Store} {f : Free} (h : Sim K m s f) (lo : st_rest < stage s.phase) (hi : stage s.phase ≤ st_heap_mark)
    {v : ℕ} (t : In s.memory s.current v) (e : colour s.memory v ≡ white) where
  -- fewer records are marked than there are, and each takes a header at least
  pub shade-room : s.list.tail + 1 ≤ length s.list.words
  shade-room =
      let M = s.memory in
      let two = cur_two h in
      let fewer = total_room M two (marks M) (λ u. 1) t.start t.side 1 (omega (arith, marks_none M v e)) (λ u j side. marks_most M u) in
      omega (arith, h.grey-list.room lo hi, fewer, total_count h.filled two, frontier_range h.range s.current, h.range.enough, h.range.lent2)

  pub greyed_kept : PutKept s.memory (greyed s v) v colour_at grey
  greyed_kept = put-colour h.filled t.start grey (omega arith)

  pub shade-is : shade s v ≡ shaded s v
  unfolding shade
  shade-is = rw (ne_eqb v null (in_nonnull t))

  pub greyed_frame : Frame s.memory (greyed s v) (One v colour_at)
  greyed_frame = recolour_frame greyed_kept

  shaded_sim : K (m v) → Sim K m (shaded s v) f
  unfolding session_at
  shaded_sim k =
      let p = greyed_kept in
      let g = colour_changed h greyed_frame (λ u j q. q.1) in
      let r = g.range in
      record {
        range = range_with r r.places r.fields (length-set s.list.words s.list.tail v) (omega (arith, r.begins)) shade-room
            r.levels;
        filled = g.filled;
        births = h.births;
        identity = g.identity;
        values = g.values;
        roots = g.roots;
        levels = h.levels;
        root_halves = h.root_halves;
        field_halves = g.field_halves;
        pairs = g.pairs;
        agreement = g.agreement;
        colours = colours_recoloured p lo hi (cur_two h) t (omega arith) (λ z. omega arith) h.colours;
        grey-list = shade-list p lo hi (cur_two h) t e h.grey-list h.range.begins (omega (arith, shade-room));
        cleaned = shade_cleaned p lo hi (cur_two h) t e h.grey-list h.range.begins (omega (arith, shade-room))
            h.values.ok h.roots.global_ok h.walking.field-heap_mark h.roots.reg_ok h.cleaned;
        walking = walking_early hi (λ a b. absurd (omega (arith, r.begins)));
        kept = kept_recoloured p lo hi (cur_two h) t (omega arith) k h.kept;
      }

  pub shade_sim : K (m v) → Sim K m (shade s v) f
  shade_sim k = rw shade-is (shaded_sim k)
