-- RootMark and HeapMark: the walk goes on, past a global or past a field.
use Prim.Native.Nat.{ℕ, ◌+◌, ◌≤◌, ◌<◌}
use mathlib.Core.Path.{◌≡◌, refl, sym}
use native.Mathlib.Omega.{arith}
use lib.ListN.{get_or}
use Rattle.rules.specs.Memory.{null, refs, most_count}
use Rattle.rules.specs.Control.{Store, with_walk, walk_limit, global_count}
use Rattle.rules.specs.Cycle.{stage, at_root_mark}
use Rattle.rules.specs.Free.{Free}
use Rattle.rules.proofs.memory.Cases.{eq_or, lt_or}
use Rattle.rules.proofs.memory.Records.{start_refs}
use Rattle.rules.proofs.invariant.Stages.{st_root_mark, st_heap_mark, phase-is}
use Rattle.rules.proofs.invariant.Words.{Clean, field}
use Rattle.rules.proofs.invariant.Protected.{scan, scan_of, Carries, clean_covered, entry_covers, white_covers}
use Rattle.rules.proofs.invariant.Sim.{Sim}
use Rattle.rules.proofs.invariant.Idle.{agreement_early, walking_early}
use Rattle.rules.proofs.invariant.Walked.{walk_sim}

module _ {K : ℕ → Type 0} {m : ℕ → ℕ} {s : Store} {f : Free} (h : Sim K m s f) where
  -- RootMark: the global at the walk place is clean
  pub past_global : stage s.phase ≡ st_root_mark → (k i : ℕ) → s.walk.place ≡ k → s.walk.field ≡ i → k < global_count
      → Clean s.memory s.current (get_or s.globals k null) → Sim K m (with_walk s (k + 1) i) f
  unfolding walk_limit
  past_global e k i a b l c = walk_sim h (record {
    places = rw (phase-is at_root_mark h.range.phases (omega arith) e) (omega arith);
    fields = omega (arith, h.range.fields);
    globals-below = λ z g o. lt_or g k
        (λ n. h.cleaned.globals-below e g (omega arith))
        (λ n. let j : g ≡ k = omega arith in rw j c);
    scanning = λ z. absurd (omega arith);
    scanned-within = λ z. absurd (omega arith);
    covered = λ z. absurd (omega arith);
    shelled_below = λ z. absurd (omega arith);
    agreement = agreement_early (omega arith);
    flipping = λ z. absurd (omega arith);
    walking = walking_early (omega arith) (λ z. absurd (omega arith));
  })

  -- HeapMark: the field at the walk field of the entry at the list's place is clean
  pub past_field : stage s.phase ≡ st_heap_mark → (k i v : ℕ) → s.walk.place ≡ k → s.walk.field ≡ i → s.list.head < s.list.tail
      → get_or s.list.words s.list.head null ≡ v → i < refs s.memory v
      → Clean s.memory s.current (field s.memory v i) → Sim K m (with_walk s k (i + 1)) f
  past_field e k i v a b l o n c = walk_sim h (record {
    places = rw (sym a) h.range.places;
    fields = let small : refs s.memory v ≤ most_count = rw o at (start_refs h.filled (h.grey-list.listed (omega arith) (omega arith) s.list.head l).start) in
        omega arith;
    globals-below = λ z. absurd (omega arith);
    scanning = λ z y j x. lt_or j i
        (λ n. h.cleaned.scanning e l j (omega arith))
        (λ n. let w : j ≡ i = omega arith in rw (w, o) c);
    scanned-within = λ z y. rw o (omega arith);
    covered = λ z. past;
    shelled_below = λ z. absurd (omega arith);
    agreement = agreement_early (omega arith);
    flipping = λ z. absurd (omega arith);
    walking = walking_early (omega arith) (λ z y. absurd (omega arith));
  })
    where
      -- nothing was protected by way of it
      past : Carries s.memory s.memory s.current (scan_of s) (scan s.list.words s.list.head s.list.tail (i + 1))
      past = record {
        entry = λ j x a. eq_or j s.list.head
            (λ y. eq_or x i
            (λ w. clean_covered (rw (y, o, w) c))
            (λ w. entry_covers j x refl (record { from = a.from; below = a.below; within = a.within; left = λ d. omega (arith, a.left d) })))
            (λ y. entry_covers j x refl (record { from = a.from; below = a.below; within = a.within; left = λ d. absurd (y d) }));
        link = λ u x t w b d. white_covers u x refl t w b d;
        whites = λ u t w. w;
      }
