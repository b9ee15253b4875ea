-- The walk of the Allocate phase goes on past a record that needs no shell.
use Prim.Native.Nat.{ℕ, ◌+◌, ◌<◌, zero-le}
use mathlib.Core.Path.{◌≡◌}
use mathlib.Core.Logic.{◌≢◌}
use native.Mathlib.Omega.{arith}
use Rattle.rules.specs.Memory.{frontier, null, white, colour, replica, size}
use Rattle.rules.specs.Control.{Store, with_walk}
use Rattle.rules.specs.Cycle.{stage}
use Rattle.rules.specs.Collector.{walked}
use Rattle.rules.specs.Free.{Free}
use Rattle.rules.proofs.memory.Cases.{either}
use Rattle.rules.proofs.memory.Walk.{walk_split}
use Rattle.rules.proofs.invariant.Stages.{st_allocate}
use Rattle.rules.proofs.invariant.Sim.{Sim}
use Rattle.rules.proofs.invariant.Laws.{cur_two}
use Rattle.rules.proofs.invariant.Idle.{agreement_early}
use Rattle.rules.proofs.invariant.Walked.{walked_next, walked_limit, walk_sim}

module _ {K : ℕ → Type 0} {m : ℕ → ℕ} {s : Store} {f : Free} (h : Sim K m s f) (at_allocate : stage s.phase ≡ st_allocate)
    (under : s.walk.place < frontier s.memory s.current) where
  pub walks_on : (colour s.memory (walked s) ≢ white → replica s.memory (walked s) ≢ null)
      → (k : ℕ) → k ≡ s.walk.place + size s.memory (walked s) → Sim K m (with_walk s k 0) f
  unfolding walked
  walks_on shelled k e = walk_sim h (record {
    places = rw e (walked_limit h (h.walking.at_allocate at_allocate) under (omega arith) (omega arith));
    fields = zero-le;
    globals-below = λ a. absurd (omega arith);
    scanning = λ a. absurd (omega arith);
    scanned-within = λ a. absurd (omega arith);
    covered = λ a. absurd (omega arith);
    shelled_below = λ a v t l d.
        either (walk_split (cur_two h) (h.walking.at_allocate at_allocate) t.start t.side (rw e at l))
        (λ l'. h.colours.shelled_below a v t l' d)
        (λ o. rw o (shelled (rw o at d)));
    agreement = agreement_early (omega arith);
    flipping = λ a. absurd (omega arith);
    walking = record {
      at_allocate = λ a. rw e (walked_next h (h.walking.at_allocate at_allocate) under);
      at_copy = λ a. absurd (omega arith);
      at_reclaim = λ a. absurd (omega arith);
      field-heap_mark = λ a. absurd (omega arith);
      field_copy = λ a. absurd (omega arith);
      field-copy-end = λ a. absurd (omega arith);
      cleared = λ a. absurd (omega arith);
    };
  })
