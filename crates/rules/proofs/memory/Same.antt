-- A half whose records stay where they are while the memory changes: its starts and walks stay.
use Prim.Native.Nat.{ℕ}
use mathlib.Core.Path.{◌≡◌}
use Rattle.rules.specs.Memory.{Memory, half, frontier, half_of}
use Rattle.rules.proofs.memory.Chain.{pos}
use Rattle.rules.proofs.memory.Records.{Start}
use Rattle.rules.proofs.memory.Walk.{Walk}

-- the records of half h are at the same places in M' as in M
pub record SameStarts (M M' : Memory) (h : ℕ) : Type 0 where
  pub chain : (n : ℕ) → pos (half M' h) n ≡ pos (half M h) n
  pub front : frontier M' h ≡ frontier M h

pub start_kept : {M M' : Memory} {v : ℕ} → SameStarts M M' (half_of v) → Start M v → Start M' v
start_kept e s = record {
  num = s.num;
  named = s.named;
  place = rw (e.chain s.num) s.place;
  below = rw e.front s.below;
}

pub start_back : {M M' : Memory} {v : ℕ} → SameStarts M M' (half_of v) → Start M' v → Start M v
start_back e s = record {
  num = s.num;
  named = s.named;
  place = rw (e.chain s.num) at s.place;
  below = rw e.front at s.below;
}

pub walk_kept : {M M' : Memory} {h k : ℕ} → SameStarts M M' h → Walk M h k → Walk M' h k
walk_kept e w = record { num = w.num; place = rw (e.chain w.num) w.place; within = rw e.front w.within }
