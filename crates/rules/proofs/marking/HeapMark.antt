-- HeapMark: the oldest unfinished record, then the lowest unscanned session; with neither left it moves on.
use Prim.Native.Nat.{ℕ, ◌≤◌, ◌<◌}
use mathlib.Core.Path.{◌≡◌, refl}
use native.Mathlib.Omega.{arith}
use lib.ListN.{length}
use borrow.Author.Tests.{lt-ltb, le-ltb}
use Rattle.rules.specs.Control.{Store}
use Rattle.rules.specs.Cycle.{stage}
use Rattle.rules.specs.Phases.{lowest_unmarked, move_on}
use Rattle.rules.specs.Collector.{heap_mark}
use Rattle.rules.specs.Free.{Free}
use Rattle.rules.proofs.memory.Cases.{lt_or}
use Rattle.rules.proofs.invariant.Stages.{st_heap_mark}
use Rattle.rules.proofs.invariant.Sim.{Sim}
use Rattle.rules.proofs.invariant.Spending.{spends_marked}
use Rattle.rules.proofs.relation.Stepped.{Stepped, stepped_same}
use Rattle.rules.proofs.phases.Sessions.{lowest}
use Rattle.rules.proofs.phases.Moves.{heap_mark_moves}
use Rattle.rules.proofs.marking.ScanRecord.{scan_record-stepped}
use Rattle.rules.proofs.marking.ScanSession.{scan_session-stepped}

module _ {K : ℕ → Type 0} {m : ℕ → ℕ} {s : Store} {f : Free} (h : Sim K m s f) (is : stage s.phase ≡ st_heap_mark) where
  entry-left : s.list.head < s.list.tail → Stepped K m s f (heap_mark s)
  unfolding heap_mark
  entry-left l = rw (lt-ltb s.list.head s.list.tail l) (scan_record-stepped h is l)

  session-left : s.list.tail ≤ s.list.head → lowest_unmarked s.sessions < length s.sessions → Stepped K m s f (heap_mark s)
  unfolding heap_mark
  session-left l n = rw (le-ltb s.list.head s.list.tail l, lt-ltb (lowest_unmarked s.sessions) (length s.sessions) n)
      (scan_session-stepped h is (lowest_unmarked s.sessions) (omega (arith, h.roots.sessions)) (lowest s.sessions n).1)

  nothing_left : s.list.tail ≤ s.list.head → length s.sessions ≤ lowest_unmarked s.sessions → Stepped K m s f (heap_mark s)
  unfolding heap_mark move_on
  nothing_left l n = stepped_same {s' = move_on s}
      (rw (le-ltb s.list.head s.list.tail l, le-ltb (lowest_unmarked s.sessions) (length s.sessions) n))
      (heap_mark_moves h is (omega (arith, h.range.begins)) n) refl (spends_marked h is (omega (arith, h.range.begins)))

  pub heap_mark-stepped : Stepped K m s f (heap_mark s)
  heap_mark-stepped = lt_or s.list.head s.list.tail entry-left
      (λ l. lt_or (lowest_unmarked s.sessions) (length s.sessions) (session-left l) (nothing_left l))
