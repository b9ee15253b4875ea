-- The last tests of an allocation, and what its functions ask of their callers; the tests 4, 10, 14 and 16 give it.
use Rattle.std.specs.Prelude.{ℕ, ◌+◌, ◌≤◌, ◌<◌, ◌≡◌, true, List, length}
use Rattle.rules.specs.Refusals.{Tested, check, ◌>>◌}
use Rattle.rules.specs.Control.{Store, most_length, most_births}
use Rattle.rules.specs.Memory.{half, frontier, header, most_count}
use Rattle.rules.specs.Barriers.{allocation_room}
use Rattle.rules.specs.Calls.{within_share, number_left}
use Rattle.rules.specs.declared.Session.{Session}
use Rattle.heap.specs.View.{memory}
use Rattle.store.specs.View.{view}
use Rattle.store.specs.declared.Control.{Control}

-- the halves are those at making
pub record Fits (c : Control) (h0 h1 : List ℕ) : Type 0 where
  pub low : c.length0 ≡ length h0
  pub high : c.length0 ≡ length h1

-- the current half, the frontiers and the counts are in range
pub record Small (c : Control) (r p : ℕ) : Type 0 where
  pub half : c.cursor.current ≤ 1
  pub low : c.cursor.frontier0 ≤ most_length
  pub high : c.cursor.frontier1 ≤ most_length
  pub refs : r ≤ most_count
  pub plains : p ≤ most_count

-- 17, 14, 16: the last tests of an allocation by session x
abbrev pub last_tests : Store → Session → ℕ → ℕ → Tested (Unit {0})
last_tests s x r p = do
  check (within_share x r p) 17
  check (allocation_room s x.level r p) 14
  check (number_left s.births) 16

-- half h has room above its frontier
pub record Room (c : Control) (h0 h1 : List ℕ) (h r p : ℕ) : Type 0 where
  pub above : frontier (memory h0 h1 c.cursor.frontier0 c.cursor.frontier1) h + (r + p + header) ≤ length (half (memory h0 h1 c.cursor.frontier0 c.cursor.frontier1) h)
  pub short : frontier (memory h0 h1 c.cursor.frontier0 c.cursor.frontier1) h ≤ most_length
  pub refs : r ≤ most_count
  pub plains : p ≤ most_count

-- the halves that an allocation at level l writes have room, and a birth number is left
pub record Allocatable (c : Control) (h0 h1 : List ℕ) (l r p : ℕ) : Type 0 where
  pub small : Small c r p
  pub left : c.births < most_births
  pub room : (g : List ℕ) → allocation_room (view c h0 h1 g) l r p ≡ true
