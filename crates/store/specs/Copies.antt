-- Copying the fields of a record to its replica.
use Rattle.std.specs.Prelude.{ℕ, ◌+◌, ◌<◌, ◌≡◌, true, cond, List, ltb}
use Rattle.rules.specs.Refusals.{Tested, passed}
use Rattle.rules.specs.Memory.{null, refs, plains, replica, followable, forward}
use Rattle.rules.specs.Control.{Store}
use Rattle.rules.specs.Phases.{tospace}
use Rattle.heap.specs.View.{memory}
use Rattle.store.specs.Cursors.{Ready}
use Rattle.store.specs.declared.Cursor.{Cursor}

-- the word that a replica gets for x, the field at the walk field of a record of r reference fields
abbrev pub copied_word : Store → ℕ → ℕ → Tested ℕ
copied_word s r x = cond (ltb s.walk.field r) (forward s.memory (tospace s) x) (passed x)

-- a record of r reference fields that was followed and has a field left, and its replica
pub record Copying (c : Cursor) (h0 h1 : List ℕ) (v t r : ℕ) : Type 0 where
  pub ranges : Ready c h0 h1
  pub here : followable (memory h0 h1 c.frontier0 c.frontier1) v ≡ true
  pub replica : t ≡ replica (memory h0 h1 c.frontier0 c.frontier1) v
  pub paired : t ≡ null → ⊥
  pub count : r ≡ refs (memory h0 h1 c.frontier0 c.frontier1) v
  pub left : c.field < r + plains (memory h0 h1 c.frontier0 c.frontier1) v
