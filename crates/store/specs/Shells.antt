-- What making a shell asks for.
use Rattle.std.specs.Prelude.{ℕ, ◌+◌, ◌≤◌, ◌≡◌, List, length}
use Rattle.rules.specs.Control.{most_length}
use Rattle.rules.specs.Memory.{half, shape_at, replica_at, birth_at, refs, plains, header}
use Rattle.heap.specs.View.{memory, Inside}

-- a record v of n fields, and room for its shell at a word of the other half
pub record Shelled (h0 h1 : List ℕ) (other at v n : ℕ) : Type 0 where
  pub shape : Inside h0 h1 v shape_at
  pub replica : Inside h0 h1 v replica_at
  pub birth : Inside h0 h1 v birth_at
  pub fields : n ≡ refs (memory h0 h1 0 0) v + plains (memory h0 h1 0 0) v
  pub side : other ≤ 1
  pub few : at ≤ most_length
  pub room : at + (n + header) ≤ length (half (memory h0 h1 0 0) other)
