-- Entries and their arguments as they are put into a buffer.
use Rattle.std.specs.Prelude.{ℕ, ◌+◌, ◌≤◌, List, length}
use Rattle.std.proofs.lemmas.List.Edits.{sets}
use Rattle.workload.specs.Load.{after, drawn_from, argument_bytes, draw, entry_bytes}
use Rattle.workload.specs.declared.entries.Class.{Class}
use Rattle.workload.specs.declared.entries.After.{After}

-- after something drawn was put into a buffer: the value after it, the buffer, and the place after its bytes
pub record Placed : Type 0 where
  pub next : ℕ
  pub out : List ℕ
  pub end : ℕ

-- what the code leaves
abbrev pub placed_by : After → List ℕ → Placed
placed_by a out = record { next = a.next; out = out; end = a.end }

-- the bytes of the arguments of these classes, drawn from the value x on
abbrev pub arguments_from : List Class → ℕ → List ℕ
arguments_from cs x = argument_bytes cs (drawn_from cs x)

-- they have room at a place
abbrev pub Room : List Class → ℕ → ℕ → List ℕ → Type 0
Room cs x at out = at + length (arguments_from cs x) ≤ length out

-- they are put there
unfoldable pub arguments_into : List Class → ℕ → ℕ → List ℕ → Placed
arguments_into cs x at out =
    record {
      next = after (length cs) x;
      out = sets out at (arguments_from cs x);
      end = at + length (arguments_from cs x);
    }

-- the entry drawn from the value x on is put there
unfoldable pub entry_into : ℕ → ℕ → List ℕ → Placed
entry_into x at out =
    record { next = (draw x).next; out = sets out at (entry_bytes (draw x)); end = at + length (entry_bytes (draw x)) }
