-- The tests of a call look at how long halves and list are, not at their words: so they are the same with pending words written.
use Prim.Native.Nat.{ℕ}
use mathlib.Core.Path.{◌≡◌}
use mathlib.Core.List.{List}
use Rattle.rules.specs.Control.{in_range}
use Rattle.rules.specs.Phases.{session_at}
use Rattle.rules.specs.Calls.{session_of, operands_of}
use Rattle.heap.specs.declared.halves.Pending.{Pending}
use Rattle.heap.proofs.Laid.{laid-length}
use Rattle.store.specs.View.{view, view_with}
use Rattle.store.specs.declared.Control.{Control}

pub operands_laid : (c : Control) (xs : List Pending) (h0 h1 l : List ℕ) (n k o : ℕ) → operands_of (view_with c xs h0 h1 l) n k o ≡ operands_of (view c h0 h1 l) n k o
unfolding operands_of session_of session_at in_range
operands_laid c xs h0 h1 l n k o = rw (laid-length 0 xs h0, laid-length 1 xs h1)
