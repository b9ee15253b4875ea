use mathlib.Core.Path.{◌≡◌}
use lib.ListN.{drop}
use Rattle.heap.specs.Pending.{laid}
use Rattle.heap.proofs.pending.lay.Given as goal

abbrev pub invariant-loop-p : goal.invariant-loop-p
invariant-loop-p l = laid l.h l.pending l.initial.half ≡ laid l.h (drop l.p-index l.pending) l.half
