use mathlib.Core.Path.{◌≡◌}
use lib.ListN.{drop}
use Rattle.heap.specs.Pending.{seen}
use Rattle.heap.proofs.pending.seen_word.Given as goal

abbrev pub invariant-loop-p : goal.invariant-loop-p
invariant-loop-p l = seen l.h l.pending l.at l.x ≡ seen l.h (drop l.p-index l.pending) l.at l.word
