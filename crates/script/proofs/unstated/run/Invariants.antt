-- What is filled lies within the input buffer, the next entry begins in it, the output so far ends within the output, and all that was
-- written out before stands where it was written.
use Rattle.std.proofs.Common.{◌≤◌, length}
use Rattle.script.specs.Lines.{Grows}
use Rattle.script.proofs.unstated.run.Given as goal

abbrev pub invariant-loop : goal.invariant-loop
invariant-loop g l =
    record {
      filled : l.filled ≤ length l.input;
      begins : l.turn.at ≤ l.filled;
      within : l.turn.end ≤ length l.out;
      grown : Grows (g.W.Write.contents l.initial.stdout) (g.W.Write.contents l.stdout);
    }
