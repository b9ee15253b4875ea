-- Invariant: the turns still to take leave what all of them leave. Each call counts an entry, so they end.
use Rattle.std.proofs.Common.{◌≡◌, ◌≤◌, ◌-◌, length}
use Rattle.script.specs.Turns.{turned, turns, number_end}
use Rattle.script.proofs.turns.take_turns.Given as goal

abbrev pub invariant-loop-command : goal.invariant-loop-command
invariant-loop-command l =
    record {
      same : turns l.stop l.stop l.input (turned l.turn l.h0 l.h1 l.list l.out) ≡ turns l.stop l.stop l.input (turned l.initial.turn l.initial.h0 l.initial.h1 l.initial.list l.initial.out);
      counted : l.initial.turn.number ≤ l.turn.number;
      reached : l.initial.turn.at ≤ length l.input → l.turn.at ≤ length l.input;
      within : l.initial.turn.end ≤ length l.initial.out → l.turn.end ≤ length l.out;
    }

abbrev pub decreases-loop-command : goal.decreases-loop-command
decreases-loop-command l = number_end - l.turn.number
