-- Invariant: the words so far are put.
use Rattle.std.proofs.Common.{◌+◌, ◌*◌, ◌≤◌, take}
use Rattle.rules.proofs.memory.Sets.{Written}
use Rattle.directory_main.specs.Lines.{words_text}
use Rattle.directory_main.proofs.lines.put_words.Given as goal

abbrev pub invariant-loop-word : goal.invariant-loop-word
invariant-loop-word l =
    record {
      put : Written l.initial.out l.at (words_text (take l.word-index l.words)) l.out l.end;
      short : l.end ≤ l.at + 11 * l.word-index;
    }
