-- Nothing where there is no room for a line; else the line of entry 0.
use native.Mathlib.Omega.{arith}
use borrow.Author.Tests.{lt-leb}
use Rattle.script.specs.Lines.{bad_version}
use Rattle.script.proofs.Turning.{version_room}
use Rattle.script.proofs.lines.write_bad_version.Goals as goal

pub returns-then-out-lt-LONGEST_LINE-clause-text :
    goal.returns-then-out-lt-LONGEST_LINE-clause-text
unfolding bad_version
returns-then-out-lt-LONGEST_LINE-clause-text c = simp (lt-leb _ _ c.if-out-lt-LONGEST_LINE.true)

pub returns-clause-text : goal.returns-clause-text
returns-clause-text c = version_room _ (omega arith) c.write_line.ensures.end c.write_line.ensures.text
