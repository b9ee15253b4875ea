-- Three numbers, each with the byte after it, are the line's text.
use Rattle.rules.proofs.memory.Sets.{Written}
use Rattle.rules.specs.Script.{text_of}
use Rattle.script.specs.Lines.{line}
use Rattle.script.proofs.Digits.{written_line}
use Rattle.script.proofs.lines.write_line.Goals as goal
use Rattle.script.proofs.lines.write_line.Goals.{After-write_number}

written : (c : After-write_number) → Written c.args.out.now c.args.at (text_of (line c.args.entry c.args.answer)) c.write_number.new.out c.write_number.result
written c =
    let a = c.write_number-refusal_at.ensures in
    let b = c.write_number-value_at.ensures in
    let d = c.write_number.ensures in
    rw (← c.number_of.ensures, ← c.value_of.ensures)
    (written_line _ _ (record { entry = c.args.entry; refusal = c.number_of.result; value = c.value_of.result }) _ _ _ _ _ _ a.text a.end b.text b.end d.text d.end)

pub returns-clause-end : goal.returns-clause-end
returns-clause-end c = (written (goal.at.returns-clause-end c).After-write_number).end

pub returns-clause-text : goal.returns-clause-text
returns-clause-text c = (written (goal.at.returns-clause-text c).After-write_number).text
