-- Three numbers, the words and the newline are the line's text.
use Rattle.std.proofs.Common.{refl, ◌+◌, ◌≤◌, [], ◌∷◌, arith, rules, length, slice_set}
use Rattle.rules.specs.Script.{decimal, space, newline}
use Rattle.rules.proofs.memory.Sets.{Written, written, and-more}
use Rattle.script.proofs.Digits.{long64}
use Rattle.directory_main.specs.Lines.{words_text, line_text}
use Rattle.directory_main.proofs.lines.write_line.Goals as goal
use Rattle.directory_main.proofs.lines.write_line.Goals.{After-put_words-end}

line : (c : After-put_words-end) → Written c.args.out.now c.args.at (line_text c.args.entry c.args.refusal c.args.value c.args.words.now) (slice_set c.put_words-end.new.out c.put_words-end.result 10) (c.put_words-end.result + 1)
unfolding line_text
line c =
    let a = c.args in
    let room : a.at + length (decimal a.entry) ≤ length a.out.now = omega (arith, long64 a.entry (search rules)) in
    let w1 = c.write_decimal-first.ensures in
    let w2 = c.put_next-second.ensures in
    let w3 = c.put_next-third.ensures in
    let w4 = c.put_words-end.ensures in
    let first = written a.out.now a.at (decimal a.entry) (w1.text room) (w1.end room) in
    let second = and-more first (space ∷ decimal a.refusal) w2.text w2.end in
    let third = and-more second (space ∷ decimal a.value) w3.text w3.end in
    let fourth = and-more third (words_text a.words.now) w4.text w4.end in
    and-more fourth (newline ∷ []) refl refl

pub returns-clause-end : goal.returns-clause-end
returns-clause-end c = (line (goal.at.returns-clause-end c).After-put_words-end).end

pub returns-clause-text : goal.returns-clause-text
returns-clause-text c = (line (goal.at.returns-clause-text c).After-put_words-end).text
