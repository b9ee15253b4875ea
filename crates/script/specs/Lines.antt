-- The lines of the output: the longest, where the next one goes, what a writer has got, and the line of a bad version.
use Rattle.std.specs.Prelude.{ℕ, ◌+◌, ◌≤◌, ◌≡◌, cond, Option, Some, IfSome, List, Result, leb, length}
use Rattle.std.proofs.lemmas.List.Edits.{sets}
use Rattle.std.specs.Io.KnownBytes.{Appends}
use Rattle.rules.specs.Answers.{answer_of}
use Rattle.rules.specs.declared.Value.{Value}
use Rattle.rules.specs.declared.Refusal.{Refusal}
use Rattle.rules.specs.Refusals.{answer}
use Rattle.rules.specs.Script.{Line, line_of, bad_line, text_of}

-- the line of entry n, which was answered so
abbrev pub line : ℕ → Result Value Refusal → Line
line n a = line_of n (answer (answer_of a))

-- no line is longer: 20, 10 and 20 digits, two spaces and a newline
abbrev pub longest : ℕ
longest = 53

-- where the next line goes, of at most so many bytes: at the end of what is there, or, where it may not fit behind that, at the front
unfoldable pub next_line : ℕ → ℕ → ℕ → ℕ
next_line longest end size = cond (leb (end + longest) size) end 0

-- after the output was written out where it had to be: the place of the next line, none where writing failed
pub record Flushed (longest end size : ℕ) (at : Option ℕ) : Type 0 where
  pub place : IfSome at (λ i. i ≡ next_line longest end size)
  -- a line fits there, if one fits at all
  pub room : longest ≤ size → IfSome at (λ i. i + longest ≤ size)
  -- where one fitted already nothing is written
  pub still : end + longest ≤ size → at ≡ Some end

-- what a writer has got stays, and bytes come behind it, where it is known
abbrev pub Grows : Option (List ℕ) → Option (List ℕ) → Type 0
Grows old new = (text : List ℕ) × Appends old new text

-- the output and the end of what was written
pub record Written : Type 0 where
  pub out : List ℕ
  pub end : ℕ

abbrev pub version_refused : ℕ → List ℕ → Written
version_refused r out = record { out = out; end = r }

-- "a bad version or empty input is entry 0": its line at the start of the output, where there is room for a line
unfoldable pub bad_version : List ℕ → Written
bad_version out =
    cond (leb longest (length out))
    (record { out = sets out 0 (text_of (bad_line 0)); end = length (text_of (bad_line 0)) })
    (record { out = out; end = 0 })
