-- The lines of the output.
use Rattle.std.specs.Prelude.{ℕ, List, [], ◌∷◌, ◌++◌}
use Rattle.rules.specs.Script.{decimal, space, newline}

-- no line is longer: 20, 10 and 20 digits, 255 members of 10 digits, 257 spaces and a newline
abbrev pub longest : ℕ
longest = 2858

-- some words, each after a space
abbrev pub words_text : List ℕ → List ℕ
words_text [] = []
words_text (w ∷ ws) = (space ∷ decimal w) ++ words_text ws

-- "entry number, refusal or 0, value", "and then the members written, on the same line"
unfoldable pub line_text : ℕ → ℕ → ℕ → List ℕ → List ℕ
line_text n refusal value ws =
    decimal n ++ (space ∷ decimal refusal) ++ (space ∷ decimal value) ++ words_text ws ++ (newline ∷ [])
