-- The text of a line as it is written: words one after another.
use Prim.Native.Nat.{ℕ, ◌+◌, ◌<◌}
use mathlib.Core.Path.{◌≡◌}
use mathlib.Core.List.{List, [], ◌∷◌, ◌++◌, append-nil, append_assoc}
use native.Mathlib.Numerals.{add-one}
use lib.ListN.{length, get_or, take}
use lib.Seq.{take-suc}
use Rattle.rules.specs.Script.{decimal, space}
use Rattle.directory_main.specs.Lines.{words_text}

words_snoc : (ws : List ℕ) (w : ℕ) → words_text (ws ++ (w ∷ [])) ≡ words_text ws ++ (space ∷ decimal w)
words_snoc [] w = rw append-nil
words_snoc (x ∷ ws) w = rw (words_snoc ws w, append_assoc)

-- one word more
pub word-put : (ws : List ℕ) (i : ℕ) → i < length ws → words_text (take (i + 1) ws) ≡ words_text (take i ws) ++ (space ∷ decimal (get_or ws i 0))
word-put ws i inside = rw (add-one, take-suc ws i 0 inside, words_snoc)
