-- Words taken.
use Rattle.std.specs.Prelude.{ℕ, List, Result, Ok, Err}
use Rattle.directory.specs.declared.Refusal.{Refusal}

-- what the code hands out of an act that takes words: they are in the words that it is lent, which a refusal doesn't speak of
abbrev pub taken_to : Result (Unit {0}) Refusal → List ℕ → Result (List ℕ) Refusal
taken_to (Ok u) ws = Ok ws
taken_to (Err e) ws = Err e
