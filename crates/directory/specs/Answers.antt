-- How a call of the code ends: by a refusal, which has a number, or with what it hands out.
use Rattle.std.specs.Prelude.{ℕ, Result, Ok, Err}
use Rattle.rules.specs.Answers as rules
use Rattle.rules.specs.declared.Refusal as rules_refusal
use Rattle.rules.specs.declared.Value.{Value}
use Rattle.rules.specs.Refusals.{Tested, refused, passed}
use Rattle.directory_rules.specs.Table.{unknown, already, not_member}
use Rattle.directory_rules.specs.Directory.{too_long}
use Rattle.directory.specs.declared.Refusal.{Refusal}
use Rattle.directory.specs.declared.Refusal.TheVariants as refusal

-- the number of a refusal: the store's pass through
abbrev pub number : Refusal → ℕ
number (refusal.Store r) = rules.number r
number refusal.Unknown = unknown
number refusal.Already = already
number refusal.NotMember = not_member
number refusal.TooLong = too_long

-- an answer of the store of which only the refusal counts
abbrev pub accepted : Result Value rules_refusal.Refusal → Result (Unit {0}) Refusal
accepted (Ok v) = Ok tt
accepted (Err e) = Err (refusal.Store e)

-- the number of an answer's refusal, or 0
abbrev pub number_of : Result ℕ Refusal → ℕ
number_of (Ok k) = 0
number_of (Err e) = number e

-- what it counts, 0 when it is refused
abbrev pub count_of : Result ℕ Refusal → ℕ
count_of (Ok k) = k
count_of (Err e) = 0

-- an act's result, of what a function of the code hands out
abbrev pub tested : {A : Type 0} → Result A Refusal → Tested A
tested (Ok a) = passed a
tested (Err e) = refused (number e)
