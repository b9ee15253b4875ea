-- What a call answers, under document 01's numbers: the number of its refusal, or what the call hands out.
use Rattle.std.specs.Prelude.{ℕ, Bool, Result, Ok, Err}
use Rattle.rules.specs.declared.Refusal.{Refusal}
use Rattle.rules.specs.declared.Refusal.TheVariants as refusal
use Rattle.rules.specs.declared.Value.{Value}
use Rattle.rules.specs.declared.Value.TheVariants as value

pub data Answer : Type 0 where
  Refused : ℕ → Answer
  Done : Answer
  Word : ℕ → Answer
  Same : Bool → Answer
  Phase : ℕ → Answer

-- the number of a refusal of the code
abbrev pub number : Refusal → ℕ
number refusal.HalfLength = 1
number refusal.UnequalHalves = 2
number refusal.ShortList = 3
number refusal.OutOfRange = 4
number refusal.NoSession = 5
number refusal.NotAttached = 6
number refusal.AlreadyAttached = 7
number refusal.NoRegister = 8
number refusal.NoGlobal = 9
number refusal.TooMany = 10
number refusal.NullRegister = 11
number refusal.Damaged = 12
number refusal.NoField = 13
number refusal.NoRoom = 14
number refusal.BadScript = 15
number refusal.NoBirthNumber = 16
number refusal.PastShare = 17

-- what a call of the code hands out
abbrev pub handed : Value → Answer
handed value.Done = Done
handed (value.Word w) = Word w
handed (value.Same b) = Same b
handed (value.Phase p) = Phase p

-- an answer of the code
abbrev pub answer_of : Result Value Refusal → Answer
answer_of (Ok v) = handed v
answer_of (Err e) = Refused (number e)
