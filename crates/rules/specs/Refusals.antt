-- Refusal by place: the tests of a call in their order, and what a call answers.
-- "A call writes only after all its tests": a rule is a row of tests, then the store that they leave to write.
use Rattle.std.specs.Prelude.{ℕ, Bool, true, false, cond, List, [], Result, Ok, Err}
use Rattle.rules.specs.Answers.{Answer, Refused, Done, Word, Same, Phase, number}
use Rattle.rules.specs.declared.Damage.{Damage}
use Rattle.rules.specs.declared.Refusal.{Refusal}

-- the number of the first test that failed, or what is done where all passed
pub data Tested (A : Type 0) : Type 0 where
  refused : ℕ → Tested A
  passed : A → Tested A

-- how the tests of a function of the code ended, by what it hands out
abbrev pub tested : {A : Type 0} → Result A Refusal → Tested A
tested (Ok a) = passed a
tested (Err e) = refused (number e)

-- the same of one whose only refusal is 12, damage
abbrev pub checked : {A : Type 0} → Result A Damage → Tested A
checked (Ok a) = passed a
checked (Err e) = refused 12

-- a test: where it fails, the call is refused with the number
abbrev pub check : Bool → ℕ → Tested (Unit {0})
check true n = passed tt
check false n = refused n

-- one test after another
infixl 10 ◌>>=◌
infixl 10 ◌>>◌
abbrev pub ◌>>=◌ : {A B : Type 0} → Tested A → (A → Tested B) → Tested B
◌>>=◌ (refused n) k = refused n
◌>>=◌ (passed a) k = k a

abbrev pub ◌>>◌ : {A B : Type 0} → Tested A → Tested B → Tested B
◌>>◌ m k = m >>= λ a. k

-- the tests alone
abbrev pub tests_of : {A : Type 0} → Tested A → Tested (Unit {0})
tests_of (refused n) = refused n
tests_of (passed a) = passed tt

-- the refusal number, or 0
abbrev pub refusal_of : {A : Type 0} → Tested A → ℕ
refusal_of (refused n) = n
refusal_of (passed a) = 0

-- what a call of a run answers: an answer, or a stretch's words
pub data Reply : Type 0 where
  answer : Answer → Reply
  words : List ℕ → Reply

-- whether it is a refusal
abbrev pub is_refusal : Reply → Bool
is_refusal (answer (Refused n)) = true
is_refusal (answer Done) = false
is_refusal (answer (Word w)) = false
is_refusal (answer (Same b)) = false
is_refusal (answer (Phase p)) = false
is_refusal (words ws) = false

-- all that a call leaves: the store, and the reply
pub record Outcome (S : Type 0) : Type 0 where
  pub store : S
  pub reply : Reply

-- a refused call hands the store back as it came
abbrev pub settle : {S : Type 0} → S → Tested (Outcome S) → Outcome S
settle s (refused n) = record { store = s; reply = answer (Refused n) }
settle s (passed o) = o

-- a call that answers 0 and no value
abbrev pub done : {S : Type 0} → S → Tested (Outcome S)
done s = passed (record { store = s; reply = answer Done })

abbrev pub answered : {S : Type 0} → S → Answer → Tested (Outcome S)
answered s a = passed (record { store = s; reply = answer a })

-- the stretch: its words, none where it is refused
abbrev pub words_or : Tested (List ℕ) → List ℕ
words_or (refused n) = []
words_or (passed ws) = ws

-- its companion: the refusal number or 0
abbrev pub done_or : {A : Type 0} → Tested A → Answer
done_or (refused n) = Refused n
done_or (passed a) = Done

-- document 01's number of an answer: the refusal number, or 0
abbrev pub number_of : Answer → ℕ
number_of (Refused n) = n
number_of Done = 0
number_of (Word w) = 0
number_of (Same b) = 0
number_of (Phase p) = 0

-- document 01's value of an answer: the word read, 1 or 0 for same, the phase after a step; 0 for the others and when refused
abbrev pub value_of : Answer → ℕ
value_of (Refused n) = 0
value_of Done = 0
value_of (Word w) = w
value_of (Same b) = cond b 1 0
value_of (Phase p) = p
