-- A run of the code that the checker computes, in halves of 16 words: calls that meet the contracts can be made.
use Prim.Native.Nat.{ℕ}
use mathlib.Core.Path.{◌≡◌, refl}
use mathlib.Core.List.{List, [], ◌∷◌}
use lib.ListN.{replicate}
use Rattle.rules.specs.Refusals.{Outcome, answer, words, words_or}
use Rattle.rules.specs.Control.{Store, make}
use Rattle.rules.specs.Calls as calls
use Rattle.rules.specs.Runs.{Attach, Allocate, Stretch, apply}
use Rattle.rules.specs.Script.{script_share}
use Rattle.rules.specs.Answers.{Done, answer_of}
use Rattle.rules.proofs.Examples.{rules}
use Rattle.store.specs.View.{outcome}
use Rattle.store.specs.CodeRuns.{Lent, lent, viewed, CodeMade, by_make, by_attach, by_allocate, by_stretch, CodeRun, ended, next}
use Rattle.store.specs.declared.Reply as code
use Rattle.store.proofs.view.Faithful.{control_of, answer_in, handed_as}

-- what the rules leave, as the code hands it out: the reply, and the words
abbrev handed : Outcome Store → code.Reply
handed o = record { control = control_of o.store; answer = handed_as (answer_in o.reply) }

abbrev half0 : Outcome Store → List ℕ
half0 o = o.store.memory.half0

abbrev half1 : Outcome Store → List ℕ
half1 o = o.store.memory.half1

-- the words at first
abbrev half : List ℕ
half = replicate 16 0

abbrev list : List ℕ
list = replicate 5 0

-- what the rules leave of making and of each call, and what the next call of the code gets
abbrev made : Outcome Store
made = make half half list

abbrev first : Lent
first = lent (control_of made.store) half half list

abbrev attached : Outcome Store
attached = apply (viewed first) (Attach 0 script_share)

abbrev second : Lent
second = lent (control_of attached.store) half half list

abbrev allocated : Outcome Store
allocated = apply (viewed second) (Allocate 0 0 1 1)

abbrev third : Lent
third = lent (control_of allocated.store) (half0 allocated) (half1 allocated) list

-- a reply made of what the rules leave meets the contract of each call, by computation
attaches : outcome (handed attached) half half list ≡ attached
unfolding rules make
attaches = refl

allocates : outcome (handed allocated) (half0 allocated) (half1 allocated) list ≡ allocated
unfolding rules make
allocates = refl

stretches : 0 ∷ [] ≡ words_or (calls.stretch (viewed third) 0 0)
unfolding rules make calls.stretch
stretches = refl

pub example_made : CodeMade first
unfolding rules make
example_made = by_make half half list (handed made) refl refl

pub example_run : CodeRun first (Attach 0 script_share ∷ Allocate 0 0 1 1 ∷ Stretch 0 0 ∷ [])
    (answer (answer_of (handed attached).answer) ∷ answer (answer_of (handed allocated).answer) ∷ words (0 ∷ []) ∷ []) third
example_run =
    next (by_attach 0 script_share (handed attached) attaches)
    (next (by_allocate 0 0 1 1 (handed allocated) (half0 allocated) (half1 allocated) allocates)
    (next (by_stretch 0 0 (0 ∷ []) stretches) ended))

-- neither was refused
pub example_answers : (answer_of (handed attached).answer ≡ Done) × (answer_of (handed allocated).answer ≡ Done)
unfolding rules make
example_answers = (refl, refl)
