-- What stands at a place of a chain: a read leaves the store, and its answer is the end, a refusal or the record's word.
use Prim.Native.Nat.{ℕ}
use mathlib.Core.Path.{◌≡◌, refl, sym, ap, ◌∙◌}
use mathlib.Core.List.{List}
use lib.Dec.{ltb}
use Rattle.std.specs.Prelude.{Option, Some, None, Result, Ok, Err}
use Rattle.rules.specs.Answers.{answer_of}
use Rattle.rules.specs.Refusals.{Tested, refused, passed, check, ◌>>=◌, Outcome, answer, settle}
use Rattle.rules.specs.Memory.{plains}
use Rattle.rules.specs.Control.{Store}
use Rattle.rules.specs.Calls as calls
use Rattle.rules.specs.Runs.{apply, Read}
use Rattle.rules.specs.declared.Refusal as rules
use Rattle.rules.specs.declared.Refusal.TheVariants.{NullRegister}
use Rattle.rules.specs.declared.Value.TheVariants.{Word}
use Rattle.rules.specs.declared.Value.{Value}
use Rattle.store.specs.View.{view, outcome}
use Rattle.store.specs.declared.Control.{Control}
use Rattle.store.specs.declared.Reply.{Reply}
use Rattle.directory_rules.specs.Acts.{Act, ask, read, perform, Found, found_in, own_session}
use Rattle.directory_rules.specs.Directory.{number_field}
use Rattle.directory.specs.declared.Refusal.{Refusal}
use Rattle.directory.specs.declared.Refusal.TheVariants as refusal
use Rattle.directory.specs.View.{left_in}
use Rattle.directory.specs.Parts.{standing, looking}

-- ---- a read leaves the store

pub record Still (s : Store) (m : Tested (Outcome Store)) : Type 0 where
  pub still : (settle s m).store ≡ s

tests_still : {A : Type 0} (s : Store) (m : Tested A) (f : A → Tested (Outcome Store)) → ((a : A) → Still s (f a)) → Still s (m >>= f)
tests_still s (refused n) f e = record { still = refl }
tests_still s (passed a) f e = e a

read-still : (s : Store) (n k i : ℕ) → (apply s (Read n k i)).store ≡ s
unfolding calls.read
read-still s n k i =
    (tests_still s (calls.record_of s n k k) _
    (λ x. tests_still s (check (ltb i (plains s.memory x.own)) 13) _ (λ b. record { still = refl }))).still

-- the word at a place
abbrev pub looked_at : Store → ℕ → Found
looked_at s at = found_in (apply s (Read own_session at number_field)).reply

pub looks : {A : Type 0} (s : Store) (at : ℕ) (f : Found → Act A) → perform s (ask (read at number_field) (λ r. f (found_in r))) ≡ perform s (f (looked_at s at))
looks s at f = ap (λ (t : Store). perform t (f (looked_at s at))) (read-still s own_session at number_field)

-- ---- by the code's answer

abbrev pub Answer : Type 0
Answer = Result Value rules.Refusal

-- what the directory makes of an answer of the store
seen : Answer → Act (Option ℕ)
seen a = standing (found_in (answer (answer_of a)))

module _ (r : Reply) (c : Control) (at : ℕ) (h0 h1 l : List ℕ) (e : outcome r h0 h1 l ≡ apply (view c h0 h1 l) (Read own_session at number_field)) where
  abbrev Looked : Result (Option ℕ) Refusal → Type 0
  Looked f = left_in (view c h0 h1 l) f ≡ perform (view c h0 h1 l) (looking at)

  looked : (a : Answer) → r.answer ≡ a → (f : Result (Option ℕ) Refusal) → left_in (view c h0 h1 l) f ≡ perform (view c h0 h1 l) (seen a) → Looked f
  unfolding looking seen
  looked a g f h =
      h ∙ ap (λ (x : Answer). perform (view c h0 h1 l) (seen x)) (sym g)
      ∙ ap (λ (o : Outcome Store). perform (view c h0 h1 l) (standing (found_in o.reply))) e
      ∙ sym (looks (view c h0 h1 l) at standing)

  pub saw_word : (v : Value) (w : ℕ) → r.answer ≡ Ok v → v ≡ Word w → Looked (Ok (Some w))
  unfolding seen
  saw_word v w f g = looked (Ok (Word w)) (f ∙ ap Ok g) (Ok (Some w)) refl

  -- answers of other calls count as a word 0
  pub saw_other : (v : Value) → r.answer ≡ Ok v → ((w : ℕ) → v ≡ Word w → ⊥) → Looked (Ok (Some 0))
  unfolding seen
  saw_other v f g = looked (Ok v) f (Ok (Some 0)) (by v g)
    where
      by : (x : Value) → ((w : ℕ) → x ≡ Word w → ⊥) → left_in (view c h0 h1 l) (Ok (Some 0)) ≡ perform (view c h0 h1 l) (seen (Ok x))
      by (Word w) h = absurd (h w refl)
      by x h = refl

  pub saw_end : (n : rules.Refusal) → r.answer ≡ Err n → n ≡ NullRegister → Looked (Ok None)
  unfolding seen
  saw_end n f g = looked (Err NullRegister) (f ∙ ap Err g) (Ok None) refl

  pub saw_refusal : (n : rules.Refusal) → r.answer ≡ Err n → (n ≡ NullRegister → ⊥) → Looked (Err (refusal.Store n))
  unfolding seen
  saw_refusal n f g = looked (Err n) f (Err (refusal.Store n)) (by n g)
    where
      by : (x : rules.Refusal) → (x ≡ NullRegister → ⊥) → left_in (view c h0 h1 l) (Err (refusal.Store x)) ≡ perform (view c h0 h1 l) (seen (Err x))
      by NullRegister h = absurd (h refl)
      by x h = refl
