-- The view loses nothing: equal views have equal control records and equal words, and so have equal outcomes.
use Prim.Native.Nat.{ℕ, ◌-◌}
use mathlib.Core.Path.{◌≡◌, ◌∙◌, refl, sym, ap}
use mathlib.Core.List.{List, [], ◌∷◌}
use lib.ListN.{get_or}
use Rattle.std.specs.Prelude.{Result, Ok, Err}
use Rattle.rules.specs.Refusals.{Reply, answer, words}
use Rattle.rules.specs.Control.{Store}
use Rattle.rules.specs.Answers.{Answer, Refused, Done, Word, Same, Phase, answer_of}
use Rattle.rules.specs.declared.Refusal.{Refusal}
use Rattle.rules.specs.declared.Refusal.TheVariants as refusal
use Rattle.rules.specs.declared.Value.{Value}
use Rattle.rules.specs.declared.Value.TheVariants as value
use Rattle.store.specs.View.{view, outcome}
use Rattle.store.specs.declared.Control.{Control}
use Rattle.store.specs.declared.Reply as code

-- the control record that a store is the view of
abbrev pub control_of : Store → Control
control_of s =
    record {
      length0 = s.lengths.half0;
      length1 = s.lengths.half1;
      capacity = s.lengths.list;
      cursor = record {
        current = s.current;
        frontier0 = s.memory.frontier0;
        frontier1 = s.memory.frontier1;
        phase = s.phase;
        place = s.walk.place;
        field = s.walk.field;
        head = s.list.head;
        tail = s.list.tail;
      };
      births = s.births;
      globals = s.globals;
      sessions = s.sessions;
    }

-- the answer of a reply that has one
abbrev pub answer_in : Reply → Answer
answer_in (answer a) = a
answer_in (words ws) = Done

-- the refusals by number, the first of them 1
abbrev refusals : List Refusal
refusals =
    refusal.HalfLength ∷ refusal.UnequalHalves ∷ refusal.ShortList ∷ refusal.OutOfRange ∷ refusal.NoSession ∷ refusal.NotAttached
    ∷ refusal.AlreadyAttached ∷ refusal.NoRegister ∷ refusal.NoGlobal ∷ refusal.TooMany ∷ refusal.NullRegister ∷ refusal.Damaged
    ∷ refusal.NoField ∷ refusal.NoRoom ∷ refusal.BadScript ∷ refusal.NoBirthNumber ∷ refusal.PastShare ∷ []

-- the code's answer of one of the rules
abbrev pub handed_as : Answer → Result Value Refusal
handed_as (Refused n) = Err (get_or refusals (n - 1) refusal.HalfLength)
handed_as Done = Ok value.Done
handed_as (Word w) = Ok (value.Word w)
handed_as (Same b) = Ok (value.Same b)
handed_as (Phase p) = Ok (value.Phase p)

by_value : (v : Value) → handed_as (answer_of (Ok v)) ≡ Ok v
by_value value.Done = refl
by_value (value.Word w) = refl
by_value (value.Same b) = refl
by_value (value.Phase p) = refl

by_refusal : (e : Refusal) → handed_as (answer_of (Err e)) ≡ Err e
by_refusal refusal.HalfLength = refl
by_refusal _ = refl

-- an answer of the code is known by that of the rules
answer_faithful : (a : Result Value Refusal) → handed_as (answer_of a) ≡ a
answer_faithful (Ok v) = by_value v
answer_faithful (Err e) = by_refusal e

reply_faithful : (r : code.Reply) → record { control = r.control; answer = handed_as (answer_of r.answer) } ≡ r
reply_faithful r = ap (λ (a : Result Value Refusal). record { control = r.control; answer = a }) (answer_faithful r.answer)

module _ {h0 h1 l k0 k1 m : List ℕ} where
  pub view_faithful : {c d : Control} → view c h0 h1 l ≡ view d k0 k1 m → (c ≡ d) × (h0 ≡ k0) × (h1 ≡ k1) × (l ≡ m)
  view_faithful e = (ap control_of e, ap (λ s. s.memory.half0) e, ap (λ s. s.memory.half1) e, ap (λ s. s.list.words) e)

  pub outcome_faithful : {r q : code.Reply} → outcome r h0 h1 l ≡ outcome q k0 k1 m → (r ≡ q) × (h0 ≡ k0) × (h1 ≡ k1) × (l ≡ m)
  outcome_faithful {r} {q} e =
      let s = view_faithful (ap (λ o. o.store) e) in (
        sym (reply_faithful r) ∙ ap (λ o. record { control = control_of o.store; answer = handed_as (answer_in o.reply) }) e ∙ reply_faithful q,
        s.1,
        s.2,
        s.3,
      )
