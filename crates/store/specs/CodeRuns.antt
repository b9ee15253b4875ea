-- Runs of the code: calls of its methods one after another, each on the control record and the words that the one before left,
-- and that they are runs of the rules.
-- Arguments and words are any natural numbers here; those of the code are among them.
use Rattle.std.specs.Prelude.{ℕ, ◌≡◌, List, [], ◌∷◌}
use Rattle.rules.specs.Refusals.{Reply, answer, words, words_or, done_or}
use Rattle.rules.specs.Control.{Store, make}
use Rattle.rules.specs.Calls.{stretch}
use Rattle.rules.specs.Runs.{Call, Attach, Detach, SafePoint, Allocate, Load, StoreRef, StoreLinks, Read, Write, Move, Clear, SameAs, Get, Put, Stretch, Companion, Birth, Step, apply, run, after}
use Rattle.rules.specs.Claims.{Made}
use Rattle.rules.specs.declared.Link.{Link}
use Rattle.rules.specs.Answers.{Answer, Done, answer_of}
use Rattle.store.specs.View.{view, outcome}
use Rattle.store.specs.declared.Control.{Control}
use Rattle.store.specs.declared.Reply as code

-- what a call of the code gets: the control record, and the words of half 0, half 1 and the list
pub record Lent : Type 0 where
  pub control : Control
  pub half0 : List ℕ
  pub half1 : List ℕ
  pub list : List ℕ

abbrev pub lent : Control → List ℕ → List ℕ → List ℕ → Lent
lent c h0 h1 l = record { control = c; half0 = h0; half1 = h1; list = l }

-- as a store of the rules
abbrev pub viewed : Lent → Store
viewed a = view a.control a.half0 a.half1 a.list

-- ---- making

-- a making of the code that wasn't refused, by the contract of `Control::make`: what it gives the first call
pub data CodeMade : Lent → Type 0 where
  by_make : (h0 h1 list : List ℕ) (r : code.Reply)
      → outcome r h0 h1 list ≡ make h0 h1 list
      → answer_of r.answer ≡ Done
      → CodeMade (lent r.control h0 h1 list)

-- ---- one call

-- A call of the code on the control record self and the words h0, h1 and list: the call, its reply, and what the next call gets.
-- Each case is one method of `Control`, with its contract as its `ensures` has it: h0, h1 and list for the words at entry, h0',
-- h1' and list' for those that were lent by `&mut`, at exit, and r (of allocate a) for what the method hands out. Words lent by
-- `&` stay. The stretch and its companion hand no control record back, so the next call gets the same one. That the contract of
-- each method, as the checker has it, gives its case is shown in `proofs/runs/Contracts.antt`.
pub data Called (self : Control) (h0 h1 list : List ℕ) : Call → Reply → Lent → Type 0 where
  by_attach : (s share : ℕ) (r : code.Reply)
      → outcome r h0 h1 list ≡ apply (view self h0 h1 list) (Attach s share)
      → Called self h0 h1 list (Attach s share) (answer (answer_of r.answer)) (lent r.control h0 h1 list)
  by_detach : (s : ℕ) (r : code.Reply)
      → outcome r h0 h1 list ≡ apply (view self h0 h1 list) (Detach s)
      → Called self h0 h1 list (Detach s) (answer (answer_of r.answer)) (lent r.control h0 h1 list)
  by_safe_point : (s : ℕ) (r : code.Reply)
      → outcome r h0 h1 list ≡ apply (view self h0 h1 list) (SafePoint s)
      → Called self h0 h1 list (SafePoint s) (answer (answer_of r.answer)) (lent r.control h0 h1 list)
  by_allocate : (s register r p : ℕ) (a : code.Reply) (h0' h1' : List ℕ)
      → outcome a h0' h1' list ≡ apply (view self h0 h1 list) (Allocate s register r p)
      → Called self h0 h1 list (Allocate s register r p) (answer (answer_of a.answer)) (lent a.control h0' h1' list)
  by_load : (s to register field : ℕ) (r : code.Reply)
      → outcome r h0 h1 list ≡ apply (view self h0 h1 list) (Load s to register field)
      → Called self h0 h1 list (Load s to register field) (answer (answer_of r.answer)) (lent r.control h0 h1 list)
  by_store : (s register field from : ℕ) (r : code.Reply) (h0' h1' list' : List ℕ)
      → outcome r h0' h1' list' ≡ apply (view self h0 h1 list) (StoreRef s register field from)
      → Called self h0 h1 list (StoreRef s register field from) (answer (answer_of r.answer)) (lent r.control h0' h1' list')
  by_store_links : (s register count : ℕ) (links : List Link) (r : code.Reply) (h0' h1' list' : List ℕ)
      → outcome r h0' h1' list' ≡ apply (view self h0 h1 list) (StoreLinks s register count links)
      → Called self h0 h1 list (StoreLinks s register count links) (answer (answer_of r.answer)) (lent r.control h0' h1' list')
  by_read : (s register field : ℕ) (r : code.Reply)
      → outcome r h0 h1 list ≡ apply (view self h0 h1 list) (Read s register field)
      → Called self h0 h1 list (Read s register field) (answer (answer_of r.answer)) (lent r.control h0 h1 list)
  by_write : (s register field value : ℕ) (r : code.Reply) (h0' h1' : List ℕ)
      → outcome r h0' h1' list ≡ apply (view self h0 h1 list) (Write s register field value)
      → Called self h0 h1 list (Write s register field value) (answer (answer_of r.answer)) (lent r.control h0' h1' list)
  by_move_register : (s to from : ℕ) (r : code.Reply)
      → outcome r h0 h1 list ≡ apply (view self h0 h1 list) (Move s to from)
      → Called self h0 h1 list (Move s to from) (answer (answer_of r.answer)) (lent r.control h0 h1 list)
  by_clear : (s register : ℕ) (r : code.Reply)
      → outcome r h0 h1 list ≡ apply (view self h0 h1 list) (Clear s register)
      → Called self h0 h1 list (Clear s register) (answer (answer_of r.answer)) (lent r.control h0 h1 list)
  by_same : (s a b : ℕ) (r : code.Reply)
      → outcome r h0 h1 list ≡ apply (view self h0 h1 list) (SameAs s a b)
      → Called self h0 h1 list (SameAs s a b) (answer (answer_of r.answer)) (lent r.control h0 h1 list)
  by_get : (s to global : ℕ) (r : code.Reply)
      → outcome r h0 h1 list ≡ apply (view self h0 h1 list) (Get s to global)
      → Called self h0 h1 list (Get s to global) (answer (answer_of r.answer)) (lent r.control h0 h1 list)
  by_put : (s global from : ℕ) (r : code.Reply) (h0' h1' list' : List ℕ)
      → outcome r h0' h1' list' ≡ apply (view self h0 h1 list) (Put s global from)
      → Called self h0 h1 list (Put s global from) (answer (answer_of r.answer)) (lent r.control h0' h1' list')
  by_stretch : (s register : ℕ) (r : List ℕ)
      → r ≡ words_or (stretch (view self h0 h1 list) s register)
      → Called self h0 h1 list (Stretch s register) (words r) (lent self h0 h1 list)
  by_companion : (s register : ℕ) (r : Answer)
      → r ≡ done_or (stretch (view self h0 h1 list) s register)
      → Called self h0 h1 list (Companion s register) (answer r) (lent self h0 h1 list)
  by_birth : (s register : ℕ) (r : code.Reply)
      → outcome r h0 h1 list ≡ apply (view self h0 h1 list) (Birth s register)
      → Called self h0 h1 list (Birth s register) (answer (answer_of r.answer)) (lent r.control h0 h1 list)
  by_step : (r : code.Reply) (h0' h1' list' : List ℕ)
      → outcome r h0' h1' list' ≡ apply (view self h0 h1 list) Step
      → Called self h0 h1 list Step (answer (answer_of r.answer)) (lent r.control h0' h1' list')

-- ---- calls one after another

-- calls of the code from a, with their replies in order, and what they leave
pub data CodeRun : Lent → List Call → List Reply → Lent → Type 0 where
  ended : {a : Lent} → CodeRun a [] [] a
  next : {a b e : Lent} {c : Call} {r : Reply} {cs : List Call} {rs : List Reply}
      → Called a.control a.half0 a.half1 a.list c r b
      → CodeRun b cs rs e
      → CodeRun a (c ∷ cs) (r ∷ rs) e

-- a run of the code is a run of the rules: from a newly made store, with the same replies and the same last store
unfoldable pub CodeRuns : Type 0
CodeRuns =
    (a e : Lent) (cs : List Call) (rs : List Reply) → CodeMade a → CodeRun a cs rs e
    → Made (viewed a) × (rs ≡ run (viewed a) cs) × (viewed e ≡ after (viewed a) cs)
