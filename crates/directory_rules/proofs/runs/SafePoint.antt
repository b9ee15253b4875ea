-- In a run, a directory call that its tests or its allocation refuse has done its safe point and no more.
use Prim.Native.Nat.{ℕ}
use mathlib.Core.Path.{◌≡◌, refl, sym, ap, ◌∙◌, subst}
use mathlib.Core.Bool.{Bool, true, false, true≢false}
use mathlib.Core.List.{List, [], ◌∷◌, ◌++◌}
use lib.ListN.{get_or}
use lib.Seq.{ext_get_or}
use Rattle.rules.specs.Memory.{null}
use Rattle.rules.specs.Control.{Store}
use Rattle.rules.specs.Phases.{session_at}
use Rattle.rules.specs.Refusals.{answer}
use Rattle.rules.specs.Runs.{Call, SafePoint, apply}
use Rattle.rules.specs.Free.{free_session, free_session_of}
use Rattle.rules.specs.Claims.{Made}
use Rattle.rules.specs.Answers.{Refused, Done}
use Rattle.rules.proofs.memory.Cases.{bool_or}
use Rattle.directory_rules.specs.Table.{Request, Open, Add, Remove, Make, Join, Leave, Members, Table, not_open, table_next, table_given}
use Rattle.directory_rules.specs.Acts.{own_session, safe_point, must, ◌>>◌, perform}
use Rattle.directory_rules.specs.Directory.{first_ask, inner, program, program_on, given_of, directory_call, fed_number}
use Rattle.directory_rules.specs.Claims.{by_tests, first_call, FirstKeeps, SafePointOnly}
use Rattle.directory_rules.proofs.acts.First.{must-done, first_keeps}
use Rattle.directory_rules.proofs.acts.Given.{gives_inner, answered, number_is}
use Rattle.directory_rules.proofs.acts.Registers.{OnlyRegisters, only_all}
use Rattle.directory_rules.proofs.acts.Careful.{careful_keeps}
use Rattle.directory_rules.proofs.acts.Tests.{careful_inner}
use Rattle.directory_rules.proofs.runs.Beside.{here-call, safe_point-reply}
use Rattle.directory_rules.proofs.runs.Run.{State, state_request, items_state, state_cleared}

-- after its safe point
tests_registers : (s : Store) (half : ℕ) (q : Request) → by_tests (given_of q (perform s (inner half q)).result).number ≡ true
    → OnlyRegisters s (perform s (inner half q)).store
tests_registers s half q e = careful_keeps (careful_inner half q) s (rw (number_is (answered (gives_inner half q) s)) at e)

-- ---- stores that differ in registers that are null

abbrev Null : Store → Type 0
Null s = (k : ℕ) → get_or (session_at s own_session).registers k null ≡ null

null-same : {s t : Store} → OnlyRegisters s t → Null s → Null t → s ≡ t
null-same {s} {t} o a b = only_all s t o (ext_get_or null _ _ o.registers (λ k l. a k ∙ sym (b k)))

-- ---- a call whose safe point is not refused

module _ {s t : Store} {cs : List Call} {u : Table} (made : Made s) (a : State s cs t u) where
  -- the store that the safe point leaves, with the same table
  state_safe_point : State s (cs ++ (SafePoint own_session ∷ [])) (apply t (SafePoint own_session)).store u
  state_safe_point = record { free = a.free; here = here-call a.here (SafePoint own_session); layout = a.layout; represents = a.represents }

  -- it is refused where the session isn't attached
  safe_point_or : {C : Type 0} → ((apply t (SafePoint own_session)).reply ≡ answer Done → C) → ((apply t (SafePoint own_session)).reply ≡ answer (Refused not_open) → C) → C
  unfolding free_session_of
  safe_point_or f g =
      let e = safe_point-reply a.here made in
      bool_or (free_session a.free own_session).attached (λ b. f (rw b at e)) (λ b. g (rw b at e))

  -- what a call does then
  module _ (q : Request) (first : first_ask q ≡ safe_point) where
    passed_on : (apply t (SafePoint own_session)).reply ≡ answer Done
        → perform t (program_on t q) ≡ perform (apply t (SafePoint own_session)).store (inner t.lengths.half0 q)
    unfolding program
    passed_on e = ap (λ c. perform t (must c >> inner t.lengths.half0 q)) first
        ∙ must-done t safe_point (λ x. inner t.lengths.half0 q) e

    open_only : (apply t (SafePoint own_session)).reply ≡ answer Done → by_tests (directory_call t q).given.number ≡ true
        → (directory_call t q).store ≡ (apply t (SafePoint own_session)).store
    unfolding directory_call
    open_only e tests =
        let z = passed_on e in
        let o = tests_registers (apply t (SafePoint own_session)).store t.lengths.half0 q (rw z at tests) in
        ap (λ p. p.store) z
        ∙ sym (null-same o (state_cleared made state_safe_point) (subst (λ p. Null p.store) z (state_cleared made (state_request made a q).state)))

    safe_point-first : first_call q ≡ SafePoint own_session → by_tests (directory_call t q).given.number ≡ true
        → (directory_call t q).store ≡ (apply t (SafePoint own_session)).store
    unfolding FirstKeeps
    safe_point-first c tests = safe_point_or (λ e. open_only e tests)
        (λ e. absurd (true≢false (sym tests ∙ rw (first_keeps t q not_open (rw c e)).1)))

  -- opening is refused by none of these numbers
  not-opening : (share n : ℕ) (b : Bool) → u.opened ≡ b → by_tests (table_given (Open share) (table_next u (Open share) n)).number ≡ false
  unfolding table_next
  not-opening share n true e = rw e
  not-opening share n false e = rw e

  request_only : (q : Request) → by_tests (directory_call t q).given.number ≡ true → (directory_call t q).store ≡ (apply t (SafePoint own_session)).store
  request_only (Open share) tests =
      let e : by_tests (directory_call t (Open share)).given.number ≡ false = rw (state_request made a (Open share)).given (not-opening share (fed_number t (Open share)) u.opened refl) in
      absurd (true≢false (sym tests ∙ e))
  request_only (Add n) tests = safe_point-first (Add n) refl refl tests
  request_only (Remove n) tests = safe_point-first (Remove n) refl refl tests
  request_only (Make g) tests = safe_point-first (Make g) refl refl tests
  request_only (Join n g) tests = safe_point-first (Join n g) refl refl tests
  request_only (Leave n g) tests = safe_point-first (Leave n g) refl refl tests
  request_only (Members g out) tests = safe_point-first (Members g out) refl refl tests

pub safe_point_only : SafePointOnly
unfolding SafePointOnly
safe_point_only s made xs e q tests = request_only made (items_state made xs e) q tests
