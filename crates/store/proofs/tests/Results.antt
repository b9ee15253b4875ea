-- A call by what its tests handed out: the refusal that they met, or that all passed.
use Prim.Native.Nat.{ℕ, suc, ◌≤◌}
use mathlib.Core.Path.{◌≡◌, ◌∙◌, refl}
use mathlib.Core.Bool.{Bool, true, false, not, ◌&&◌}
use native.Mathlib.Omega.{arith}
use lib.Dec.{leb, eqb}
use lib.ListN.{get_or}
use borrow.Author.Tests.{leb-true}
use Rattle.rules.specs.Refusals.{Tested, refused, passed, check, refusal_of, tests_of, ◌>>=◌, ◌>>◌, done}
use Rattle.rules.specs.Answers.{number}
use Rattle.rules.specs.Cycle.{at_heap_mark, last_phase}
use Rattle.rules.specs.Memory.{null}
use Rattle.rules.specs.Control.{Store, in_range, last_session, last_register, last_global}
use Rattle.rules.specs.Phases.{session_at, with_session, attached_at, level_of, register}
use Rattle.rules.specs.Calls.{session_of, is_register, is_global, with_register, attach, move, clear, get}
use Rattle.rules.specs.declared.Refusal.{Refusal}
use Rattle.rules.specs.declared.Refusal.TheVariants.{NotAttached}
use Rattle.rules.proofs.Ranges.{both, InSession, in_session, in_range_lem, session-passed}

-- ---- any row of tests

pub refused_by : {A : Type 0} {g : ℕ} (t : Tested A) → refused g ≡ tests_of t → t ≡ refused g
refused_by (refused n) e = cc
refused_by (passed a) e = cc

pub all_passed : {A : Type 0} (t : Tested A) → passed tt ≡ tests_of t → refusal_of t ≡ 0
all_passed (refused n) e = cc
all_passed (passed a) e = refl

-- 0: each test of the row passed
pub first-passed : {A B : Type 0} (t : Tested A) (f : A → Tested B) → refusal_of (t >>= f) ≡ 0 → refusal_of t ≡ 0
first-passed (refused m) f e = e
first-passed (passed a) f e = refl

pub check-passed : {A : Type 0} (b : Bool) (m : ℕ) (rest : Tested A) → refusal_of (check b (suc m) >> rest) ≡ 0
    → (b ≡ true) × (refusal_of rest ≡ 0)
check-passed true m rest e = (refl, e)
check-passed false m rest e = absurd (omega arith)

-- ---- the session tests

module _ (s : Store) (n : ℕ) where
  pub turned_away : {g : ℕ} → refused g ≡ tests_of (session_of s n) → session_of s n ≡ refused g
  turned_away = refused_by (session_of s n)

  -- the session is there, and its facts
  pub let_in : passed tt ≡ tests_of (session_of s n) → session_of s n ≡ passed (session_at s n)
  let_in e = session-passed s n (all_passed (session_of s n) e)

  pub known : passed tt ≡ tests_of (session_of s n) → InSession s n (session_at s n)
  known e = in_session s n (let_in e)

  pub numbered : passed tt ≡ tests_of (session_of s n) → n ≤ last_session
  numbered e = (known e).number

  pub phased : passed tt ≡ tests_of (session_of s n) → s.phase ≤ last_phase
  phased e = (known e).known.phases

pub ruleset session_tests = (turned_away, let_in, numbered, phased)

-- ---- move, clear and get, by all their tests

-- the rule, whose name can't stand in the source
pub move_lem : (s : Store) (n to from : ℕ) → move s n to from
    ≡ (session_of s n >>= λ x. check (is_register to && is_register from) 8 >> done (with_register s n to (register x from)))
unfolding move
move_lem s n to from = refl

pub ruleset move_tests = (session_tests, move_lem)

-- what holds where the tests of a move passed; a clear of register `to` has the same with the register given twice
module _ (s : Store) (n to from : ℕ) (e : passed tt ≡ tests_of (move s n to from)) where
  movable : (n ≤ last_session) × (to ≤ last_register) × (from ≤ last_register)
      × (move s n to from ≡ done (with_register s n to (register (session_at s n) from))) × (clear s n to ≡ done (with_register s n to null))
  unfolding move clear
  movable =
      let z = all_passed (move s n to from) e in
      let f = session-passed s n (first-passed (session_of s n) _ z) in
      let t = check-passed (is_register to && is_register from) 7 _ (rw f at z) in
      let b = both (leb to last_register) (leb from last_register) t.0 in
      ((in_session s n f).number, leb-true to 7 b.0, leb-true from 7 b.1, rw (f, t.0), rw (f, b.0))

  pub moved_number : n ≤ last_session
  moved_number = movable.0

  pub moved_to : to ≤ last_register
  moved_to = movable.1

  pub moved_from : from ≤ last_register
  moved_from = movable.2

  pub moved : move s n to from ≡ done (with_register s n to (register (session_at s n) from))
  moved = movable.3

  pub cleared : clear s n to ≡ done (with_register s n to null)
  cleared = movable.4

-- a register tested twice is a register tested once
twice : {A B : Type 0} (t : Tested A) (b : Bool) (f g : A → B)
    → tests_of (t >>= λ x. check (b && b) 8 >> passed (f x)) ≡ tests_of (t >>= λ x. check b 8 >> passed (g x))
twice (refused m) b f g = refl
twice (passed x) true f g = refl
twice (passed x) false f g = refl

pub not_cleared : {g : ℕ} (s : Store) (n k : ℕ) → refused g ≡ tests_of (move s n k k) → clear s n k ≡ refused g
unfolding move clear
not_cleared s n k e = refused_by (clear s n k) (e ∙ twice (session_of s n) (is_register k) _ _)

pub ruleset moving = (moved_number, moved_to, moved_from, moved, cleared, not_cleared)

module _ (s : Store) (n to o : ℕ) (e : passed tt ≡ tests_of (get s n to o)) where
  gettable : (n ≤ last_session) × (to ≤ last_register) × (o ≤ last_global) × (get s n to o ≡ done (with_register s n to (get_or s.globals o null)))
  unfolding get
  gettable =
      let z = all_passed (get s n to o) e in
      let f = session-passed s n (first-passed (session_of s n) _ z) in
      let t = check-passed (is_register to) 7 _ (rw f at z) in
      let u = check-passed (is_global o) 8 _ t.1 in
      ((in_session s n f).number, leb-true to 7 t.0, leb-true o 31 u.0, rw (f, t.0, u.0))

  pub got_number : n ≤ last_session
  got_number = gettable.0

  pub got_to : to ≤ last_register
  got_to = gettable.1

  pub got_global : o ≤ last_global
  got_global = gettable.2

  pub got : get s n to o ≡ done (with_register s n to (get_or s.globals o null))
  got = gettable.3

pub ruleset getting = (got_number, got_to, got_global, got)

-- ---- attach, whose third test is the other way round

-- the row of tests of a session, and that of attach
row : {A : Type 0} → Bool → Bool → Bool → A → Tested A
row a b c x = check a 4 >> (check b 5 >> (check c 6 >> passed x))

attach_row : {A : Type 0} → Bool → Bool → Bool → Tested A → Tested A
attach_row a b c r = check a 4 >> (check b 5 >> (check (not c) 7 >> r))

module _ {A B : Type 0} (x : A) (r : Tested B) where
  row-passed : (a b c : Bool) → passed tt ≡ tests_of (row a b c x) → attach_row a b c r ≡ refused 7
  unfolding row attach_row
  row-passed true true true e = refl
  row-passed true true false e = cc
  row-passed true false c e = cc
  row-passed false b c e = cc

  row-other : {g : ℕ} (a b c : Bool) → refused g ≡ tests_of (row a b c x) → (g ≡ 6 → ⊥) → attach_row a b c r ≡ refused g
  unfolding row attach_row
  row-other true true true e m = cc
  row-other true true false e m = absurd (m cc)
  row-other true false c e m = cc
  row-other false b c e m = cc

  row-detached : (a b c : Bool) → refused 6 ≡ tests_of (row a b c x) → (a ≡ true) × (b ≡ true) × (attach_row a b c r ≡ r)
  unfolding row attach_row
  row-detached true true true e = cc
  row-detached true true false e = (refl, refl, refl)
  row-detached true false c e = let z : ◌≡◌ {A = ℕ} 6 5 = cc in absurd (omega arith)
  row-detached false b c e = let z : ◌≡◌ {A = ℕ} 6 4 = cc in absurd (omega arith)

-- the store with session n newly attached
abbrev attached : Store → ℕ → ℕ → Store
attached s n share = with_session s n (attached_at (session_at s n) share (level_of s.phase) (eqb s.phase at_heap_mark))

other_number : (r : Refusal) → (r ≡ NotAttached → ⊥) → number r ≡ 6 → ⊥
other_number NotAttached n e = n refl
other_number _ n e = omega arith

module _ (s : Store) (n share : ℕ) where
  pub attached-already : passed tt ≡ tests_of (session_of s n) → attach s n share ≡ refused 7
  unfolding session_of attach row attach_row
  attached-already = row-passed (session_at s n) _ (in_range s) (leb n last_session) (session_at s n).attached

  pub not_attachable : (r : Refusal) → refused (number r) ≡ tests_of (session_of s n) → (r ≡ NotAttached → ⊥) → attach s n share ≡ refused (number r)
  unfolding session_of attach row attach_row
  not_attachable r e m = row-other (session_at s n) _ (in_range s) (leb n last_session) (session_at s n).attached e (other_number r m)

  attachable : refused 6 ≡ tests_of (session_of s n)
      → (in_range s ≡ true) × (leb n last_session ≡ true) × (attach s n share ≡ done (attached s n share))
  unfolding session_of attach row attach_row
  attachable = row-detached (session_at s n) (done (attached s n share)) (in_range s) (leb n last_session) (session_at s n).attached

  pub newly_attached : refused 6 ≡ tests_of (session_of s n) → attach s n share ≡ done (attached s n share)
  newly_attached e = (attachable e).2

module _ (s : Store) (n : ℕ) (e : refused 6 ≡ tests_of (session_of s n)) where
  pub attachable_number : n ≤ last_session
  attachable_number = leb-true _ _ (attachable s n 0 e).1

  pub attachable_phase : s.phase ≤ last_phase
  attachable_phase = (in_range_lem s (attachable s n 0 e).0).phases

pub ruleset attach_tests = (attached-already, not_attachable, newly_attached, attachable_number, attachable_phase)
