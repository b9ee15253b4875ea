-- Scanned marks cleared: nothing else of a session changes, and the group on roots stays.
use Prim.Native.Nat.{ℕ}
use mathlib.Core.Path.{◌≡◌, sym, ◌∙◌}
use mathlib.Core.Bool.{true, false, false≢true}
use mathlib.Core.List.{List}
use lib.ListN.{get_or, length, length-map, get_or-map}
use Rattle.rules.specs.Memory.{Memory}
use Rattle.rules.specs.Phases.{absent, with_mark, unmarked}
use Rattle.rules.specs.Free.{FreeSession}
use Rattle.rules.specs.declared.Session.{Session}
use Rattle.rules.proofs.invariant.Words.{reg}
use Rattle.rules.proofs.invariant.Groups.{Roots}

-- ---- sessions by number

unmarked-at : (xs : List Session) (n : ℕ) → get_or (unmarked xs) n absent ≡ with_mark (get_or xs n absent) false
unfolding unmarked
unmarked-at xs n = get_or-map (λ x. with_mark x false) xs n absent

unmarked-length : (xs : List Session) → length (unmarked xs) ≡ length xs
unfolding unmarked
unmarked-length xs = length-map xs (λ x. with_mark x false)

pub unmarked-attached : (xs : List Session) (n : ℕ) → (get_or (unmarked xs) n absent).attached ≡ (get_or xs n absent).attached
unmarked-attached xs n = rw (unmarked-at xs n)

pub unmarked_level : (xs : List Session) (n : ℕ) → (get_or (unmarked xs) n absent).level ≡ (get_or xs n absent).level
unmarked_level xs n = rw (unmarked-at xs n)

pub unmarked-share : (xs : List Session) (n : ℕ) → (get_or (unmarked xs) n absent).share ≡ (get_or xs n absent).share
unmarked-share xs n = rw (unmarked-at xs n)

pub unmarked-charge : (xs : List Session) (n : ℕ) → (get_or (unmarked xs) n absent).charge ≡ (get_or xs n absent).charge
unmarked-charge xs n = rw (unmarked-at xs n)

unmarked-scanned : (xs : List Session) (n : ℕ) → (get_or (unmarked xs) n absent).scanned ≡ false
unmarked-scanned xs n = rw (unmarked-at xs n)

pub unmarked_none : (xs : List Session) (n : ℕ) → (get_or (unmarked xs) n absent).scanned ≡ true → ⊥
unmarked_none xs n e = false≢true (sym (unmarked-scanned xs n) ∙ e)

unmarked-registers : (xs : List Session) (n : ℕ) → (get_or (unmarked xs) n absent).registers ≡ (get_or xs n absent).registers
unmarked-registers xs n = rw (unmarked-at xs n)

pub unmarked_reg : (xs : List Session) (n k : ℕ) → reg (unmarked xs) n k ≡ reg xs n k
unmarked_reg xs n k = rw (unmarked-registers xs n)

-- ---- the group on roots

-- it reads of sessions how many there are, their registers and whether they are attached
pub roots_sessions : {M : Memory} {m : ℕ → ℕ} {xs xs' : List Session} {ys : List FreeSession} {gs fgs : List ℕ} → length xs' ≡ length xs
    → ((n : ℕ) → (get_or xs' n absent).registers ≡ (get_or xs n absent).registers) → ((n : ℕ) → (get_or xs' n absent).attached ≡ (get_or xs n absent).attached)
    → Roots M m xs ys gs fgs → Roots M m xs' ys gs fgs
roots_sessions count registers attached r = record {
  sessions = count ∙ r.sessions;
  free-sessions = r.free-sessions;
  registers = λ n l. rw (registers n) (r.registers n l);
  free-registers = r.free-registers;
  globals = r.globals;
  free-globals = r.free-globals;
  attached = λ n. rw (attached n) (r.attached n);
  idle = λ n k a. rw (registers n) (r.idle n k (rw (attached n) at a));
  reg_ok = λ n k. rw (registers n) (r.reg_ok n k);
  reg_is = λ n k. rw (registers n) (r.reg_is n k);
  global_ok = r.global_ok;
  global_is = r.global_is;
}

pub roots_unmarked : {M : Memory} {m : ℕ → ℕ} {xs : List Session} {ys : List FreeSession} {gs fgs : List ℕ}
    → Roots M m xs ys gs fgs → Roots M m (unmarked xs) ys gs fgs
roots_unmarked {xs = xs} r = roots_sessions (unmarked-length xs) (unmarked-registers xs) (unmarked-attached xs) r
