-- The calls that set a register from a register or a global: move, clear, get.
use Prim.Native.Nat.{ℕ, ◌≤◌}
use mathlib.Core.Path.{◌≡◌, refl}
use mathlib.Core.Bool.{true, ◌&&◌}
use borrow.Author.Tests.{leb-true}
use Rattle.rules.specs.Refusals.{done, answer}
use Rattle.rules.specs.Control.{Store, last_register}
use Rattle.rules.specs.Phases.{session_at, with_session, register}
use Rattle.rules.specs.Calls as calls
use Rattle.rules.specs.Calls.{is_register, is_global, with_register}
use Rattle.rules.specs.Free.{Free, free_session, free_register, with_free_register, free_move, free_clear, free_get}
use Rattle.rules.specs.Answers.{Done}
use Rattle.rules.proofs.Ranges.{both}
use Rattle.rules.proofs.invariant.Sim.{Sim}
use Rattle.rules.proofs.invariant.Spent.{Grows, spent_grows, session_grows}
use Rattle.rules.proofs.relation.Alike.{Left, Alike, passed_both, both_check, left-done}
use Rattle.rules.proofs.relation.Tests.{Attached, both_session}
use Rattle.rules.proofs.sessions.Session.{WordFits, register_sim, register_fits, global_fits, null_fits}

-- 8: a register's number
is_register_lem : (k : ℕ) → is_register k ≡ true → k ≤ last_register
is_register_lem k e = leb-true k last_register e

-- a session keeps its mark when a register is set
pub register_grows : (s : Store) (n k v : ℕ) → Grows s (with_register s n k v)
unfolding with_register
register_grows s n k v = session_grows s n _ (λ a b. b)

module _ {K : ℕ → Type 0} {m : ℕ → ℕ} {s : Store} {f : Free} (h : Sim K m s f) where
  -- a register of the call's session set to a word that fits ends the call alike
  pub set-left : {q : ℕ} (n to : ℕ) → Attached s n → is_register to ≡ true → {v p : ℕ} → WordFits K m s (session_at s n) v p
      → Left K q m s (record { store = with_register s n to v; reply = answer Done }) (record { store = with_free_register f n to p; reply = answer Done })
  unfolding with_register with_session
  set-left n to a e t = left-done (register_sim h n to a.number (is_register_lem to e) a.attached t) refl refl refl (spent_grows (register_grows s n to _))

  set_alike : {q : ℕ} (n to : ℕ) → Attached s n → is_register to ≡ true → {v p : ℕ} → WordFits K m s (session_at s n) v p
      → Alike K q m s (done (with_register s n to v)) (done (with_free_register f n to p))
  set_alike n to a e t = passed_both (set-left n to a e t)

  -- what a register of the session holds fits
  pub held_fits : (n k : ℕ) → Attached s n → WordFits K m s (session_at s n) (register (session_at s n) k) (free_register (free_session f n) k)
  unfolding register free_register
  held_fits n k a = register_fits h n k a.attached

  pub move_alike : (n to from q : ℕ) → Alike K q m s (calls.move s n to from) (free_move f n to from)
  unfolding calls.move free_move
  move_alike n to from q = both_session h n _ _ (λ a. both_check (is_register to && is_register from) 8 tt
      (λ e. set_alike n to a (both _ _ e).0 (held_fits n from a)))

  pub clear_alike : (n k q : ℕ) → Alike K q m s (calls.clear s n k) (free_clear f n k)
  unfolding calls.clear free_clear
  clear_alike n k q = both_session h n _ _ (λ a. both_check (is_register k) 8 tt
      (λ e. set_alike n k a e (null_fits h (session_at s n))))

  pub get_alike : (n to g q : ℕ) → Alike K q m s (calls.get s n to g) (free_get f n to g)
  unfolding calls.get free_get
  get_alike n to g q = both_session h n _ _ (λ a. both_check (is_register to) 8 tt
      (λ e. both_check (is_global g) 9 tt
      (λ i. set_alike n to a e (global_fits h n g))))
