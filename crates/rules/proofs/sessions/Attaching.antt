-- The calls that attach and detach a session, and the safe point, which is no session call.
use Prim.Native.Nat.{ℕ, ◌≤◌}
use mathlib.Core.Path.{refl, sym}
use mathlib.Core.Logic.{inl}
use mathlib.Core.Bool.{Bool, true, not, true≢false}
use native.Mathlib.Omega.{arith}
use lib.Dec.{leb}
use borrow.Author.Tests.{leb-true, eq-eqb}
use Rattle.rules.specs.Refusals.{◌>>=◌, done}
use Rattle.rules.specs.Cycle.{at_heap_mark}
use Rattle.rules.specs.Control.{Store, register_count, last_session, last_level}
use Rattle.rules.specs.Phases.{with_level, attached_at, detached, level_of, session_at, with_session}
use Rattle.rules.specs.Calls as calls
use Rattle.rules.specs.Free.{Free, free_session, free_nobody, with_free_attached, free_session_of, free_attach, free_detach}
use Rattle.rules.specs.declared.Session.{Session}
use Rattle.rules.proofs.Ranges.{in_range-tested}
use Rattle.rules.proofs.memory.Lists.{zeros}
use Rattle.rules.proofs.invariant.Stages.{phase-is}
use Rattle.rules.proofs.invariant.Sim.{Sim}
use Rattle.rules.proofs.invariant.Spent.{spent_grows, session_grows}
use Rattle.rules.proofs.invariant.Spans.{level_most}
use Rattle.rules.proofs.relation.Alike.{Alike, both_check, alike_done}
use Rattle.rules.proofs.relation.Tests.{same-attached, both_session}
use Rattle.rules.proofs.sessions.Session.{SessionFits, session_sim, session_sim_same, session_fits, null_fits, refit}

module _ {K : ℕ → Type 0} {m : ℕ → ℕ} {s : Store} {f : Free} (h : Sim K m s f) where
  phase_level : level_of s.phase ≤ last_level
  phase_level = level_most s.phase (level_of s.phase) h.range.phases (inl refl)

  -- with a mark or without, and with any share: its registers are null
  attached_fits : (x : Session) (share : ℕ) (b : Bool) → SessionFits K m s (attached_at x share (level_of s.phase) b) (with_free_attached free_nobody true)
  attached_fits x share b = record {
    registers = refl;
    free-registers = refl;
    attached = refl;
    low = phase_level;
    allowed = λ e. inl refl;
    idle = λ e. absurd (true≢false e);
    words = λ e k. rw (zeros register_count k) (null_fits h _);
    free_idle = λ e. absurd (true≢false e);
  }

  detached_fits : (x : Session) → SessionFits K m s (detached x) free_nobody
  detached_fits b = record {
    registers = refl;
    free-registers = refl;
    attached = refl;
    low = omega arith;
    allowed = λ e. absurd (true≢false (sym e));
    idle = λ e k. zeros register_count k;
    words = λ e. absurd (true≢false (sym e));
    free_idle = λ e k. zeros register_count k;
  }

  -- the session at the phase's level
  safe_fits : (n : ℕ) → n ≤ last_session
      → SessionFits K m s (with_level (session_at s n) (level_of s.phase)) (free_session f n)
  safe_fits n l = let z = session_fits h n l in record {
    registers = z.registers;
    free-registers = z.free-registers;
    attached = z.attached;
    low = phase_level;
    allowed = λ e. inl refl;
    idle = z.idle;
    words = λ e k. refit _ refl (z.words e k);
    free_idle = z.free_idle;
  }

  pub attach_alike : (n share q : ℕ) → Alike K q m s (calls.attach s n share) (free_attach f n)
  unfolding calls.attach free_attach with_session
  attach_alike n share q = rw (in_range-tested h.range, same-attached h n) (both_check (leb n last_session) 5 tt
      (λ l. both_check (not (session_at s n).attached) 7 tt
      (λ e. alike_done (session_sim h n (leb-true n last_session l) (attached_fits (session_at s n) share _)) refl refl refl
      (spent_grows (session_grows s n _ (λ p z. eq-eqb s.phase _ (omega (arith, phase-is at_heap_mark h.range.phases (omega arith) p))))))))

  pub detach_alike : (n q : ℕ) → Alike K q m s (calls.detach s n) (free_detach f n)
  unfolding calls.detach free_detach with_session
  detach_alike n q = both_session h n _ _ (λ a. alike_done (session_sim h n a.number (detached_fits (session_at s n))) refl refl refl
      (spent_grows (session_grows s n _ (λ p z. z))))

  -- the collector-free store has no safe point: beside it the same session tests, and nothing changed
  pub safe_point_alike : (n q : ℕ) → Alike K q m s (calls.safe_point s n) (free_session_of f n >>= λ x. done f)
  unfolding calls.safe_point with_session
  safe_point_alike n q = both_session h n _ _ (λ a. alike_done (session_sim_same h n a.number (safe_fits n a.number)) refl refl refl
      (spent_grows (session_grows s n _ (λ p z. z))))
