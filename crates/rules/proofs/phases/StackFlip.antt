-- 11 StackFlip: the registers of the lowest attached session without a mark forwarded, and the session marked.
use Prim.Native.Nat.{ℕ, suc, ◌≤◌, ◌<◌}
use mathlib.Core.Path.{◌≡◌, refl, sym, ◌∙◌}
use mathlib.Core.Bool.{true, true≢false}
use mathlib.Core.List.{List, [], ◌∷◌, map}
use native.Mathlib.Omega.{arith}
use lib.ListN.{get_or, length, length-map, get_or-map}
use borrow.Author.Tests.{lt-ltb, le-ltb}
use Rattle.rules.specs.Refusals.{passed}
use Rattle.rules.specs.Memory.{Memory, null}
use Rattle.rules.specs.Control.{Store, last_session}
use Rattle.rules.specs.Cycle.{stage}
use Rattle.rules.specs.Phases.{session_at, with_session, with_registers, with_mark, lowest_unmarked, move_on}
use Rattle.rules.specs.Collector.{forward_all, stack_flip}
use Rattle.rules.specs.Free.{Free, free_session}
use Rattle.rules.specs.declared.Session.{Session}
use Rattle.rules.proofs.memory.Cases.{lt_or}
use Rattle.rules.proofs.memory.Records.{Start}
use Rattle.rules.proofs.invariant.Stages.{st_stack_flip}
use Rattle.rules.proofs.invariant.Words.{Ok, Names, fwd}
use Rattle.rules.proofs.invariant.Sim.{Sim}
use Rattle.rules.proofs.invariant.Laws.{other, other_not, fwd_null, fwd_place, fwd_ok, fwd_names, to_other}
use Rattle.rules.proofs.invariant.Following.{Followable, forward-passed, follow-word}
use Rattle.rules.proofs.invariant.Spending.{spends_still}
use Rattle.rules.proofs.relation.Stepped.{Stepped, stepped_same}
use Rattle.rules.proofs.sessions.Session.{WordFits, SessionFits, session_sim_same, register_fits, session_fits}
use Rattle.rules.proofs.phases.Sessions.{lowest}
use Rattle.rules.proofs.phases.Flip.{flip_moves, flip_spends}

-- ---- a list of registers forwarded
forward_all-passed : {M : Memory} (to : ℕ) (vs : List ℕ) → ((k : ℕ) → Ok M (get_or vs k null)) → ((k : ℕ) → Start M (get_or vs k null) → Followable M (get_or vs k null))
    → forward_all M to vs ≡ passed (map (fwd M to) vs)
forward_all-passed to [] ok f = refl
forward_all-passed to (v ∷ vs) ok f = rw (forward-passed to (ok 0) (λ t d. f 0 t), forward_all-passed to vs (λ i. ok (suc i)) (λ i. f (suc i)))

forwarded-at : (M : Memory) (to : ℕ) (vs : List ℕ) (k : ℕ) → get_or (map (fwd M to) vs) k null ≡ fwd M to (get_or vs k null)
forwarded-at M to vs k = rw (fwd_null M to) at (get_or-map (fwd M to) vs k null)

module _ {K : ℕ → Type 0} {m : ℕ → ℕ} {s : Store} {f : Free} (h : Sim K m s f) (e : stage s.phase ≡ st_stack_flip) where
  -- ---- one session
  module _ (n : ℕ) (l : n ≤ last_session) (a : (session_at s n).attached ≡ true) where
    abbrev regs : List ℕ
    regs = (session_at s n).registers

    abbrev new : Session
    new = with_mark (with_registers (session_at s n) (map (fwd s.memory (other h)) regs)) true

    word_fits : (k : ℕ) → WordFits K m s new (fwd s.memory (other h) (get_or regs k null)) (get_or (free_session f n).registers k null)
    word_fits k =
        let w = register_fits h n k a in
        let names : Names (other h) (fwd s.memory (other h) (get_or regs k null)) =
        fwd_names h (omega arith) (omega arith) w.ok (w.clean (omega arith) (omega arith)) in
        record {
          ok = fwd_ok h w.ok;
          is = w.is ∙ sym (fwd_place h w.ok);
          names = λ b. absurd (omega (arith, b (omega arith)));
          marked = λ b c. names;
          scanned = λ b. absurd (omega arith);
          clean = λ b c z side. absurd (other_not h (sym (names z) ∙ side));
          kept = w.kept;
        }

    new_fits : SessionFits K m s new (free_session f n)
    new_fits = let z = session_fits h n l in record {
      registers = length-map regs (fwd s.memory (other h)) ∙ z.registers;
      free-registers = z.free-registers;
      attached = z.attached;
      low = z.low;
      allowed = z.allowed;
      idle = λ b. absurd (true≢false (sym a ∙ b));
      words = λ b k. rw (forwarded-at s.memory (other h) regs k) (word_fits k);
      free_idle = z.free_idle;
    }

    regs_ok : (k : ℕ) → Ok s.memory (get_or regs k null)
    regs_ok k = (register_fits h n k a).ok

    regs_follow : (k : ℕ) → Start s.memory (get_or regs k null) → Followable s.memory (get_or regs k null)
    regs_follow k = follow-word h (register_fits h n k a).names

  -- ---- the unit
  abbrev low : ℕ
  low = lowest_unmarked s.sessions

  low-attached : low < length s.sessions → (session_at s low).attached ≡ true
  unfolding session_at
  low-attached l = (lowest s.sessions l).0

  forwards : low < length s.sessions → Stepped K m s f (stack_flip s)
  unfolding stack_flip with_session
  forwards l =
      let b : low ≤ last_session = omega (arith, h.roots.sessions) in
      let a = low-attached l in
      stepped_same
      (rw (lt-ltb low (length s.sessions) l, to_other h (omega arith), forward_all-passed (other h) (regs low b a) (regs_ok low b a) (regs_follow low b a)))
      (session_sim_same h low b (new_fits low b a))
      refl (spends_still h.range (omega arith) refl refl refl)

  ends : length s.sessions ≤ low → Stepped K m s f (stack_flip s)
  unfolding stack_flip move_on
  ends l = stepped_same (rw (le-ltb low (length s.sessions) l)) (flip_moves h e l) refl (flip_spends h e)

  pub stack_flip-stepped : Stepped K m s f (stack_flip s)
  stack_flip-stepped = lt_or low (length s.sessions) forwards ends
