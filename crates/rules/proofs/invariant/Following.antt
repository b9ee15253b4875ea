-- Following: which records pass its test, and that following, the other copy and forwarding pass for them. That replicas point back comes
-- from the pairs of the invariant.
use Prim.Native.Nat.{ℕ, ◌≤◌}
use mathlib.Core.Path.{◌≡◌, sym, ◌∙◌}
use mathlib.Core.Logic.{◌≢◌, ◌⊎◌}
use mathlib.Core.List.{List}
use native.Mathlib.Omega.{arith}
use borrow.Author.Tests.{ne_eqb}
use Rattle.rules.specs.Refusals.{passed}
use Rattle.rules.specs.Memory.{Memory, null, half_of, replica, followed, copy_of, other_copy, forward}
use Rattle.rules.specs.Control.{Store}
use Rattle.rules.specs.Cycle.{stage, at_reclaim}
use Rattle.rules.specs.Phases.{other_half}
use Rattle.rules.specs.Free.{Free, Record}
use Rattle.rules.specs.Claims.{PointsBack, CanFollow}
use Rattle.rules.proofs.memory.Cases.{eq_or, either}
use Rattle.rules.proofs.memory.Records.{Start, Filled, start_sound, start_nonnull}
use Rattle.rules.proofs.memory.Followed.{follow_passes, replica_follows}
use Rattle.rules.proofs.invariant.Stages.{st_stack_flip, st_reclaim, phase-is, in_stage}
use Rattle.rules.proofs.invariant.Words.{In, Ok, ok_null, ok_start, Names, fwd}
use Rattle.rules.proofs.invariant.Groups.{Identity, Pair, NoFlip}
use Rattle.rules.proofs.invariant.Sim.{Sim}
use Rattle.rules.proofs.invariant.Laws.{cur_two, other_not, in_or, in_half_yes, in_half_no, fwd_null, fwd_there, fwd_copy}
use Rattle.rules.proofs.invariant.Pairs.{pair_word}

-- the record that v names can be followed. The laws at the end of this file are the only ones to build it
pub record Followable (M : Memory) (v : ℕ) : Type 0 where
  filled : Filled M
  pub start : Start M v
  paired : replica M v ≢ null → PointsBack M (replica M v) v

-- ---- what passes then

can_follow : {M : Memory} {v : ℕ} → Followable M v → CanFollow M v
can_follow t = record { sound = start_sound t.filled t.start; paired = t.paired }

pub followed_start : {M : Memory} {v : ℕ} → Followable M v → followed M v ≡ passed tt
followed_start t = follow_passes (can_follow t)

pub other_copy-passed : {M : Memory} {v : ℕ} → Followable M v → other_copy M v ≡ passed (copy_of M v)
unfolding other_copy
other_copy-passed t = rw (followed_start t)

-- only a word that isn't in tospace is followed
pub forward-passed : {M : Memory} {v : ℕ} (to : ℕ) → Ok M v → (Start M v → half_of v ≢ to → Followable M v) → forward M to v ≡ passed (fwd M to v)
unfolding forward
forward-passed {M} {v} to (ok_null e) f = rw (e, fwd_null M to)
forward-passed {M} {v} to (ok_start t) f = eq_or (half_of v) to
    (λ e. rw (ne_eqb v null (start_nonnull t), in_half_yes t e, fwd_there (record { start = t; side = e })))
    (λ d. rw (ne_eqb v null (start_nonnull t), in_half_no t d, other_copy-passed (f t d), fwd_copy t d))

-- ---- the two copies of a record

-- w, a replica of v by the invariant, points back
pair_points : {M : Memory} {m : ℕ → ℕ} {rs : List Record} {v w : ℕ} → Filled M → Identity M m rs → Start M v → Pair M m v w → PointsBack M w v
pair_points f g t p = record { sound = start_sound f p.start; across = p.across; shape = pair_word g t p; back = p.back }

-- the replica of a record that can be followed
pub follow-replica : {M : Memory} {m : ℕ → ℕ} {v : ℕ} → Followable M v → Pair M m v (replica M v) → Followable M (replica M v)
follow-replica t p =
    record { filled = t.filled; start = p.start; paired = (replica_follows (can_follow t) (start_nonnull p.start)).paired }

-- ---- which records can be followed, in a store that keeps the invariant
module _ {K : ℕ → Type 0} {m : ℕ → ℕ} {s : Store} {f : Free} (h : Sim K m s f) where
  -- a record of the current half, in every phase
  pub follow_home : {v : ℕ} → In s.memory s.current v → Followable s.memory v
  follow_home {v} t = record {
    filled = h.filled;
    start = t.start;
    paired = λ n. pair_points h.filled h.identity t.start (h.pairs.pair v t n);
  }

  -- one of the other half, up to StackFlip
  pub follow_away : {v : ℕ} → stage s.phase ≤ st_stack_flip → In s.memory (other_half s.current) v → Followable s.memory v
  follow_away {v} hi t = record {
    filled = h.filled;
    start = t.start;
    paired = λ n. pair_points h.filled h.identity t.start (h.pairs.home hi v t).1;
  }

  -- so a word that names the current half but in the flips
  pub follow-word : {v : ℕ} → (NoFlip (stage s.phase) → Names s.current v) → Start s.memory v → Followable s.memory v
  follow-word n t = in_or s.current (cur_two h) t follow_home
      (λ q. eq_or (stage s.phase) st_reclaim
      (λ e. absurd (other_not h (sym q.side ∙ n (omega arith) (start_nonnull t))))
      (λ d. follow_away (omega (arith, in_stage h.range)) q))

  -- and every record of the current half, before Reclaim of the other too
  pub follow_record : {g v : ℕ} → (g ≡ s.current) ⊎ (s.phase ≢ at_reclaim) → Start s.memory v → half_of v ≡ g → Followable s.memory v
  follow_record w t side = either w
      (λ e. follow_home (record { start = t; side = side ∙ e }))
      (λ d. in_or s.current (cur_two h) t follow_home (follow_away (before-reclaim d)))
    where
      before-reclaim : s.phase ≢ at_reclaim → stage s.phase ≤ st_stack_flip
      before-reclaim d =
          let n : stage s.phase ≢ st_reclaim = λ e. d (phase-is at_reclaim h.range.phases (omega arith) e) in
          omega (arith, in_stage h.range)
