-- 12 Reclaim: the whole unit.
use Prim.Native.Nat.{ℕ, ◌≤◌, ◌<◌}
use mathlib.Core.Path.{◌≡◌, refl}
use mathlib.Core.Bool.{true, false}
use native.Mathlib.Omega.{arith}
use borrow.Author.Tests.{lt-ltb, le-ltb}
use Rattle.rules.specs.Memory.{null, replica_at, frontier}
use Rattle.rules.specs.Control.{Store}
use Rattle.rules.specs.Cycle.{stage}
use Rattle.rules.specs.Phases.{move_on, without_charges}
use Rattle.rules.specs.Collector.{walked, below, past_record, have_level, reclaim}
use Rattle.rules.specs.Free.{Free}
use Rattle.rules.proofs.memory.Cases.{lt_or, bool_or}
use Rattle.rules.proofs.memory.Put.{frontier-put}
use Rattle.rules.proofs.invariant.Stages.{st_reclaim}
use Rattle.rules.proofs.invariant.Sim.{Sim}
use Rattle.rules.proofs.invariant.Following.{followed_start, follow_home}
use Rattle.rules.proofs.invariant.Accounts.{uncharged_sim}
use Rattle.rules.proofs.invariant.Spent.{spent_grows}
use Rattle.rules.proofs.invariant.Spending.{spends_late, spends_waiting}
use Rattle.rules.proofs.relation.Stepped.{Stepped, stepped, stepped_same}
use Rattle.rules.proofs.phases.Clear.{cleared_in, clear_sim}
use Rattle.rules.proofs.phases.Reclaimed.{front_less_0, front_less_1, reclaim_moves, reclaim_spends}

module _ {K : ℕ → Type 0} {m : ℕ → ℕ} {s : Store} {f : Free} (h : Sim K m s f) (e : stage s.phase ≡ st_reclaim) where
  -- below the frontier
  clears : have_level s ≡ true → s.walk.place < frontier s.memory s.current → Stepped K m s f (reclaim s)
  unfolding reclaim below past_record
  clears a l = stepped
      (rw (a, lt-ltb s.walk.place (frontier s.memory s.current) l, followed_start (follow_home h (cleared_in h e l))))
      (clear_sim h e l)
      (omega (arith, frontier-put s.memory (walked s) replica_at null 0))
      (omega (arith, frontier-put s.memory (walked s) replica_at null 1))
      (spends_late h.range (omega arith) (spent_grows (record {
        phase = refl;
        front = omega (arith, frontier-put s.memory (walked s) replica_at null s.current);
        blacks = λ a b. absurd (omega arith);
        others = λ a. absurd (omega arith);
      })))

  -- at the frontier
  ends : have_level s ≡ true → frontier s.memory s.current ≤ s.walk.place → Stepped K m s f (reclaim s)
  unfolding reclaim below move_on without_charges
  ends a d = stepped
      (rw (a, le-ltb s.walk.place (frontier s.memory s.current) d))
      (uncharged_sim (reclaim_moves h e d a)) (front_less_0 h e d) (front_less_1 h e d) (reclaim_spends h e d)

  waits : have_level s ≡ false → Stepped K m s f (reclaim s)
  unfolding reclaim
  waits a = stepped_same (rw a) h refl (spends_waiting h.range (omega arith))

  pub reclaim-stepped : Stepped K m s f (reclaim s)
  reclaim-stepped = bool_or (have_level s)
      (λ a. lt_or s.walk.place (frontier s.memory s.current) (clears a) (ends a))
      waits
