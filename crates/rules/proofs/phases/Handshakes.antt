-- Rest, and the phases that wait for every attached session to have the level.
use Prim.Native.Nat.{ℕ, ◌<◌}
use mathlib.Core.Path.{◌≡◌, refl}
use mathlib.Core.Logic.{◌≢◌}
use mathlib.Core.Bool.{true}
use native.Mathlib.Omega.{arith}
use Rattle.rules.specs.Control.{Store}
use Rattle.rules.specs.Cycle.{stage}
use Rattle.rules.specs.Phases.{move_on}
use Rattle.rules.specs.Collector.{rest, handshake, have_level}
use Rattle.rules.specs.Free.{Free}
use Rattle.rules.proofs.memory.Cases.{bool_or}
use Rattle.rules.proofs.invariant.Stages.{st_rest, st_heap_mark, st_stack_flip}
use Rattle.rules.proofs.invariant.Sim.{Sim}
use Rattle.rules.proofs.invariant.Spending.{spends_early, spends_waiting, spends_moving}
use Rattle.rules.proofs.relation.Stepped.{Stepped, stepped_same}
use Rattle.rules.proofs.phases.Moves.{Plain, rest_moves, handshake_moves}

module _ {K : ℕ → Type 0} {m : ℕ → ℕ} {s : Store} {f : Free} (h : Sim K m s f) where
  pub rest-stepped : stage s.phase ≡ st_rest → Stepped K m s f (rest s)
  unfolding rest move_on
  rest-stepped e = stepped_same refl (rest_moves h e) refl (spends_early h.range (omega arith))

  -- the step moves on if every attached session has the level, else it changes nothing
  pub waiting-stepped : stage s.phase ≢ st_heap_mark → stage s.phase < st_stack_flip → (have_level s ≡ true → Sim K m (move_on s) f) → Stepped K m s f (handshake s)
  unfolding handshake move_on
  waiting-stepped d b k = bool_or (have_level s)
      (λ l. stepped_same (rw l) (k l) refl (spends_moving h.range d b))
      (λ l. stepped_same (rw l) h refl (spends_waiting h.range d))

  -- the phases that only wait
  pub handshake-stepped : Plain (stage s.phase) → Stepped K m s f (handshake s)
  handshake-stepped w = waiting-stepped w.2 w.6 (handshake_moves h w)
