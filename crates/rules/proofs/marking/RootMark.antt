-- RootMark: the next global's record is shaded; past the last global it moves on.
use Prim.Native.Nat.{ℕ, ◌+◌, ◌≤◌, ◌<◌}
use mathlib.Core.Path.{◌≡◌, refl, ap, ◌∙◌}
use native.Mathlib.Omega.{arith}
use lib.ListN.{get_or}
use borrow.Author.Tests.{lt-ltb, le-ltb}
use Rattle.rules.specs.Memory.{null}
use Rattle.rules.specs.Control.{Store, with_walk, global_count}
use Rattle.rules.specs.Cycle.{stage}
use Rattle.rules.specs.Phases.{move_on}
use Rattle.rules.specs.Barriers.{shade}
use Rattle.rules.specs.Collector.{root_mark}
use Rattle.rules.specs.Free.{Free}
use Rattle.rules.proofs.memory.Cases.{lt_or}
use Rattle.rules.proofs.invariant.Stages.{st_root_mark}
use Rattle.rules.proofs.invariant.Sim.{Sim}
use Rattle.rules.proofs.invariant.Alive.{global_alive}
use Rattle.rules.proofs.invariant.Spending.{spends_early}
use Rattle.rules.proofs.relation.Stepped.{Stepped, stepped, stepped_same}
use Rattle.rules.proofs.phases.Moves.{root_mark_moves}
use Rattle.rules.proofs.marking.Shading.{Shaded, shading_marks}
use Rattle.rules.proofs.marking.WalkOn.{past_global}

module _ {K : ℕ → Type 0} {m : ℕ → ℕ} {s : Store} {f : Free} (h : Sim K m s f) (is : stage s.phase ≡ st_root_mark) where
  -- a global that is left
  global_left : s.walk.place < global_count → Stepped K m s f (root_mark s)
  unfolding root_mark
  global_left l =
      let k = s.walk.place in
      let i = s.walk.field in
      let v = get_or s.globals k null in
      let z : Shaded K m s f v = shading_marks h (omega arith) (omega arith) (h.roots.global_ok k)
      (h.root_halves.globals (omega arith) k) (global_alive h k) in
      let w = z.keeps in
      stepped {s' = with_walk (shade s z.it) (k + 1) i}
      (rw (lt-ltb k global_count l, z.passes))
      (past_global z.sim (ap stage w.phase ∙ is) k i (ap (λ x. x.place) w.walk) (ap (λ x. x.field) w.walk) l
      (rw (w.current, w.globals) z.clean))
      (omega (arith, w.frame.front 0)) (omega (arith, w.frame.front 1)) (spends_early h.range (omega arith))

  globals-done : global_count ≤ s.walk.place → Stepped K m s f (root_mark s)
  unfolding root_mark move_on
  globals-done l = stepped_same {s' = move_on s} (rw (le-ltb s.walk.place global_count l)) (root_mark_moves h is l) refl
      (spends_early h.range (omega arith))

  pub root_mark-stepped : Stepped K m s f (root_mark s)
  root_mark-stepped = lt_or s.walk.place global_count global_left globals-done
