-- The flip: StackFlip's last move makes the other half the current one. Its records hold what the replicated ones held.
use Prim.Native.Nat.{ℕ, ◌≤◌}
use mathlib.Core.Path.{◌≡◌, refl}
use native.Mathlib.Omega.{arith}
use lib.ListN.{get_or, length}
use Rattle.rules.specs.Memory.{frontier, black, colour}
use Rattle.rules.specs.Control.{Store, with_current}
use Rattle.rules.specs.Cycle.{stage, at_stack_flip}
use Rattle.rules.specs.Phases.{tospace, level_of, next_phase, absent, unmarked, move_on, lowest_unmarked}
use Rattle.rules.specs.Free.{Free}
use Rattle.rules.proofs.memory.Cases.{eq_or, bool_or}
use Rattle.rules.proofs.memory.Encoding.{other_below_2}
use Rattle.rules.proofs.memory.Walk.{walk-zero}
use Rattle.rules.proofs.memory.Total.{total_le}
use Rattle.rules.proofs.invariant.Stages.{st_stack_flip, st_reclaim, stage-next}
use Rattle.rules.proofs.invariant.Words.{Names, copied, done, reg}
use Rattle.rules.proofs.invariant.Groups.{Values, Levels, level_before, FieldHalves, Pairs}
use Rattle.rules.proofs.invariant.Marking.{Walking, Kept}
use Rattle.rules.proofs.invariant.Sim.{Sim}
use Rattle.rules.proofs.invariant.Laws.{cur_two, other, to_other}
use Rattle.rules.proofs.invariant.Originals.{original, original_in, original_paired, original_ref, original_plain}
use Rattle.rules.proofs.invariant.Idle.{agreement_late, list_idle, cleaned_idle, colours_reclaim, roots_home, walking-reclaim}
use Rattle.rules.proofs.invariant.Unmarked.{unmarked_reg, roots_unmarked}
use Rattle.rules.proofs.invariant.Range.{range_moved, range_current}
use Rattle.rules.proofs.invariant.Carried.{kept_carried}
use Rattle.rules.proofs.invariant.Counted.{copied_size, done_none, done_work, work_size}
use Rattle.rules.proofs.invariant.Spent.{done_in}
use Rattle.rules.proofs.invariant.Spending.{Spends, spends_late}
use Rattle.rules.proofs.phases.Sessions.{all_marked}
use Rattle.rules.proofs.phases.Moves.{steady}
use Rattle.rules.proofs.phases.MoveOn.{levels_on}

module _ {K : ℕ → Type 0} {m : ℕ → ℕ} {s : Store} {f : Free} (h : Sim K m s f) (e : stage s.phase ≡ st_stack_flip) where
  -- ---- the fields of the other half's records are those of their originals
  values_flip : Values s.memory m (other h) f.records
  values_flip = record {
    ok = h.field_halves.away_ok (omega arith);
    ref = λ v i t. original_ref h (omega arith) t (omega arith) i;
    plain = λ v i t. original_plain h (omega arith) t (omega arith) i;
  }

  -- ---- the other groups
  flip_steady : level_of at_stack_flip ≡ level_before at_stack_flip
  unfolding level_of level_before
  flip_steady = refl

  levels_flip : Levels (next_phase s.phase) (unmarked s.sessions)
  levels_flip = levels_on h.range (steady h at_stack_flip (omega arith) e flip_steady)

  reg_flipped : length s.sessions ≤ lowest_unmarked s.sessions → (n k : ℕ) → Names (other h) (reg s.sessions n k)
  reg_flipped l n k = bool_or (get_or s.sessions n absent).attached
      (λ a. h.root_halves.marked e n k a (all_marked s.sessions l n a))
      (λ a o. absurd (o (h.roots.idle n k a)))

  field_halves_flip : FieldHalves s.memory (other h) st_reclaim
  field_halves_flip = record {
    home = λ a. h.field_halves.away (omega arith);
    away = λ a. absurd (omega arith);
    away_ok = λ a. absurd (omega arith);
  }

  pairs_flip : Pairs s.memory m (other h) st_reclaim
  pairs_flip = record {
    pair = λ v t n. (h.pairs.home (omega arith) v t).1;
    home = λ a. absurd (omega arith);
    empty = λ a. absurd (omega arith);
    spent = λ a. absurd (omega arith);
  }

  walking_flip : Walking s.memory (other h) st_reclaim 0 0 s.list.head s.list.tail
  walking_flip = walking-reclaim refl (walk-zero s.memory (other h)) (λ v t l. absurd (omega arith))

  -- a record of the other half is the replica of a marked one
  kept_flip : Kept K s.memory m (other h) st_reclaim f.records f.sessions f.globals
  kept_flip = kept_carried (λ a b. absurd (omega arith))
      (λ a v t. let o = original_in h (omega arith) t in
      rw (← (original h (omega arith) t).same) (h.kept.marked (omega arith) (omega arith) _ o
      (h.colours.paired_marked (omega arith) _ o (original_paired h (omega arith) t))))
      (λ a. absurd (omega arith)) h.kept

  next : stage (next_phase s.phase) ≡ st_reclaim
  next = omega (arith, stage-next s.phase h.range.phases (omega arith))

  -- 11 StackFlip, all attached sessions forwarded
  pub flip_moves : length s.sessions ≤ lowest_unmarked s.sessions → Sim K m (with_current (move_on s) (tospace s)) f
  unfolding move_on
  flip_moves l = rw (to_other h (omega arith)) (record {
    range = range_current (range_moved h.range) (other h) (omega (arith, other_below_2 s.current));
    filled = h.filled;
    births = h.births;
    identity = h.identity;
    values = values_flip;
    roots = roots_unmarked h.roots;
    levels = levels_flip;
    root_halves = roots_home (omega (arith, next))
        (λ n k. rw (unmarked_reg s.sessions n k) (reg_flipped l n k)) (h.root_halves.flipped (omega arith) (omega arith));
    field_halves = rw next field_halves_flip;
    pairs = rw next pairs_flip;
    agreement = agreement_late (omega (arith, next));
    colours = colours_reclaim next (h.colours.replicas_white (omega arith));
    grey-list = list_idle (λ a. omega (arith, next, a.1));
    cleaned = cleaned_idle (λ a. omega (arith, next, a.1));
    walking = rw next walking_flip;
    kept = rw next kept_flip;
  })

  -- ---- the bound on marking: a black record has a replica, and the other half holds the sizes of those with one
  done_copied : done_in s.memory s.current ≤ frontier s.memory (other h)
  done_copied =
      let M = s.memory in
      rw (h.pairs.spent (omega arith)) (total_le M (cur_two h) (done M) (copied M) (λ v t side. eq_or (colour M v) black
      (λ b. omega (arith, done_work M v, work_size M v, copied_size M v (h.colours.shelled (omega arith) (omega arith) v (record { start = t; side = side }) (λ w. omega arith))))
      (λ b. omega (arith, done_none M v b))))

  pub flip_spends : Spends s (with_current (move_on s) (tospace s))
  unfolding move_on
  flip_spends = rw (to_other h (omega arith)) (spends_late h.range (omega arith) (λ n k. record {
    early = λ a b. absurd (omega (arith, next));
    marking = λ a. absurd (omega (arith, next));
    late = λ a b. absurd (omega (arith, next));
    at_reclaim = λ a. omega (arith, k.late (omega arith) (omega arith), done_copied);
    at_rest = λ a. absurd (omega (arith, next));
  }))
