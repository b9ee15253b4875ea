-- Reclaim's end: the walk is at the frontier, so no record of the current half has a replica; the other half is emptied, and the
-- store rests.
use Prim.Native.Nat.{ℕ, ◌≤◌, ◌<◌}
use mathlib.Core.Path.{◌≡◌, refl, sym, ◌∙◌}
use mathlib.Core.Bool.{true}
use native.Mathlib.Omega.{arith}
use Rattle.rules.specs.Memory.{Memory, null, half_of, with_frontier, colour, replica, birth_number, refs, frontier, colour_at, replica_at, birth_at}
use Rattle.rules.specs.Control.{Store, with_memory}
use Rattle.rules.specs.Cycle.{stage}
use Rattle.rules.specs.Phases.{other_half, next_phase, move_on, without_charges}
use Rattle.rules.specs.Collector.{have_level}
use Rattle.rules.specs.Free.{Free}
use Rattle.rules.proofs.memory.Cases.{eq_or}
use Rattle.rules.proofs.memory.Encoding.{other_below_2}
use Rattle.rules.proofs.memory.Records.{Start}
use Rattle.rules.proofs.memory.Walk.{walk-done}
use Rattle.rules.proofs.memory.Empty.{Emptied, empty-kept}
use Rattle.rules.proofs.memory.Total.{total_none}
use Rattle.rules.proofs.invariant.Stages.{st_rest, st_reclaim, stage-first}
use Rattle.rules.proofs.invariant.Words.{In, Ok, ok_null, ok_start, Names, field, plain_of, copied}
use Rattle.rules.proofs.invariant.Groups.{Values, Roots, FieldHalves, Pairs}
use Rattle.rules.proofs.invariant.Marking.{Colours, Kept}
use Rattle.rules.proofs.invariant.Sim.{Sim}
use Rattle.rules.proofs.invariant.Laws.{cur_two, other_not}
use Rattle.rules.proofs.invariant.Idle.{agreement_early, list_idle, cleaned_idle, walking_idle, roots_home}
use Rattle.rules.proofs.invariant.Unmarked.{unmarked_reg, roots_unmarked}
use Rattle.rules.proofs.invariant.Range.{range_moved, range_memory}
use Rattle.rules.proofs.invariant.Carried.{in_carried, Within, identity_carried, values_carried, roots_carried, kept_carried}
use Rattle.rules.proofs.invariant.Counted.{copied_none}
use Rattle.rules.proofs.invariant.Spending.{Spends, spends_late}
use Rattle.rules.proofs.phases.MoveOn.{levels_on}
use Rattle.rules.proofs.phases.Moves.{have_level_lem}

module _ {K : ℕ → Type 0} {m : ℕ → ℕ} {s : Store} {f : Free} (h : Sim K m s f) (e : stage s.phase ≡ st_reclaim) (d : frontier s.memory s.current ≤ s.walk.place) where
  abbrev M : Memory
  M = s.memory

  abbrev other : ℕ
  other = other_half s.current

  abbrev M' : Memory
  M' = with_frontier M other 0

  gone : Emptied M M' other
  gone = empty-kept h.filled other (other_below_2 s.current)

  -- ---- records and words of the current half stay
  in_back : {v : ℕ} → In M' s.current v → In M s.current v
  in_back t = in_carried gone.back t

  none : {C : Type 0} {v : ℕ} → In M' other v → C
  none t = absurd (gone.gone t.start t.side)

  ok_stays : {v : ℕ} → Ok M v → Names s.current v → Ok M' v
  ok_stays (ok_null z) n = ok_null z
  ok_stays {v} (ok_start t) n = eq_or v null (λ z. ok_null z) (λ z. ok_start (gone.to t (λ o. other_not h (sym o ∙ n z))))

  same-colour : (v : ℕ) → colour M' v ≡ colour M v
  unfolding colour
  same-colour v = gone.same v colour_at

  same-replica : (v : ℕ) → replica M' v ≡ replica M v
  unfolding replica
  same-replica v = gone.same v replica_at

  same-birth : (v : ℕ) → birth_number M' v ≡ birth_number M v
  unfolding birth_number
  same-birth v = gone.same v birth_at

  same-field : (v i : ℕ) → field M' v i ≡ field M v i
  same-field v i = gone.same v _

  same_plain : (v i : ℕ) → plain_of M' v i ≡ plain_of M v i
  same_plain v i = rw (gone.same-refs v) (gone.same v _)

  -- and have no replica
  alone : (v : ℕ) → In M' s.current v → replica M' v ≡ null
  alone v t =
      let a = in_back t in
      same-replica v ∙ h.walking.cleared e v a (walk-done d a.start a.side)

  alone_weight : (v : ℕ) → Start M' v → half_of v ≡ s.current → copied M' v ≡ 0
  alone_weight v t side = copied_none M' v (alone v (record { start = t; side = side }))

  -- ---- the groups
  front_less : (g : ℕ) → g < 2 → frontier M' g ≤ frontier M g
  front_less g two = eq_or g other (λ q. rw q (omega (arith, gone.front))) (λ q. omega (arith, gone.front_other g two q))

  pub front_less_0 : frontier (with_frontier s.memory (other_half s.current) 0) 0 ≤ frontier s.memory 0
  front_less_0 = front_less 0 (omega arith)

  pub front_less_1 : frontier (with_frontier s.memory (other_half s.current) 0) 1 ≤ frontier s.memory 1
  front_less_1 = front_less 1 (omega arith)

  next : stage (next_phase s.phase) ≡ st_rest
  next = stage-first s.phase h.range.phases e

  within : Within M M'
  within = record { back = gone.back; refs = λ t. gone.same-refs _; plains = λ t. gone.same-plains _ }

  field_names : (v i : ℕ) → In M s.current v → i < refs M v → Names s.current (field M v i)
  field_names = h.field_halves.home (omega arith)

  values-empty : Values M' m s.current f.records
  values-empty = let g = h.values in
      values_carried within (λ v i t l. same-field v i) (λ v i t l. ok_stays (g.ok v i t l) (field_names v i t l)) (λ v i t l. same_plain v i) g

  roots_empty : Roots M' m s.sessions f.sessions s.globals f.globals
  roots_empty = let g = h.roots in roots_carried
      (λ n k. ok_stays (g.reg_ok n k) (h.root_halves.regs (omega arith) n k))
      (λ k. ok_stays (g.global_ok k) (h.root_halves.globals (omega arith) k))
      (λ u o. refl) g

  field_halves_empty : FieldHalves M' s.current st_rest
  field_halves_empty = record {
    home = λ a v i t l. rw (same-field v i) (field_names v i (in_back t) (rw (gone.same-refs v) at l));
    away = λ a v i t. none t;
    away_ok = λ a v i t. none t;
  }

  pairs-empty : Pairs M' m s.current st_rest
  pairs-empty = record {
    pair = λ v t n. absurd (n (alone v t));
    home = λ a v t. none t;
    empty = λ a. gone.front;
    spent = λ a. gone.front ∙ sym (total_none gone.filled (cur_two h) (copied M') alone_weight);
  }

  colours_empty : Colours M' s.current st_rest 0
  colours_empty = record {
    at_rest = λ a v t. same-colour v ∙ h.colours.at_reclaim e v (in_back t);
    at_reclaim = λ a. absurd (omega arith);
    none_black = λ a. absurd (omega arith);
    none_grey = λ a b. absurd (omega arith);
    replicas_white = λ a v t. none t;
    paired_marked = λ a v t n. absurd (n (alone v t));
    shelled_below = λ a. absurd (omega arith);
    shelled = λ a b. absurd (omega arith);
  }

  kept-empty : Kept K M' m s.current st_rest f.records f.sessions f.globals
  kept-empty = kept_carried (λ a b. absurd (omega arith)) (λ a. absurd (omega arith)) (λ a v t. h.kept.left-at_reclaim e v (in_back t)) h.kept

  -- 12 Reclaim, at the frontier
  pub reclaim_moves : have_level s ≡ true → Sim K m (move_on (with_memory s (with_frontier s.memory (other_half s.current) 0))) f
  unfolding move_on
  reclaim_moves l = record {
    range = range_moved (range_memory h.range gone.filled gone.lengths);
    filled = gone.filled;
    births = h.births;
    identity = identity_carried within (λ v t. same-birth v) h.identity;
    values = values-empty;
    roots = roots_unmarked roots_empty;
    levels = levels_on h.range (have_level_lem h l);
    root_halves = roots_home (omega (arith, next))
        (λ n k. rw (unmarked_reg s.sessions n k) (h.root_halves.regs (omega arith) n k))
        (h.root_halves.globals (omega arith));
    field_halves = rw next field_halves_empty;
    pairs = rw next pairs-empty;
    agreement = agreement_early (omega (arith, next));
    colours = rw next colours_empty;
    grey-list = list_idle (λ a. omega (arith, next, a.0));
    cleaned = cleaned_idle (λ a. omega (arith, next, a.0));
    walking = walking_idle (omega (arith, next)) (omega (arith, next)) (omega (arith, next)) (omega (arith, next));
    kept = rw next kept-empty;
  }

  -- the current half keeps its words
  pub reclaim_spends : Spends s (without_charges (move_on (with_memory s (with_frontier s.memory (other_half s.current) 0))))
  unfolding move_on without_charges
  reclaim_spends = spends_late h.range (omega arith) (λ n k. record {
    early = λ a b. absurd (omega (arith, next));
    marking = λ a. absurd (omega (arith, next));
    late = λ a b. absurd (omega (arith, next));
    at_reclaim = λ a. absurd (omega (arith, next));
    at_rest = λ a. omega (arith, k.at_reclaim e, gone.front_other s.current (cur_two h) (λ q. other_not h (sym q)));
  })
