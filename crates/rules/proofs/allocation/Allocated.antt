-- What an allocation writes at each level keeps the invariant, and the reference that it gives may be put in a register.
use Prim.Native.Nat.{ℕ, zero, suc, ◌+◌, ◌≤◌, ◌<◌}
use mathlib.Core.Path.{◌≡◌, refl, sym, ◌∙◌}
use mathlib.Core.Logic.{◌⊎◌, inl, inr}
use mathlib.Core.Bool.{true}
use mathlib.Core.List.{[], ◌∷◌, ◌++◌}
use native.Mathlib.Omega.{arith}
use lib.ListN.{length}
use borrow.Author.Tests.{leb-true, le-leb, lt-leb}
use Rattle.rules.specs.Memory.{Memory, half, frontier, null, shape_word, size_of, white, black, next_reference, most_count}
use Rattle.rules.specs.Control.{Store, with_memory, with_births}
use Rattle.rules.specs.Cycle.{stage}
use Rattle.rules.specs.Phases.{other_half, fromspace, tospace}
use Rattle.rules.specs.Barriers.{room_in, allocation_room, next_birth, placed, allocated, allocated_reference}
use Rattle.rules.specs.Free.{Free}
use Rattle.rules.specs.declared.Session.{Session}
use Rattle.rules.proofs.Ranges.{both}
use Rattle.rules.proofs.memory.Cases.{lt_or, eq_or, either}
use Rattle.rules.proofs.memory.Encoding.{other_below_2, other_differs, other_other, only_other}
use Rattle.rules.proofs.memory.Records.{Filled}
use Rattle.rules.proofs.memory.Append.{Appended}
use Rattle.rules.proofs.memory.Allocation.{Placeable, placed-kept}
use Rattle.rules.proofs.invariant.Stages.{st_pre_mark2, st_allocate, st_pre_flip2, st_reclaim}
use Rattle.rules.proofs.invariant.Sim.{Sim}
use Rattle.rules.proofs.invariant.Laws.{cur_two, from-current, from_two, to-current}
use Rattle.rules.proofs.invariant.Spans.{Allowed, level_most, level_from, level_to, level_low}
use Rattle.rules.proofs.invariant.Spent.{Grows, grows_then, appended_grows}
use Rattle.rules.proofs.relation.Tracks.{tracked}
use Rattle.rules.proofs.sessions.Session.{WordFits}
use Rattle.rules.proofs.allocation.FreeRecords.{with_records, blank_record}
use Rattle.rules.proofs.allocation.Single.{Tint, single_sim, single_fits}
use Rattle.rules.proofs.allocation.Double.{Sides, double_sim, from_fits, to_fits}

-- ---- the colours of one record by level

white_tint : (st : ℕ) → (st ≤ st_pre_mark2) ⊎ (st ≡ st_reclaim) → Tint st white
white_tint st w = record {
  small = omega arith;
  at_rest = λ e. refl;
  at_reclaim = λ e. refl;
  none_black = λ e z. omega arith;
  none_grey = λ z. omega arith;
  marked = λ a b. absurd (either w (λ x. omega arith) (λ x. omega arith));
  phases = either w (λ x. inl (omega arith)) (λ x. inr x);
}

black_tint : (st : ℕ) → st_pre_mark2 ≤ st → st ≤ st_allocate → Tint st black
black_tint st a b = record {
  small = omega arith;
  at_rest = λ e. absurd (omega arith);
  at_reclaim = λ e. absurd (omega arith);
  none_black = λ e. absurd (omega arith);
  none_grey = λ z. omega arith;
  marked = λ c d z. omega arith;
  phases = inl b;
}

-- ---- M' has the new record, and v is its reference
pub record Allocation (K : ℕ → Type 0) (m : ℕ → ℕ) (s : Store) (f : Free) (r p : ℕ) (M' : Memory) (v : ℕ) : Type 0 where
  pub sim : Sim K (tracked (suc (length f.records)) m s.memory M') (with_births (with_memory s M') (next_birth s)) (with_records f (f.records ++ blank_record r p ∷ []))
  pub fits : (y : Session) → WordFits K (tracked (suc (length f.records)) m s.memory M') (with_births (with_memory s M') (next_birth s)) y v (suc (length f.records))
  pub grows : Grows s (with_births (with_memory s M') (next_birth s))
  pub fronts : (g : ℕ) → g < 2 → frontier M' g ≤ frontier s.memory g + size_of r p

-- the count of birth numbers is no part of it
counted_grows : {s t : Store} {n : ℕ} → Grows s t → Grows s (with_births t n)
counted_grows k = record { phase = k.phase; front = k.front; blacks = k.blacks; others = k.others }

room-known : (M : Memory) (h r p : ℕ) → room_in M h r p ≡ true → frontier M h + size_of r p ≤ length (half M h)
unfolding room_in
room-known M h r p e = leb-true (frontier M h + size_of r p) (length (half M h)) e

module _ {K : ℕ → Type 0} {m : ℕ → ℕ} {s : Store} {f : Free} (h : Sim K m s f) (l r p : ℕ) (rb : r ≤ most_count) (pb : p ≤ most_count) (allow : Allowed s.phase l)
    (room : allocation_room s l r p ≡ true) where
  abbrev M : Memory
  M = s.memory

  -- the shape passed its test
  placeable : {N : Memory} {g c : ℕ} → Filled N → g < 2 → c ≤ black → frontier N g + size_of r p ≤ length (half N g) → Placeable N g r p c
  placeable n two small fits = record { filled = n; side = two; few-refs = rb; few-plains = pb; tint = small; room = fits }

  -- ---- one half
  room_one : l ≤ 2 → frontier M s.current + size_of r p ≤ length (half M s.current)
  unfolding allocation_room
  room_one i = room-known M s.current r p (rw (le-leb l 2 i) at room)

  one_half : (c : ℕ) → l ≤ 2 → Tint (stage s.phase) c → Allocation K m s f r p (placed M s.current r p c null (next_birth s)) (next_reference M s.current)
  one_half c i t =
      let k = placed-kept (placeable h.filled (cur_two h) t.small (room_one i)) null (next_birth s) in
      record {
        sim = single_sim h r p pb t k;
        fits = single_fits h r p pb t k;
        grows = counted_grows (appended_grows (cur_two h) k);
        fronts = λ g two. eq_or g s.current (λ e. rw e (omega (arith, k.front))) (λ d. omega (arith, k.front_other g two d));
      }

  -- ---- both halves
  room_both : 3 ≤ l → (g : ℕ) → g < 2 → frontier M g + size_of r p ≤ length (half M g)
  unfolding allocation_room
  room_both i zero two = room-known M 0 r p (both (room_in M 0 r p) (room_in M 1 r p) (rw (lt-leb l 2 i) at room)).0
  room_both i (suc zero) two = room-known M 1 r p (both (room_in M 0 r p) (room_in M 1 r p) (rw (lt-leb l 2 i) at room)).1
  room_both i (suc (suc g)) two = absurd (omega arith)

  sides : st_allocate ≤ stage s.phase → Sides s.current (stage s.phase) (fromspace s)
  unfolding tospace
  sides late = record {
    two = from_two h;
    late = late;
    flips = λ b. from-current h (omega arith);
    flipped = λ e. to-current h e;
  }

  module _ (i : 3 ≤ l) (late : st_allocate ≤ stage s.phase) where
    abbrev from : ℕ
    from = fromspace s

    abbrev M₁ : Memory
    M₁ = placed M from r p black (next_reference M (other_half from)) (next_birth s)

    abbrev M₂ : Memory
    M₂ = placed M₁ (other_half from) r p white (next_reference M from) (next_birth s)

    first : Appended M M₁ from (shape_word r p) black (next_reference M (other_half from)) (next_birth s) (r + p)
    first = placed-kept (placeable h.filled (sides late).two (omega arith) (room_both i from (sides late).two)) (next_reference M (other_half from)) (next_birth s)

    second : Appended M₁ M₂ (other_half from) (shape_word r p) white (next_reference M from) (next_birth s) (r + p)
    second =
        let e = first.front_other (other_half from) (other_below_2 from) (other_differs from (sides late).two) in
        placed-kept (placeable first.filled (other_below_2 from) (omega arith) (rw (e, first.lengths (other_half from)) (room_both i (other_half from) (other_below_2 from)))) (next_reference M from) (next_birth s)

    both_grow : Grows s (with_births (with_memory s M₂) (next_birth s))
    both_grow = counted_grows (grows_then (appended_grows (cur_two h) first) (appended_grows {s = with_memory s M₁} (cur_two h) second))

    both_fronts : (g : ℕ) → g < 2 → frontier M₂ g ≤ frontier M g + size_of r p
    both_fronts g two = eq_or g (other_half from)
        (λ e. rw e (omega (arith, second.front, first.front_other (other_half from) (other_below_2 from) (other_differs from (sides late).two))))
        (λ d. let o : g ≡ from = only_other (other_half from) g (other_below_2 from) two d ∙ other_other from (sides late).two in
        rw o (omega (arith, second.front_other from (sides late).two (λ e. other_differs from (sides late).two (sym e)), first.front)))

    both_from : stage s.phase ≤ st_pre_flip2 → Allocation K m s f r p M₂ (next_reference M from)
    both_from hi = record { sim = double_sim h r p pb (sides late) first second; fits = from_fits h r p pb (sides late) first second hi; grows = both_grow; fronts = both_fronts }

    both_to : st_pre_flip2 ≤ stage s.phase → Allocation K m s f r p M₂ (next_reference M (other_half from))
    both_to lo = record { sim = double_sim h r p pb (sides late) first second; fits = to_fits h r p pb (sides late) first second lo; grows = both_grow; fronts = both_fronts }

  -- ---- all levels
  abbrev Goal : Type 0
  Goal = Allocation K m s f r p (allocated s l r p) (allocated_reference s l)

  at_0 : l ≤ 1 → Goal
  unfolding allocated allocated_reference
  at_0 i = rw (le-leb l 1 i, le-leb l 2 (omega arith))
      (one_half white (omega arith) (white_tint (stage s.phase) (level_low 1 (omega arith) h.range.phases allow i)))

  at_2 : l ≡ 2 → Goal
  unfolding allocated allocated_reference
  at_2 e =
      rw (lt-leb l 1 (omega arith), le-leb l 2 (omega arith)) (one_half black (omega arith) (black_tint (stage s.phase)
      (level_from 2 (omega arith) h.range.phases allow (omega arith)) (level_to 2 (omega arith) h.range.phases allow (omega arith) (omega arith))))

  at_3 : 3 ≤ l → l ≤ 5 → Goal
  unfolding allocated allocated_reference tospace
  at_3 i j =
      rw (lt-leb l 1 (omega arith), lt-leb l 2 (omega arith), le-leb l 5 j)
      (both_from i (level_from 3 (omega arith) h.range.phases allow i) (level_to 5 (omega arith) h.range.phases allow (omega arith) j))

  at_6 : l ≡ 6 → Goal
  unfolding allocated allocated_reference tospace
  at_6 e =
      let q : st_pre_flip2 ≤ stage s.phase = level_from 6 (omega arith) h.range.phases allow (omega arith) in
      rw (lt-leb l 1 (omega arith), lt-leb l 2 (omega arith), lt-leb l 5 (omega arith)) (both_to (omega arith) (omega arith) q)

  pub allocation : Allocation K m s f r p (allocated s l r p) (allocated_reference s l)
  allocation =
      let most = level_most s.phase l h.range.phases allow in
      lt_or l 2 (λ a. at_0 (omega arith))
      (λ a. eq_or l 2 at_2 (λ d. eq_or l 6 at_6 (λ d'. at_3 (omega arith) (omega arith))))
