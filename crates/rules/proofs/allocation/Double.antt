-- A new record in both halves (levels 3 to 6): the fromspace copy black, the tospace copy white, each the other's replica.
use Prim.Native.Nat.{ℕ, suc, ◌+◌, ◌≤◌, ◌<◌}
use mathlib.Core.Path.{◌≡◌, refl, sym, ap, ◌∙◌}
use mathlib.Core.Logic.{◌≢◌, ◌⊎◌, inl, inr}
use mathlib.Core.List.{List, [], ◌∷◌, ◌++◌}
use native.Mathlib.Nat.{le_refl}
use native.Mathlib.Omega.{arith}
use lib.ListN.{length, length-replicate}
use Rattle.rules.specs.Memory.{Memory, frontier, null, half_of, header, shape_word, white, black, colour, replica, birth_number, refs, plains, next_reference, most_count}
use Rattle.rules.specs.Control.{Store, with_memory, with_births}
use Rattle.rules.specs.Cycle.{stage}
use Rattle.rules.specs.Phases.{other_half}
use Rattle.rules.specs.Barriers.{next_birth}
use Rattle.rules.specs.Free.{Free, Record}
use Rattle.rules.specs.declared.Session.{Session}
use Rattle.rules.proofs.memory.Cases.{either}
use Rattle.rules.proofs.memory.Encoding.{other_below_2, other_differs, refs-shape, plains-shape}
use Rattle.rules.proofs.memory.Records.{Start}
use Rattle.rules.proofs.memory.Next.{next-half, next_nonnull, next-same}
use Rattle.rules.proofs.memory.Append.{Appended}
use Rattle.rules.proofs.memory.Total.{total, total_equal, total_kept, total_append}
use Rattle.rules.proofs.invariant.Stages.{st_allocate, st_pre_flip2, st_stack_flip, st_reclaim, in_stage}
use Rattle.rules.proofs.invariant.Words.{ok_start, copied}
use Rattle.rules.proofs.invariant.Groups.{Pair}
use Rattle.rules.proofs.invariant.Protected.{clean_covered}
use Rattle.rules.proofs.invariant.Sim.{Sim}
use Rattle.rules.proofs.invariant.Laws.{cur_two}
use Rattle.rules.proofs.invariant.Counted.{copied_same, copied_size}
use Rattle.rules.proofs.relation.Tracks.{tracked, tracked_none, tracked_old, tracked_new}
use Rattle.rules.proofs.sessions.Session.{WordFits}
use Rattle.rules.proofs.allocation.Grown.{Grown, append-grown, both_grown, grown-birth, grown-colour, grown-size, grown-refs, grown-plains}
use Rattle.rules.proofs.allocation.Growth.{Placed, Joined, Tinted}
use Rattle.rules.proofs.allocation.GrowSim.{grown_sim}
use Rattle.rules.proofs.allocation.FreeRecords.{with_records, blank_record, longer_by, new_place_lem, new_length}

-- where fromspace is: the current half but in Reclaim
pub record Sides (cur st from : ℕ) : Type 0 where
  pub two : from < 2
  pub late : st_allocate ≤ st
  pub flips : st ≤ st_stack_flip → from ≡ cur
  pub flipped : st ≡ st_reclaim → other_half from ≡ cur

-- the two records, one after the other: M₁ has the first, M₂ both
module _ {K : ℕ → Type 0} {m : ℕ → ℕ} {s : Store} {f : Free} (h : Sim K m s f) {M₁ M₂ : Memory} {from : ℕ} (r p : ℕ) (pb : p ≤ most_count)
    (sides : Sides s.current (stage s.phase) from)
    (one : Appended s.memory M₁ from (shape_word r p) black (next_reference s.memory (other_half from)) (next_birth s) (r + p))
    (more : Appended M₁ M₂ (other_half from) (shape_word r p) white (next_reference s.memory from) (next_birth s) (r + p)) where
  abbrev M : Memory
  M = s.memory

  abbrev cur : ℕ
  cur = s.current

  abbrev to : ℕ
  to = other_half from

  abbrev a : ℕ
  a = next_reference M from

  abbrev b : ℕ
  b = next_reference M to

  abbrev New : ℕ → Type 0
  New u = (u ≡ a) ⊎ (u ≡ next_reference M₁ to)

  abbrev Re : ℕ → Type 0
  Re u = ⊥ ⊎ ⊥

  abbrev rs : List Record
  rs = f.records

  abbrev rs' : List Record
  rs' = f.records ++ blank_record r p ∷ []

  abbrev m' : ℕ → ℕ
  m' = tracked (suc (length rs)) m M M₂

  later : Grown M₁ M₂ (λ u. u ≡ next_reference M₁ to) (λ u. ⊥)
  later = append-grown more

  grown : Grown M M₂ New Re
  grown = both_grown (append-grown one) later

  to_two : to < 2
  to_two = other_below_2 from

  halves_differ : to ≢ from
  halves_differ = other_differs from sides.two

  from_differs : from ≢ to
  from_differs e = halves_differ (sym e)

  -- the second record's reference is known before the first is there
  next_b : next_reference M₁ to ≡ b
  next_b = next-same M M₁ to (one.front_other to to_two halves_differ)

  new_a : New a
  new_a = inl refl

  new_b : New b
  new_b = inr (sym next_b)

  which : {u : ℕ} {C : Type 0} → New u → (u ≡ a → C) → (u ≡ b → C) → C
  which n f g = either n f (λ e. g (e ∙ next_b))

  half_a : half_of a ≡ from
  half_a = next-half M from sides.two

  half_b : half_of b ≡ to
  half_b = next-half M to to_two

  start_a : Start M₂ a
  start_a = grown.made new_a

  start_b : Start M₂ b
  start_b = grown.made new_b

  -- ---- their words
  colour_a : colour M₂ a ≡ black
  colour_a = grown-colour later one.made ∙ one.new_colour

  colour_b : colour M₂ b ≡ white
  colour_b = ap (colour M₂) (sym next_b) ∙ more.new_colour

  replica_a : replica M₂ a ≡ b
  replica_a = either (later.same-replica one.made) (λ e. e ∙ one.new_replica) (λ n. absurd n)

  replica_b : replica M₂ b ≡ a
  replica_b = ap (replica M₂) (sym next_b) ∙ more.new_replica

  birth_both : {u : ℕ} → New u → birth_number M₂ u ≡ next_birth s
  birth_both n = which n
      (λ e. rw e (grown-birth later one.made ∙ one.new_birth))
      (λ e. rw (e, ← next_b) more.new_birth)

  refs_both : {u : ℕ} → New u → refs M₂ u ≡ r
  refs_both n = which n
      (λ e. rw e (grown-refs later one.made ∙ one.new_refs ∙ refs-shape r p pb))
      (λ e. rw (e, ← next_b) (more.new_refs ∙ refs-shape r p pb))

  plains_both : {u : ℕ} → New u → plains M₂ u ≡ p
  plains_both n = which n
      (λ e. rw e (grown-plains later one.made ∙ one.new_plains ∙ plains-shape r p pb))
      (λ e. rw (e, ← next_b) (more.new_plains ∙ plains-shape r p pb))

  nonnull : {u : ℕ} → New u → replica M₂ u ≢ null
  nonnull n = which n (λ e. rw (e, replica_a) (next_nonnull M to)) (λ e. rw (e, replica_b) (next_nonnull M from))

  -- ---- frontiers
  front-from : frontier M₂ from ≡ frontier M from + (header + (r + p))
  front-from = more.front_other from sides.two from_differs ∙ one.front

  front-to : frontier M₂ to ≡ frontier M to + (header + (r + p))
  front-to = let e = one.front_other to to_two halves_differ in more.front ∙ rw e

  placing : Placed M M₂ New m m' cur (suc (length rs)) rs rs'
  placing = record {
    none = tracked_none (suc (length rs)) m M M₂;
    old = tracked_old (suc (length rs)) m M M₂;
    new = λ n. which n
        (λ e. rw e (tracked_new (suc (length rs)) m M M₂ from sides.two (omega (arith, front-from))))
        (λ e. rw e (tracked_new (suc (length rs)) m M M₂ to to_two (omega (arith, front-to))));
    low = omega arith;
    high = omega (arith, new_length rs (blank_record r p));
    born = λ n. birth_both n ∙ ap suc h.births;
    nrefs = λ n. rw (new_place_lem rs (blank_record r p), refs_both n) (length-replicate r null);
    nplains = λ n. rw (new_place_lem rs (blank_record r p), plains_both n) (length-replicate {A = ℕ} p 0);
    apart = λ {u} {v} n t side e. let z = h.identity.high v t in omega arith;
    single = λ n n' side. which n
        (λ e. which n' (λ e'. e' ∙ sym e) (λ e'. absurd (halves_differ (sym half_b ∙ rw (e, e') at side ∙ half_a))))
        (λ e. which n' (λ e'. absurd (from_differs (sym half_a ∙ rw (e, e') at side ∙ half_b))) (λ e'. e' ∙ sym e));
    fresh = λ n side. le_refl _;
  }

  pair_a : Pair M₂ m' a b
  pair_a = record {
    start = start_b;
    across = rw (half_a, half_b) halves_differ;
    back = replica_b;
    same = placing.new new_b ∙ sym (placing.new new_a);
  }

  pair_b : Pair M₂ m' b a
  pair_b = record {
    start = start_a;
    across = rw (half_a, half_b) from_differs;
    back = replica_a;
    same = placing.new new_a ∙ sym (placing.new new_b);
  }

  total_from : total M₂ from (copied M₂) ≡ total M from (copied M) + (header + (r + p))
  total_from =
      let e = total_kept (more.same_starts from sides.two from_differs) (copied M₂) in
      let q = total_append one (copied M₂) in
      let z : copied M₂ a ≡ header + (r + p) = copied_size M₂ a (nonnull new_a) ∙ grown-size later one.made ∙ one.new_size in
      let k = total_equal M sides.two (copied M₂) (copied M)
      (λ v t side. copied_same M M₂ v (either (grown.same-replica t) (λ e. e) (λ n. either n (λ n. absurd n) (λ n. absurd n))) (grown-size grown t)) in
      omega arith

  spent-after : stage s.phase ≤ st_stack_flip → frontier M₂ (other_half cur) ≡ total M₂ cur (copied M₂)
  spent-after l =
      let k = h.pairs.spent l in
      let k' : frontier M to ≡ total M from (copied M) = rw (sides.flips l) k in
      rw (← sides.flips l) (omega (arith, front-to, total_from, k'))

  no_re : {C : Type 0} → ⊥ ⊎ ⊥ → C
  no_re n = absurd (either n (λ z. z) (λ z. z))

  joining : Joined M M₂ New Re m' cur (stage s.phase)
  joining = record {
    before = λ n. no_re n;
    after = λ n. no_re n;
    marked = λ n. no_re n;
    early = λ n. no_re n;
    old_pair = λ n. no_re n;
    new_pair = λ n d. which n (λ e. rw (e, replica_a) pair_a) (λ e. rw (e, replica_b) pair_b);
    home = λ l n side. nonnull n;
    closed = λ l n d. which n (λ e. rw (e, replica_a) new_b) (λ e. rw (e, replica_b) new_a);
    empty = λ l. absurd (omega (arith, sides.late));
    spent = spent-after;
  }

  -- the fromspace copy is in the current half but in Reclaim, the tospace copy in Reclaim alone
  a_other : {C : Type 0} → stage s.phase ≡ st_reclaim → half_of a ≡ cur → C
  a_other l e = absurd (from_differs (sym half_a ∙ e ∙ sym (sides.flipped l)))

  b_current : {C : Type 0} → stage s.phase ≤ st_stack_flip → half_of b ≡ cur → C
  b_current l e = absurd (halves_differ (sym half_b ∙ e ∙ sym (sides.flips l)))

  a_current : {C : Type 0} → stage s.phase ≤ st_stack_flip → half_of a ≡ other_half cur → C
  a_current l e = absurd (other_differs cur (cur_two h) (sym e ∙ half_a ∙ sides.flips l))

  tinting : Tinted M M₂ New cur (stage s.phase)
  tinting = record {
    at_rest = λ l n side. absurd (omega (arith, sides.late));
    at_reclaim = λ l n side. which n (λ e. a_other l (rw e at side)) (λ e. rw e colour_b);
    none_black = λ l n side. absurd (omega (arith, sides.late));
    none_grey = λ n side. which n (λ e. rw (e, colour_a) (λ z. omega arith)) (λ e. rw (e, colour_b) (λ z. omega arith));
    white_away = λ l n side. which n (λ e. a_current l (rw e at side)) (λ e. rw e colour_b);
    paired = λ l n side d. which n (λ e. rw (e, colour_a) (λ z. omega arith)) (λ e. b_current l (rw e at side));
    shelled = λ l l' n side d. nonnull n;
    room = λ l l'. absurd (omega (arith, sides.late));
  }

  pub double_sim : Sim K m' (with_births (with_memory s M₂) (next_birth s)) (with_records f rs')
  double_sim = grown_sim h grown (longer_by rs r p) placing joining tinting (next_birth s) (ap suc h.births ∙ new_length rs (blank_record r p))

  -- up to level 5 the fromspace reference may be put in a register, at level 6 the tospace one
  pub from_fits : stage s.phase ≤ st_pre_flip2 → (y : Session) → WordFits K m' (with_births (with_memory s M₂) (next_birth s)) y a (suc (length rs))
  from_fits l y = record {
    ok = ok_start start_a;
    is = sym (placing.new new_a);
    names = λ d z. half_a ∙ sides.flips (omega arith);
    marked = λ d. absurd (omega arith);
    scanned = λ d z. clean_covered (λ z' side. rw colour_a (λ z. omega arith));
    clean = λ d e z side. rw colour_a (λ z. omega arith);
    kept = λ z. h.kept.to_come (suc (length rs)) (le_refl _);
  }

  pub to_fits : st_pre_flip2 ≤ stage s.phase → (y : Session) → WordFits K m' (with_births (with_memory s M₂) (next_birth s)) y b (suc (length rs))
  to_fits l y = record {
    ok = ok_start start_b;
    is = sym (placing.new new_b);
    names = λ d z. half_b ∙ sides.flipped (omega (arith, in_stage h.range, d l));
    marked = λ d e z. half_b ∙ ap other_half (sides.flips (omega arith));
    scanned = λ d. absurd (omega arith);
    clean = λ d e z side. b_current e side;
    kept = λ z. h.kept.to_come (suc (length rs)) (le_refl _);
  }
