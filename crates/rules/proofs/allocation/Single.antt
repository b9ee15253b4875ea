-- One new record in the current half, without replica (levels 0 to 2).
use Prim.Native.Nat.{ℕ, suc, ◌+◌, ◌≤◌, ◌<◌}
use mathlib.Core.Path.{◌≡◌, refl, sym, ap, ◌∙◌}
use mathlib.Core.Logic.{◌≢◌, ◌⊎◌}
use mathlib.Core.List.{List, [], ◌∷◌, ◌++◌}
use native.Mathlib.Nat.{le_refl}
use native.Mathlib.Omega.{arith}
use lib.ListN.{length, length-replicate}
use Rattle.rules.specs.Memory.{Memory, frontier, null, half_of, shape_word, white, grey, black, colour, replica, next_reference, most_count}
use Rattle.rules.specs.Control.{Store, with_memory, with_births}
use Rattle.rules.specs.Cycle.{stage}
use Rattle.rules.specs.Phases.{other_half}
use Rattle.rules.specs.Barriers.{next_birth}
use Rattle.rules.specs.Free.{Free, Record}
use Rattle.rules.specs.declared.Session.{Session}
use Rattle.rules.proofs.memory.Cases.{either}
use Rattle.rules.proofs.memory.Encoding.{other_below_2, other_differs, refs-shape, plains-shape}
use Rattle.rules.proofs.memory.Append.{Appended}
use Rattle.rules.proofs.memory.Total.{total, total_equal, total_append}
use Rattle.rules.proofs.invariant.Stages.{st_rest, st_pre_mark1, st_pre_mark2, st_allocate, st_stack_flip, st_reclaim}
use Rattle.rules.proofs.invariant.Words.{ok_start, marks, copied}
use Rattle.rules.proofs.invariant.Protected.{clean_covered}
use Rattle.rules.proofs.invariant.Sim.{Sim}
use Rattle.rules.proofs.invariant.Laws.{cur_two}
use Rattle.rules.proofs.invariant.Counted.{marks_same, copied_same, copied_none}
use Rattle.rules.proofs.relation.Tracks.{tracked, tracked_none, tracked_old, tracked_new}
use Rattle.rules.proofs.sessions.Session.{WordFits}
use Rattle.rules.proofs.allocation.Grown.{grown-colour, grown-size, Grown, append-grown}
use Rattle.rules.proofs.allocation.Growth.{Placed, Joined, Tinted}
use Rattle.rules.proofs.allocation.GrowSim.{grown_sim}
use Rattle.rules.proofs.allocation.FreeRecords.{with_records, blank_record, longer_by, new_place_lem, new_length}

-- ---- the colours that it may have by phase
pub record Tint (st c : ℕ) : Type 0 where
  pub small : c ≤ black
  pub at_rest : st ≡ st_rest → c ≡ white
  pub at_reclaim : st ≡ st_reclaim → c ≡ white
  pub none_black : st ≡ st_pre_mark1 → c ≢ black
  pub none_grey : c ≢ grey
  pub marked : st_pre_mark2 < st → st ≤ st_stack_flip → c ≢ white
  pub phases : (st ≤ st_allocate) ⊎ (st ≡ st_reclaim)

-- M' has it
module _ {K : ℕ → Type 0} {m : ℕ → ℕ} {s : Store} {f : Free} (h : Sim K m s f) (r p : ℕ) (pb : p ≤ most_count) {M' : Memory} {c : ℕ} (tint : Tint (stage s.phase) c)
    (kept : Appended s.memory M' s.current (shape_word r p) c null (next_birth s) (r + p)) where
  abbrev M : Memory
  M = s.memory

  abbrev cur : ℕ
  cur = s.current

  abbrev x : ℕ
  x = next_reference M cur

  abbrev New : ℕ → Type 0
  New u = u ≡ x

  abbrev Re : ℕ → Type 0
  Re u = ⊥

  abbrev rs : List Record
  rs = f.records

  abbrev rs' : List Record
  rs' = f.records ++ blank_record r p ∷ []

  abbrev m' : ℕ → ℕ
  m' = tracked (suc (length rs)) m M M'

  grown : Grown M M' New Re
  grown = append-grown kept

  away : frontier M' (other_half cur) ≡ frontier M (other_half cur)
  away = kept.front_other (other_half cur) (other_below_2 cur) (other_differs cur (cur_two h))

  not_other : {u : ℕ} {C : Type 0} → New u → half_of u ≡ other_half cur → C
  not_other e side = absurd (other_differs cur (cur_two h) (sym side ∙ rw e kept.made_half))

  alone : {u : ℕ} → New u → replica M' u ≡ null
  alone e = rw e kept.new_replica

  coloured : {u : ℕ} → New u → colour M' u ≡ c
  coloured e = rw e kept.new_colour

  placing : Placed M M' New m m' cur (suc (length rs)) rs rs'
  placing = record {
    none = tracked_none (suc (length rs)) m M M';
    old = tracked_old (suc (length rs)) m M M';
    new = λ e. rw e (tracked_new (suc (length rs)) m M M' cur (cur_two h) (omega (arith, kept.front)));
    low = omega arith;
    high = omega (arith, new_length rs (blank_record r p));
    born = λ e. rw e (kept.new_birth ∙ ap suc h.births);
    nrefs = λ e. rw (new_place_lem rs (blank_record r p), e, kept.new_refs, refs-shape r p pb) (length-replicate r null);
    nplains = λ e. rw (new_place_lem rs (blank_record r p), e, kept.new_plains, plains-shape r p pb) (length-replicate {A = ℕ} p 0);
    apart = λ {u} {v} n t side e. let b = h.identity.high v t in omega arith;
    single = λ n n' side. n' ∙ sym n;
    fresh = λ n side. le_refl _;
  }

  total_copied : total M' cur (copied M') ≡ total M cur (copied M)
  total_copied =
      let e = total_append kept (copied M') in
      let z = copied_none M' x kept.new_replica in
      let q = total_equal M (cur_two h) (copied M') (copied M) (λ v t side. copied_same M M' v (either (grown.same-replica t) (λ e. e) (λ n. absurd n)) (grown-size grown t)) in
      omega arith

  total_marks : total M cur (marks M) ≤ total M' cur (marks M')
  total_marks =
      let e = total_append kept (marks M') in
      let q = total_equal M (cur_two h) (marks M') (marks M) (λ v t side. marks_same M M' v (grown-colour grown t)) in
      omega arith

  joining : Joined M M' New Re m' cur (stage s.phase)
  joining = record {
    before = λ n. absurd n;
    after = λ n. absurd n;
    marked = λ n. absurd n;
    early = λ n. absurd n;
    old_pair = λ n. absurd n;
    new_pair = λ n d. absurd (d (alone n));
    home = λ a n side. not_other n side;
    closed = λ a n d. absurd (d (alone n));
    empty = λ a. away ∙ h.pairs.empty a;
    spent = λ a. away ∙ h.pairs.spent a ∙ sym total_copied;
  }

  tinting : Tinted M M' New cur (stage s.phase)
  tinting = record {
    at_rest = λ a n side. coloured n ∙ tint.at_rest a;
    at_reclaim = λ a n side. coloured n ∙ tint.at_reclaim a;
    none_black = λ a n side. rw (coloured n) (tint.none_black a);
    none_grey = λ n side. rw (coloured n) tint.none_grey;
    white_away = λ a n side. not_other n side;
    paired = λ a n side d. absurd (d (alone n));
    shelled = λ a b n side d. absurd (either tint.phases (λ l. omega arith) (λ l. omega arith));
    room = λ a b. total_marks;
  }

  pub single_sim : Sim K m' (with_births (with_memory s M') (next_birth s)) (with_records f rs')
  single_sim = grown_sim h grown (longer_by rs r p) placing joining tinting (next_birth s) (ap suc h.births ∙ new_length rs (blank_record r p))

  -- its reference may be put in a register
  pub single_fits : (y : Session) → WordFits K m' (with_births (with_memory s M') (next_birth s)) y x (suc (length rs))
  single_fits y = record {
    ok = ok_start kept.made;
    is = sym (placing.new refl);
    names = λ a z. kept.made_half;
    marked = λ a b. absurd (either tint.phases (λ l. omega arith) (λ l. omega arith));
    scanned = λ a b. clean_covered (λ z side. rw kept.new_colour (tint.marked (omega arith) (omega arith)));
    clean = λ a b z side. rw kept.new_colour (tint.marked (omega arith) (omega arith));
    kept = λ z. h.kept.to_come (suc (length rs)) (le_refl _);
  }
