-- A shell in the other half for a record v of the current half (Allocate phase): the two become a pair.
use Prim.Native.Nat.{ℕ, ◌+◌, ◌<◌}
use mathlib.Core.Path.{◌≡◌, refl, sym, ◌∙◌}
use mathlib.Core.Logic.{◌≢◌, ◌⊎◌, inl}
use mathlib.Core.List.{List}
use native.Mathlib.Omega.{arith}
use Rattle.rules.specs.Memory.{Memory, frontier, null, half_of, shape_at, replica_at, white, word, colour, replica, birth_number, refs, plains, size, next_reference}
use Rattle.rules.specs.Control.{Store, with_memory}
use Rattle.rules.specs.Cycle.{stage}
use Rattle.rules.specs.Phases.{other_half}
use Rattle.rules.specs.Free.{Free, Record}
use Rattle.rules.proofs.memory.Cases.{either}
use Rattle.rules.proofs.memory.Encoding.{other_below_2, other_differs}
use Rattle.rules.proofs.memory.Records.{Start, start_nonnull, size-fields, size-least}
use Rattle.rules.proofs.memory.Next.{next-half, next_nonnull, next-fresh}
use Rattle.rules.proofs.memory.Put.{PutKept}
use Rattle.rules.proofs.memory.Append.{Appended}
use Rattle.rules.proofs.memory.Total.{total, total_bump, total_kept}
use Rattle.rules.proofs.invariant.Stages.{st_allocate}
use Rattle.rules.proofs.invariant.Words.{In, copied}
use Rattle.rules.proofs.invariant.Groups.{Pair}
use Rattle.rules.proofs.invariant.Sim.{Sim}
use Rattle.rules.proofs.invariant.Laws.{cur_two}
use Rattle.rules.proofs.invariant.Originals.{original, original_in}
use Rattle.rules.proofs.invariant.Counted.{copied_same, copied_none, copied_size}
use Rattle.rules.proofs.relation.Tracks.{tracked, tracked_none, tracked_old, tracked_new}
use Rattle.rules.proofs.allocation.Grown.{Grown, append-grown, replica-grown, both_grown, grown-birth, grown-colour, grown-size}
use Rattle.rules.proofs.allocation.Growth.{Placed, Joined, Tinted}
use Rattle.rules.proofs.allocation.GrowSim.{grown_sim}
use Rattle.rules.proofs.allocation.FreeRecords.{longer_not}

-- M₁ has the shell, M₂ also the replica word that names it
module _ {K : ℕ → Type 0} {m : ℕ → ℕ} {s : Store} {f : Free} (h : Sim K m s f) {M₁ M₂ : Memory} {v : ℕ} (at_allocate : stage s.phase ≡ st_allocate)
    (this : In s.memory s.current v) (marked : colour s.memory v ≢ white) (alone : replica s.memory v ≡ null)
    (one : Appended s.memory M₁ (other_half s.current) (word s.memory v shape_at) white v (birth_number s.memory v) (refs s.memory v + plains s.memory v))
    (more : PutKept M₁ M₂ v replica_at (next_reference s.memory (other_half s.current))) where
  abbrev M : Memory
  M = s.memory

  abbrev cur : ℕ
  cur = s.current

  abbrev other : ℕ
  other = other_half cur

  abbrev y : ℕ
  y = next_reference M other

  abbrev New : ℕ → Type 0
  New u = (u ≡ y) ⊎ ⊥

  abbrev Re : ℕ → Type 0
  Re u = ⊥ ⊎ (u ≡ v)

  abbrev rs : List Record
  rs = f.records

  abbrev m' : ℕ → ℕ
  m' = tracked (m v) m M M₂

  later : Grown M₁ M₂ (λ u. ⊥) (λ u. u ≡ v)
  later = replica-grown more

  grown : Grown M M₂ New Re
  grown = both_grown (append-grown one) later

  other_two : other < 2
  other_two = other_below_2 cur

  halves_differ : other ≢ cur
  halves_differ = other_differs cur (cur_two h)

  is_y : {u : ℕ} → New u → u ≡ y
  is_y n = either n (λ e. e) (λ z. absurd z)

  is_v : {u : ℕ} → Re u → u ≡ v
  is_v n = either n (λ z. absurd z) (λ e. e)

  half_y : half_of y ≡ other
  half_y = next-half M other other_two

  y_not_v : y ≢ v
  y_not_v e = next-fresh this.start other other_two (sym e)

  start_y : Start M₂ y
  start_y = grown.made (inl refl)

  -- no new record is in the current half
  none_here : {u : ℕ} {C : Type 0} → New u → half_of u ≡ cur → C
  none_here n side = absurd (halves_differ (sym half_y ∙ rw (is_y n) at side))

  -- ---- words
  colour_y : colour M₂ y ≡ white
  colour_y = grown-colour later one.made ∙ one.new_colour

  replica_y : replica M₂ y ≡ v
  replica_y = either (later.same-replica one.made) (λ e. e ∙ one.new_replica) (λ e. absurd (y_not_v e))

  replica_v : replica M₂ v ≡ y
  unfolding replica
  replica_v = more.new

  birth_y : birth_number M₂ y ≡ birth_number M v
  birth_y = grown-birth later one.made ∙ one.new_birth

  refs_y : refs M₂ y ≡ refs M v
  unfolding refs
  refs_y = more.same-refs one.made ∙ one.new_refs

  plains_y : plains M₂ y ≡ plains M v
  unfolding plains
  plains_y = more.same-plains one.made ∙ one.new_plains

  front_other : frontier M₂ other ≡ frontier M other + size M v
  front_other = omega (arith, more.front other, one.front, size-fields M v)

  -- no record of the other half has the place of v: its replica would be v
  unpaired : {u : ℕ} → Start M u → half_of u ≡ other → m u ≢ m v
  unpaired {u} t side e =
      let o : In M other u = record { start = t; side = side } in
      let p = original h (omega arith) o in
      let q : replica M u ≡ v = h.identity.apart (replica M u) v p.start this.start ((original_in h (omega arith) o).side ∙ sym this.side) (p.same ∙ e) in
      start_nonnull t (sym p.back ∙ rw q alone)

  placing : Placed M M₂ New m m' cur (m v) rs rs
  placing = record {
    none = tracked_none (m v) m M M₂;
    old = tracked_old (m v) m M M₂;
    new = λ n. rw (is_y n) (tracked_new (m v) m M M₂ other other_two (omega (arith, front_other, size-least M v)));
    low = h.identity.low v this.start;
    high = h.identity.high v this.start;
    born = λ n. rw (is_y n) (birth_y ∙ h.identity.born v this.start);
    nrefs = λ n. rw (is_y n, refs_y) (h.identity.nrefs v this.start);
    nplains = λ n. rw (is_y n, plains_y) (h.identity.nplains v this.start);
    apart = λ n t side. unpaired t (side ∙ rw (is_y n) half_y);
    single = λ n n' side. is_y n' ∙ sym (is_y n);
    fresh = λ n side. none_here n side;
  }

  place_y : m' y ≡ m v
  place_y = placing.new (inl refl)

  place_v : m' v ≡ m v
  place_v = placing.old this.start

  pair_v : Pair M₂ m' v y
  pair_v = record {
    start = start_y;
    across = rw (half_y, this.side) halves_differ;
    back = replica_y;
    same = place_y ∙ sym place_v;
  }

  pair_y : Pair M₂ m' y v
  pair_y = record {
    start = grown.to this.start;
    across = rw (half_y, this.side) (λ e. halves_differ (sym e));
    back = replica_v;
    same = place_v ∙ sym place_y;
  }

  total_after : total M₂ cur (copied M₂) ≡ total M cur (copied M) + size M v
  total_after =
      let a = total_kept (more.same_starts cur (cur_two h)) (copied M₂) in
      let b = total_kept (one.same_starts cur (cur_two h) (λ e. halves_differ (sym e))) (copied M₂) in
      let c = total_bump M (cur_two h) (copied M) (copied M₂) this.start this.side (size M v)
      (let z = copied_none M v alone in
      let w : copied M₂ v ≡ size M v = copied_size M₂ v (rw replica_v (next_nonnull M other)) ∙ grown-size grown this.start in omega arith)
      (λ u t side d. copied_same M M₂ u (either (grown.same-replica t) (λ e. e) (λ n. absurd (d (is_v n)))) (grown-size grown t)) in
      a ∙ b ∙ c

  joining : Joined M M₂ New Re m' cur (stage s.phase)
  joining = record {
    before = λ n. rw (is_v n) alone;
    after = λ n. rw (is_v n, replica_v) (next_nonnull M other);
    marked = λ n. rw (is_v n) marked;
    early = λ n. omega arith;
    old_pair = λ n. rw (is_v n, replica_v) pair_v;
    new_pair = λ n d. rw (is_y n, replica_y) pair_y;
    home = λ l n side. rw (is_y n, replica_y) (start_nonnull this.start);
    closed = λ l n d. absurd (omega arith);
    empty = λ l. absurd (omega arith);
    spent = λ l. omega (arith, front_other, total_after, h.pairs.spent l);
  }

  tinting : Tinted M M₂ New cur (stage s.phase)
  tinting = record {
    at_rest = λ l n side. none_here n side;
    at_reclaim = λ l n side. none_here n side;
    none_black = λ l n side. none_here n side;
    none_grey = λ n side. none_here n side;
    white_away = λ l n side. rw (is_y n) colour_y;
    paired = λ l n side d. none_here n side;
    shelled = λ l l' n side d. none_here n side;
    room = λ l l'. absurd (omega arith);
  }

  pub shell_sim : Sim K (tracked (m v) m s.memory M₂) (with_memory s M₂) f
  shell_sim = grown_sim h grown (longer_not rs) placing joining tinting s.births h.births

  -- the record has its replica, and its size
  pub shell_replica : replica M₂ v ≢ null
  shell_replica = rw replica_v (next_nonnull M other)

  pub shell_size : size M₂ v ≡ size M v
  shell_size = grown-size grown this.start
