-- The call write: a plain field, at levels 4 to 6 of both copies.
use Prim.Native.Nat.{ℕ, ◌≤◌, ◌<◌}
use mathlib.Core.Path.{◌≡◌, refl, sym, ap, ◌∙◌}
use mathlib.Core.Logic.{◌≢◌}
use mathlib.Core.Bool.{and_self}
use native.Mathlib.Omega.{arith}
use lib.Dec.{ltb}
use borrow.Author.Tests.{ne_eqb, ltb-true}
use Rattle.rules.specs.Refusals.{passed}
use Rattle.rules.specs.Memory.{null, replica, refs, plains, plain_field, frontier}
use Rattle.rules.specs.Control.{Store}
use Rattle.rules.specs.Cycle.{stage}
use Rattle.rules.specs.Phases.{other_half}
use Rattle.rules.specs.Barriers.{replica_for, put_both}
use Rattle.rules.specs.Calls as calls
use Rattle.rules.specs.Calls.{is_register, write_commit}
use Rattle.rules.specs.Free.{Free, record_at, with_record, free_write}
use Rattle.rules.specs.declared.Session.{Session}
use Rattle.rules.proofs.memory.Cases.{eq_or, lt_or, either}
use Rattle.rules.proofs.memory.Records.{Start, start_nonnull, plain_inside}
use Rattle.rules.proofs.invariant.Stages.{st_copy, st_stack_flip, st_reclaim}
use Rattle.rules.proofs.invariant.Words.{In}
use Rattle.rules.proofs.invariant.Groups.{NoFlip}
use Rattle.rules.proofs.invariant.Sim.{Sim}
use Rattle.rules.proofs.invariant.Laws.{cur_two, other_not, in_half_lem, in_or, in_nonnull}
use Rattle.rules.proofs.invariant.Following.{follow_home, follow_away, follow-replica}
use Rattle.rules.proofs.invariant.Pairs.{pair_shape, replica-shape}
use Rattle.rules.proofs.invariant.Originals.{pair_here}
use Rattle.rules.proofs.invariant.Spans.{Allowed, level_home, level_low}
use Rattle.rules.proofs.invariant.Spent.{Grows, spent_grows}
use Rattle.rules.proofs.relation.Alike.{Alike, passed_both, both_check_eq, both_passes, both_commit, left-done}
use Rattle.rules.proofs.relation.Tests.{both_record}
use Rattle.rules.proofs.sessions.Session.{WordFits}
use Rattle.rules.proofs.sessions.Registers.{held_fits}
use Rattle.rules.proofs.sessions.Values.{free-plains}
use Rattle.rules.proofs.fields.Written.{written_alone, written_from, written_to}
use Rattle.rules.proofs.fields.Plain.{with_plain, plain_write_sim}
use Rattle.rules.proofs.fields.Spent.{puts_grow}
use Rattle.rules.proofs.fields.Barrier.{replica-low, replica_none, replica-found, both_front}

-- the store after a plain write of a to field i of v, and of its replica t where that isn't null
abbrev rewritten : Store → ℕ → ℕ → ℕ → ℕ → Store
rewritten s v i t a = write_commit s i a (record { own = v; refs = refs s.memory v; replica = t })

-- the write passes its tests and keeps the invariant
pub record Rewritten (K : ℕ → Type 0) (m : ℕ → ℕ) (s : Store) (f : Free) (l v i a : ℕ) : Type 0 where
  pub other : ℕ
  pub passes : replica_for s.memory plains l v i ≡ passed other
  pub sim : Sim K m (rewritten s v i other a) (with_record f (m v) (with_plain (record_at f (m v)) i a))
  pub copied : other ≢ null → Start s.memory other × (i < plains s.memory other)

module _ {K : ℕ → Type 0} {m : ℕ → ℕ} {s : Store} {f : Free} {l v i : ℕ} (h : Sim K m s f) (a : ℕ) (r : i < plains s.memory v) where
  -- the record alone
  alone : In s.memory s.current v → (st_copy ≤ stage s.phase → stage s.phase ≤ st_stack_flip → replica s.memory v ≢ null → ⊥)
      → replica_for s.memory plains l v i ≡ passed null → Rewritten K m s f l v i a
  unfolding put_both write_commit
  alone o none e = record {
    other = null;
    passes = e;
    sim = plain_write_sim h
        (written_alone h o (plain_field (refs s.memory v) i) (omega arith) (plain_inside s.memory v i r) a a none) r;
    copied = λ n. absurd (n refl);
  }

  -- the record and its replica
  from : 4 ≤ l → In s.memory s.current v → replica s.memory v ≢ null → Rewritten K m s f l v i a
  unfolding put_both write_commit
  from b o n =
      let e = replica-shape h v o n in
      record {
        other = replica s.memory v;
        passes = replica-found s.memory plains l v i b (follow-replica (follow_home h o) (h.pairs.pair v o n)) (rw e.1 r);
        sim = rw (ne_eqb (replica s.memory v) null n, e.0) (plain_write_sim h
            (written_from h o (plain_field (refs s.memory v) i) (omega arith) (plain_inside s.memory v i r) n a a) r);
        copied = λ z. ((h.pairs.pair v o n).start, rw e.1 r);
      }

  -- the record is the replica of one of the current half
  to : 4 ≤ l → stage s.phase ≤ st_stack_flip → In s.memory (other_half s.current) v → Rewritten K m s f l v i a
  unfolding put_both write_commit
  to b hi o =
      let home = h.pairs.home hi v o in
      let n = home.0 in
      let p = home.1 in
      let e = pair_shape h.identity o.start p in
      let z : i < plains s.memory (replica s.memory v) = rw e.1 r in
      record {
        other = replica s.memory v;
        passes = replica-found s.memory plains l v i b (follow-replica (follow_away h hi o) p) z;
        sim = rw (ne_eqb (replica s.memory v) null n, e.0) (rw (p.back, e.0, p.same) at (plain_write_sim h
            (written_to h (pair_here h o p) (plain_field (refs s.memory (replica s.memory v)) i) (omega arith) (plain_inside s.memory (replica s.memory v) i z)
            (λ y. in_nonnull o (sym p.back ∙ y)) a a) z));
        copied = λ y. (p.start, z);
      }

  -- every level; v is the record in a register
  plain_writes : {x : Session} {k : ℕ} → Allowed s.phase l → WordFits K m s x v k → Start s.memory v → Rewritten K m s f l v i a
  plain_writes c t o =
      let here : NoFlip (stage s.phase) → In s.memory s.current v = λ y. in_half_lem t.ok (start_nonnull o) (t.names y) in
      lt_or l 4
      (λ b. let low = replica-low s.memory plains l v i (omega arith) in
      let z = level_home h.range.phases c (omega arith) in
      alone (here z) (λ lo hi n. either (level_low 3 (omega arith) h.range.phases c (omega arith)) (λ y. omega arith) (λ y. omega arith)) low)
      (λ b. in_or s.current (cur_two h) o
      (λ q. eq_or (replica s.memory v) null
      (λ n. alone q (λ lo hi z. z n) (replica_none s.memory plains l v i b n))
      (λ n. from b q n))
      (λ q. to b (lt_or (stage s.phase) st_reclaim (λ g. omega arith)
      (λ g. absurd (other_not h (sym q.side ∙ (here (omega arith)).side)))) q))

-- the frontiers stay
rewritten_front : (s : Store) (v i t a g : ℕ) → frontier (rewritten s v i t a).memory g ≡ frontier s.memory g
unfolding write_commit
rewritten_front s v i t a g = both_front s.memory v (plain_field (refs s.memory v) i) a t (plain_field (refs s.memory t) i) a g

-- and the bound on marking
rewritten_grows : {K : ℕ → Type 0} {m : ℕ → ℕ} {s : Store} {f : Free} {l v i a : ℕ} → Sim K m s f → Start s.memory v → i < plains s.memory v
    → (w : Rewritten K m s f l v i a) → Grows s (rewritten s v i w.other a)
unfolding write_commit
rewritten_grows {s = s} {v = v} {i = i} {a = a} h o r w = puts_grow (cur_two h) h.filled o (plain_field (refs s.memory v) i) a (omega arith)
    (plain_inside s.memory v i r) w.other (plain_field (refs s.memory w.other) i) a (omega arith)
    (λ n. let c = w.copied n in (c.0, plain_inside s.memory w.other i c.1))

-- ---- the call
module _ {K : ℕ → Type 0} {m : ℕ → ℕ} {s : Store} {f : Free} (h : Sim K m s f) where
  pub write_alike : (n k i a q : ℕ) → Alike K q m s (calls.write s n k i a) (free_write f n k i a)
  unfolding calls.write calls.write_plan free_write
  write_alike n k i a q = both_commit _ (both_record h n k k (is_register k) (and_self (is_register k)) _ _
      (λ c b z e. both_check_eq _ _ 13 (ap (ltb i) (sym (free-plains h z))) tt
      (λ l. let w = plain_writes h a (ltb-true _ _ l) c.allowed (held_fits h n k c) z in
      both_passes _ w.other w.passes _
      (passed_both (left-done w.sim refl (rewritten_front s _ i w.other a 0) (rewritten_front s _ i w.other a 1)
      (spent_grows (rewritten_grows h z (ltb-true _ _ l) w)))))))
