-- The call store: what it writes keeps the invariant, at every level in every phase that the level has.
use Prim.Native.Nat.{ℕ, ◌≤◌, ◌<◌}
use mathlib.Core.Path.{◌≡◌, refl, sym, ap, ◌∙◌}
use mathlib.Core.Logic.{◌≢◌, inl, inr}
use mathlib.Core.Bool.{◌&&◌}
use native.Mathlib.Omega.{arith}
use lib.Dec.{ltb}
use lib.ListN.{get_or}
use borrow.Author.Tests.{ne_eqb, ltb-true}
use Rattle.rules.specs.Refusals.{passed}
use Rattle.rules.specs.Memory.{null, frontier, replica, refs, ref_field}
use Rattle.rules.specs.Control.{Store, with_memory, last_level}
use Rattle.rules.specs.Cycle.{stage}
use Rattle.rules.specs.Phases.{other_half}
use Rattle.rules.specs.Barriers.{heap_of, to, shade, shade_both, store_writes, put_both}
use Rattle.rules.specs.Calls as calls
use Rattle.rules.specs.Calls.{is_register, store_commit}
use Rattle.rules.specs.Free.{Free, record_at, with_record, free_store}
use Rattle.rules.specs.declared.Session.{Session}
use Rattle.rules.specs.declared.Writes.{Writes}
use Rattle.rules.proofs.memory.Cases.{eq_or, lt_or}
use Rattle.rules.proofs.memory.Records.{Start, start_nonnull, ref_inside}
use Rattle.rules.proofs.invariant.Stages.{st_allocate, st_pre_flip2, st_stack_flip, st_reclaim, in_stage}
use Rattle.rules.proofs.invariant.Words.{In, field, fwd}
use Rattle.rules.proofs.invariant.Groups.{NoFlip}
use Rattle.rules.proofs.invariant.Sim.{Sim}
use Rattle.rules.proofs.invariant.Spent.{Grows, spent_grows, grows_then}
use Rattle.rules.proofs.invariant.Laws.{cur_two, other_not, in_half_lem, in_or, in_nonnull, has_replica, from_two}
use Rattle.rules.proofs.invariant.Following.{follow_home, follow_away, follow-replica, follow-word}
use Rattle.rules.proofs.invariant.Pairs.{pair_shape, replica-shape}
use Rattle.rules.proofs.invariant.Originals.{pair_here}
use Rattle.rules.proofs.invariant.Spans.{Allowed, level_most, level_from, level_home, level_late, level_last}
use Rattle.rules.proofs.frames.Change.{refs-kept}
use Rattle.rules.proofs.relation.Alike.{Both, Unmoved, Alike, passed_both, both_check_eq, both_passes, both_commit, both_map, unmoved_left, unmoved_done}
use Rattle.rules.proofs.relation.Tests.{both_record}
use Rattle.rules.proofs.sessions.Session.{WordFits}
use Rattle.rules.proofs.sessions.Registers.{held_fits}
use Rattle.rules.proofs.sessions.Values.{free-refs, record_values}
use Rattle.rules.proofs.marking.Shading.{keeps_grows, shade_both-front}
use Rattle.rules.proofs.fields.Spent.{puts_grow}
use Rattle.rules.proofs.fields.Reference.{with_ref}
use Rattle.rules.proofs.fields.Barrier.{store_low, store_alone, store_both, copy-forward, both_front}
use Rattle.rules.proofs.fields.Barred.{both_shaded, barred}
use Rattle.rules.proofs.fields.Stores.{alone_sim, low_sim, from_sim, to_sim, reclaim_sim}
use Rattle.rules.proofs.fields.Table.{from-words, to-words, reclaim_fits, reclaim-own}

-- the store after the writes w
abbrev stored : Store → ℕ → ℕ → Writes → Store
stored s v i w = store_commit s i (record { into = v; writes = w })

-- a store of q, for the place p, into field i of v passes its tests, and what it writes keeps the invariant
pub record Stored (K : ℕ → Type 0) (m : ℕ → ℕ) (s : Store) (f : Free) (l v i q p : ℕ) : Type 0 where
  pub writes : Writes
  pub passes : store_writes (heap_of s) l v i q ≡ passed writes
  pub sim : Sim K m (stored s v i writes) (with_record f (m v) (with_ref (record_at f (m v)) i p))
  pub grows : Grows s (stored s v i writes)

-- the frontiers stay
stored_front : (s : Store) (v i : ℕ) (w : Writes) (g : ℕ) → frontier (stored s v i w).memory g ≡ frontier s.memory g
unfolding store_commit
stored_front s v i w g = both_front (shade_both s w).memory v (ref_field i) w.own w.replica (ref_field i) w.copy g ∙ shade_both-front s w g

-- no less is counted of marking, after field i of v is written and that of t, where t isn't null
stored_grows : {K : ℕ → Type 0} {m : ℕ → ℕ} {s : Store} {f : Free} {v i : ℕ} → Sim K m s f → Start s.memory v → i < refs s.memory v → (x t y : ℕ)
    → (t ≢ null → Start s.memory t × (i < refs s.memory t)) → Grows s (with_memory s (put_both s.memory v (ref_field i) x t (ref_field i) y))
stored_grows {s = s} {v = v} {i = i} h o r x t y c = puts_grow (cur_two h) h.filled o (ref_field i) x (omega arith) (ref_inside s.memory v i r)
    t (ref_field i) y (omega arith) (λ n. let k = c n in (k.0, ref_inside s.memory t i k.1))

module _ {K : ℕ → Type 0} {m : ℕ → ℕ} {s : Store} {f : Free} {x : Session} {l q p : ℕ} (h : Sim K m s f) (t : WordFits K m s x q p)
    (a : Allowed s.phase l) {v i : ℕ} where
  -- levels 0 to 3
  stored_low : {y : ℕ} → l ≤ 3 → In s.memory s.current v → i < refs s.memory v → WordFits K m s x (field s.memory v i) y → Stored K m s f l v i q p
  unfolding put_both store_commit
  stored_low b o r g =
      let w = barred h l (field s.memory v i) q a b g t in
      let z : Writes = record { first = get_or w.them 0 null; second = get_or w.them 1 null; own = q; replica = null; copy = null } in
      record {
        writes = z;
        passes = store_low (heap_of s) l v i q b w.passes;
        sim = rw (both_shaded s z w.them w.few refl refl) (low_sim h a b t w o r refl);
        grows = rw (both_shaded s z w.them w.few refl refl) (grows_then (keeps_grows (cur_two h) w.keeps)
            (stored_grows w.sim (w.keeps.frame.to o.start) (rw (refs-kept w.keeps.frame o.start) r) q null null (λ n. absurd (n refl))));
      }

  -- levels 4 to 6 after Allocate, up to StackFlip, the record in the current half
  stored_from : 4 ≤ l → l ≤ last_level → st_allocate < stage s.phase → stage s.phase ≤ st_stack_flip → In s.memory s.current v → replica s.memory v ≢ null → i < refs s.memory v
      → Stored K m s f l v i q p
  unfolding put_both shade shade_both store_commit
  stored_from b c lo hi o n r =
      let w = from-words h t lo hi a b c o in
      let away = fwd s.memory (other_half s.current) w.word in
      record {
        writes = record { first = null; second = null; own = w.word; replica = replica s.memory v; copy = away };
        passes = store_both (heap_of s) l v i q b (follow-replica (follow_home h o) (h.pairs.pair v o n)) (rw (replica-shape h v o n).0 r) w.own w.copy;
        sim = rw (ne_eqb (replica s.memory v) null n) (from_sim h lo hi w.fits o r n);
        grows = stored_grows h o.start r w.word (replica s.memory v) away (λ z. ((h.pairs.pair v o n).start, rw (replica-shape h v o n).0 r));
      }

  -- the record in the other half
  stored_to : 5 ≤ l → l ≤ last_level → st_pre_flip2 ≤ stage s.phase → stage s.phase ≤ st_stack_flip → In s.memory (other_half s.current) v → i < refs s.memory v → Stored K m s f l v i q p
  unfolding put_both shade shade_both store_commit
  stored_to b c lo hi o r =
      let w = to-words h t (omega arith) hi lo b c o in
      let home = h.pairs.home hi v o in
      let n = home.0 in
      let g = home.1 in
      let e : replica s.memory (replica s.memory v) ≡ v = g.back in
      let z : i < refs s.memory (replica s.memory v) = rw (pair_shape h.identity o.start g).0 r in
      let away = fwd s.memory (other_half s.current) w.word in
      record {
        writes = record { first = null; second = null; own = away; replica = replica s.memory v; copy = w.word };
        passes = store_both (heap_of s) l v i q (omega arith) (follow-replica (follow_away h hi o) g) z w.own w.copy;
        sim = rw (ne_eqb (replica s.memory v) null n)
            (rw (e, g.same) at (to_sim h (omega arith) hi w.fits (pair_here h o g) z (λ y. in_nonnull o (sym e ∙ y))));
        grows = stored_grows h o.start r away (replica s.memory v) w.word (λ y. (g.start, z));
      }

  -- level 6 in Reclaim: both are in the current half already
  stored_reclaim : l ≡ 6 → stage s.phase ≡ st_reclaim → In s.memory s.current v → i < refs s.memory v → Stored K m s f l v i q p
  unfolding put_both shade shade_both store_commit
  stored_reclaim b e o r = eq_or (replica s.memory v) null
      (λ n. record {
        writes = record { first = null; second = null; own = q; replica = null; copy = null };
        passes = store_alone (heap_of s) l v i q (omega arith) n (reclaim-own h t e b v);
        sim = alone_sim h o r (reclaim_fits h t e) (inr (inl e)) (λ z. absurd (omega arith));
        grows = stored_grows h o.start r q null null (λ z. absurd (z refl));
      })
      (λ n. record {
        writes = record { first = null; second = null; own = q; replica = replica s.memory v; copy = fwd s.memory (to (heap_of s)) q };
        passes = store_both (heap_of s) l v i q (omega arith) (follow-replica (follow_home h o) (h.pairs.pair v o n)) (rw (replica-shape h v o n).0 r) (reclaim-own h t e b v)
            (copy-forward (heap_of s) (from_two h) l v t.ok (λ o d. follow-word h t.names o) (λ z. omega arith));
        sim = rw (ne_eqb (replica s.memory v) null n) (reclaim_sim h e (reclaim_fits h t e) o r n (fwd s.memory (to (heap_of s)) q));
        grows = stored_grows h o.start r q (replica s.memory v) (fwd s.memory (to (heap_of s)) q)
            (λ z. ((h.pairs.pair v o n).start, rw (replica-shape h v o n).0 r));
      })

  -- every level; v is the record in another register of the session
  store_writes_lem : {k : ℕ} → WordFits K m s x v k → Start s.memory v → i < refs s.memory v → Stored K m s f l v i q p
  store_writes_lem r o n =
      let top = level_most s.phase l h.range.phases a in
      let here : NoFlip (stage s.phase) → In s.memory s.current v = λ y. in_half_lem r.ok (start_nonnull o) (r.names y) in
      lt_or l 4
      (λ b. let z = level_home h.range.phases a (omega arith) in stored_low (omega arith) (here z) n ((record_values h r o).ref i n))
      (λ b. let lo : st_allocate < stage s.phase = omega (arith, level_from 4 (omega arith) h.range.phases a b) in
      eq_or (stage s.phase) st_reclaim
      (λ e. stored_reclaim (level_last h.range.phases a b e) e (here (omega arith)) n)
      (λ e. let hi : stage s.phase ≤ st_stack_flip = omega (arith, in_stage h.range) in
      in_or s.current (cur_two h) o
      (λ c. stored_from b top lo hi c (has_replica h lo hi c (r.clean (omega arith) hi)) n)
      (λ c. let late : st_pre_flip2 ≤ stage s.phase = lt_or (stage s.phase) st_pre_flip2
      (λ g. absurd (other_not h (sym c.side ∙ (here (omega arith)).side))) (λ g. g) in
      stored_to (level_late h.range.phases a b late) top late hi c n)))

-- ---- the call
module _ {K : ℕ → Type 0} {m : ℕ → ℕ} {s : Store} {f : Free} (h : Sim K m s f) where
  pub store_unmoved : (n k i from : ℕ) → Both (Unmoved K m s) (calls.store s n k i from) (free_store f n k i from)
  unfolding calls.store calls.store_plan free_store
  store_unmoved n k i from = both_commit _ (both_record h n k from (is_register k && is_register from) refl _ _
      (λ a b z e. both_check_eq _ _ 13 (ap (ltb i) (sym (free-refs h z))) tt
      (λ l. let w = store_writes_lem h (held_fits h n from a) a.allowed (held_fits h n k a) z (ltb-true _ _ l) in
      both_passes _ w.writes w.passes _
      (passed_both (unmoved_done w.sim refl (stored_front s _ i w.writes 0) (stored_front s _ i w.writes 1) (spent_grows w.grows))))))

  pub store_alike : (n k i from q : ℕ) → Alike K q m s (calls.store s n k i from) (free_store f n k i from)
  store_alike n k i from q = both_map (λ o p. unmoved_left) (store_unmoved n k i from)
