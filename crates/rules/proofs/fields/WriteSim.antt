-- After a field is written, each group of the invariant.
use Prim.Native.Nat.{ℕ, ◌+◌, ◌-◌, ◌≤◌, ◌<◌}
use mathlib.Core.Path.{◌≡◌, refl, sym, ◌∙◌}
use mathlib.Core.Logic.{◌≢◌, ◌⊎◌, inl, inr}
use mathlib.Core.List.{List}
use native.Mathlib.Omega.{arith}
use lib.ListN.{get_or, set, length-set}
use Rattle.rules.specs.Memory.{Memory, null, black, colour, replica, refs, plains, ref_field, plain_field}
use Rattle.rules.specs.Control.{Store, with_memory}
use Rattle.rules.specs.Cycle.{stage}
use Rattle.rules.specs.Phases.{other_half}
use Rattle.rules.specs.Free.{Free, Record, with_record}
use Rattle.rules.proofs.memory.Cases.{eq_or, either}
use Rattle.rules.proofs.invariant.Stages.{st_heap_mark, st_copy, st_stack_flip}
use Rattle.rules.proofs.invariant.Words.{In, Ok, Names, Clean, field, plain_of, fwd, rec_of}
use Rattle.rules.proofs.invariant.Groups.{Identity, Values, FieldHalves, Copied, Agreement}
use Rattle.rules.proofs.invariant.Protected.{scan_of, Carries, carries_kept, covered_carried}
use Rattle.rules.proofs.invariant.Marking.{Cleaned, Kept}
use Rattle.rules.proofs.invariant.Sim.{Sim}
use Rattle.rules.proofs.invariant.Laws.{cur_two}
use Rattle.rules.proofs.invariant.Pairs.{pair_other, replica-shape}
use Rattle.rules.proofs.frames.Change.{refs-kept, plains-kept}
use Rattle.rules.proofs.frames.Kept.{in_to, in_back, ok_to, clean_kept, fwd_kept}
use Rattle.rules.proofs.frames.Marks.{kept-kept}
use Rattle.rules.proofs.fields.Write.{FieldWrite, changed, ref_kept, plain_word-kept, each_ref, by_place, place_same, only_v, away_kept, away_plain, other_pair}

module _ {K : ℕ → Type 0} {m : ℕ → ℕ} {s : Store} {f : Free} {M' : Memory} {v t j : ℕ} {x : Record}
    (h : Sim K m s f) (w : FieldWrite K m s f M' v t j x) where
  abbrev M : Memory
  M = s.memory

  abbrev cur : ℕ
  cur = s.current

  abbrev away_half : ℕ
  away_half = other_half s.current

  abbrev after : List Record
  after = set f.records (m v - 1) x

  write_identity : Identity M' m after
  write_identity =
      let g = (changed h w).identity in
      let F = w.frame in
      record {
        null-place = g.null-place;
        low = g.low;
        high = λ a q. rw (length-set f.records (m v - 1) x) (g.high a q);
        born = g.born;
        nrefs = λ a q. by_place h w (m a)
            (λ e r. rw (r, w.refs-number) (sym (h.identity.nrefs v w.here.start) ∙ rw (← place_same h w (F.back q) e) (g.nrefs a q)))
            (λ d r. rw r (g.nrefs a q));
        nplains = λ a q. by_place h w (m a)
            (λ e r. rw (r, w.plains-number) (sym (h.identity.nplains v w.here.start) ∙ rw (← place_same h w (F.back q) e) (g.nplains a q)))
            (λ d r. rw r (g.nplains a q));
        apart = g.apart;
      }

  write-values : Values M' m cur after
  write-values = record {
    ok = each_ref h w (λ a k u. Ok M' u) (λ a k q l. ok_to w.frame (h.values.ok a k q l)) (λ k e l. ok_to w.frame (w.ok k e l));
    ref = λ a k q' l'.
        let q = in_back w.frame q' in
        let l : k < refs M a = rw (refs-kept w.frame q.start) at l' in
        by_place h w (m a)
        (λ e r. rw (r, only_v h w q e) (w.ref_is k (rw (only_v h w q e) at l)))
        (λ d r. rw (r, ref_kept h w q k l (inl (λ e. d (rw e)))) (h.values.ref a k q l));
    plain = λ a k q' l'.
        let q = in_back w.frame q' in
        let l : k < plains M a = rw (plains-kept w.frame q.start) at l' in
        by_place h w (m a)
        (λ e r. rw (r, only_v h w q e) (w.plain_is k (rw (only_v h w q e) at l)))
        (λ d r. rw (r, plain_word-kept h w q k l (inl (λ e. d (rw e)))) (h.values.plain a k q l));
  }

  -- ---- the other half

  write-field_halves : FieldHalves M' cur (stage s.phase)
  write-field_halves = record {
    home = λ y. each_ref h w (λ a k u. Names cur u) (h.field_halves.home y) (w.side y);
    away = λ hi. each_away (λ u. Names away_half u) (h.field_halves.away hi) (λ q k e l. (w.away hi q k e l).0);
    away_ok = λ hi. each_away (λ u. Ok M' u) (λ a k q l. ok_to w.frame (h.field_halves.away_ok hi a k q l))
        (λ q k e l. ok_to w.frame (w.away hi q k e l).1);
  }
    where
      each_away : (P : ℕ → Type 0) → ((a k : ℕ) → In M away_half a → k < refs M a → P (field M a k))
          → (In M away_half t → (k : ℕ) → ref_field k ≡ j → k < refs M t → P (field M' t k))
          → (a k : ℕ) → In M' away_half a → k < refs M' a → P (field M' a k)
      each_away P old new a k q' l' =
          let q = in_back w.frame q' in
          let l : k < refs M a = rw (refs-kept w.frame q.start) at l' in
          eq_or a t
          (λ e. eq_or (ref_field k) j
          (λ i. rw e (new (rw e at q) k i (rw e at l)))
          (λ n. rw (away_kept h w q k l (inr n)) (old a k q l)))
          (λ n. rw (away_kept h w q k l (inl n)) (old a k q l))

  write_agreement : Agreement M' cur (stage s.phase) s.walk.place s.walk.field
  write_agreement = record {
    refs_agree = λ lo hi a k q' n' l' c.
        let q = in_back w.frame q' in
        let l : k < refs M a = rw (refs-kept w.frame q.start) at l' in
        let r = (changed h w).replicas_same a q.start in
        let n : replica M a ≢ null = λ e. n' (r ∙ e) in
        let o = pair_other (cur_two h) h.pairs q n in
        let b : k < refs M (replica M a) = rw (replica-shape h a q n).0 l in
        let u = h.values.ok a k q l in
        let old : (a ≢ v) ⊎ (ref_field k ≢ j) → field M' (replica M' a) k ≡ fwd M' away_half (field M' a k) = λ d.
        rw (
          r,
          away_kept h w o k b (either d (λ z. inl (other_pair h w hi q n z)) (λ z. inr z)),
          ref_kept h w q k l d,
          fwd_kept w.frame (changed h w).replicas_same away_half u,
        ) (h.agreement.refs_agree lo hi a k q n l c) in
        eq_or a v
        (λ e. eq_or (ref_field k) j
        (λ i. new lo hi e n l i r)
        (λ z. old (inr z)))
        (λ z. old (inl z));
    plains_agree = λ lo hi a k q' n' l' c'.
        let q = in_back w.frame q' in
        let l : k < plains M a = rw (plains-kept w.frame q.start) at l' in
        let c : Copied (stage s.phase) s.walk.place s.walk.field a (refs M a + k) = rw (refs-kept w.frame q.start) at c' in
        let r = (changed h w).replicas_same a q.start in
        let n : replica M a ≢ null = λ e. n' (r ∙ e) in
        let o = pair_other (cur_two h) h.pairs q n in
        let b : k < plains M (replica M a) = rw (replica-shape h a q n).1 l in
        let old : (a ≢ v) ⊎ (plain_field (refs M a) k ≢ j) → plain_of M' (replica M' a) k ≡ plain_of M' a k = λ d.
        rw (r, away_plain h w o k b (either d (λ z. inl (other_pair h w hi q n z)) (λ z. inr (rw (replica-shape h a q n).0 z))), plain_word-kept h w q k l d)
        (h.agreement.plains_agree lo hi a k q n l c) in
        eq_or a v
        (λ e. eq_or (plain_field (refs M a) k) j
        (λ i. new_plain lo hi e n l i r)
        (λ z. old (inr z)))
        (λ z. old (inl z));
  }
    where
      new : st_copy ≤ stage s.phase → stage s.phase ≤ st_stack_flip → {a k : ℕ} → a ≡ v → replica M a ≢ null → k < refs M a → ref_field k ≡ j → replica M' a ≡ replica M a
          → field M' (replica M' a) k ≡ fwd M' away_half (field M' a k)
      new lo hi {a} {k} e n l i r =
          let b : k < refs M v = rw e at l in
          rw (r, e, fwd_kept w.frame (changed h w).replicas_same away_half (w.ok k i b)) (w.refs_agree lo hi (rw e at n) k i b)

      new_plain : st_copy ≤ stage s.phase → stage s.phase ≤ st_stack_flip → {a k : ℕ} → a ≡ v → replica M a ≢ null → k < plains M a → plain_field (refs M a) k ≡ j → replica M' a ≡ replica M a
          → plain_of M' (replica M' a) k ≡ plain_of M' a k
      new_plain lo hi {a} {k} e n l i r = rw (r, e) (w.plains_agree lo hi (rw e at n) k (rw e at i) (rw e at l))

  -- ---- marking

  -- what the field held is clean, so nothing white was protected by way of it
  write_carries : stage s.phase ≡ st_heap_mark → Carries M M' cur (scan_of s) (scan_of s)
  write_carries e =
      let F = w.frame in
      let c = (changed h w).colours_same in
      carries_kept (λ a. in_to F) (λ a o. refs-kept F o.start) (λ a o. c a o.start) (h.grey-list.listed (omega arith) (omega arith))
      (λ a k o l. eq_or a v
      (λ y. eq_or (ref_field k) j
      (λ i. inr (clean_kept F c (h.values.ok a k o l) (rw y (w.over e k i (rw y at l)))))
      (λ i. inl (ref_kept h w o k l (inr i))))
      (λ y. inl (ref_kept h w o k l (inl y))))

  write_cleaned : Cleaned M' cur (stage s.phase) s.walk.place s.walk.field s.list.words s.list.head s.list.tail s.sessions s.globals
  write_cleaned =
      let F = w.frame in
      let c = (changed h w).colours_same in
      let g = h.cleaned in
      let rt = h.roots in
      record {
        fields = λ lo hi a k q e l.
            each_ref h w (λ a k u. colour M a ≡ black → Clean M' cur u)
            (λ a k q l b. clean_kept F c (h.values.ok a k q l) (g.fields lo hi a k q b l))
            (λ k i l b. clean_kept F c (w.ok k i l) (w.clean lo hi k i l))
            a k q l (sym (c a (F.back q.start)) ∙ e);
        scanning = λ e l k b.
            let head = get_or s.list.words s.list.head null in
            let q = h.grey-list.listed (omega arith) (omega arith) s.list.head l in
            let z : k < refs M head = omega (arith, g.scanned-within e l) in
            each_ref h w (λ a k u. a ≡ head → k < s.walk.field → Clean M' cur u)
            (λ a k q r y d. clean_kept F c (h.values.ok a k q r) (rw y (g.scanning e l k d)))
            (λ k i l y d. clean_kept F c (w.ok k i l) (w.clean (omega arith) (omega arith) k i l))
            head k (in_to F q) (rw (refs-kept F q.start) z) refl b;
        scanned-within = λ e l.
            let q = h.grey-list.listed (omega arith) (omega arith) s.list.head l in
            rw (refs-kept F q.start) (g.scanned-within e l);
        globals-below = λ e k l. clean_kept F c (rt.global_ok k) (g.globals-below e k l);
        globals = λ lo hi k. clean_kept F c (rt.global_ok k) (g.globals lo hi k);
        scanned = λ e n k a b. covered_carried (write_carries e) (rt.reg_ok n k) (g.scanned e n k a b);
        registers = λ lo hi n k. clean_kept F c (rt.reg_ok n k) (g.registers lo hi n k);
      }

  write_kept : Kept K M' m cur (stage s.phase) after f.sessions f.globals
  write_kept =
      let g = kept-kept w.frame (changed h w).colours_same h.kept in
      record {
        to_come = λ p l. g.to_come p (rw (length-set f.records (m v - 1) x) at l);
        registers = g.registers;
        globals = g.globals;
        fields = λ p k kp n. by_place h w p
            (λ e r. rw r (either (w.held k (rw r at n))
            (λ y. rw y (rw (same_record p e) (g.fields p k kp (rw (← same_record p e) (λ z. n (rw r (y ∙ z)))))))
            (λ y. y)))
            (λ d r. rw r (g.fields p k kp (rw r at n)));
        marked = g.marked;
        left-at_reclaim = g.left-at_reclaim;
        left-at_rest = g.left-at_rest;
      }
    where
      same_record : (p : ℕ) → p - 1 ≡ m v - 1 → rec_of f.records (m v) ≡ rec_of f.records p
      same_record p e = rw e

  -- ---- all of it
  pub field-write_sim : Sim K m (with_memory s M') (with_record f (m v) x)
  unfolding with_record
  field-write_sim = record {
    range = (changed h w).range;
    filled = (changed h w).filled;
    births = rw (length-set f.records (m v - 1) x) h.births;
    identity = write_identity;
    values = write-values;
    roots = (changed h w).roots;
    levels = h.levels;
    root_halves = h.root_halves;
    field_halves = write-field_halves;
    pairs = (changed h w).pairs;
    agreement = write_agreement;
    colours = (changed h w).colours;
    grey-list = (changed h w).grey-list;
    cleaned = write_cleaned;
    walking = (changed h w).walking;
    kept = write_kept;
  }
