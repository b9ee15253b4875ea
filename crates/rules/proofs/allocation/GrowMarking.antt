-- New records: colours, the grey list, what is clean, the walk, and what is kept alive.
use Prim.Native.Nat.{ℕ, ◌≤◌, ◌<◌}
use mathlib.Core.Path.{◌≡◌, sym, ◌∙◌}
use mathlib.Core.Logic.{◌≢◌, inl}
use mathlib.Core.List.{List}
use native.Mathlib.Omega.{arith}
use lib.ListN.{get_or}
use Rattle.rules.specs.Memory.{Memory, null, frontier, half_of, replica, refs}
use Rattle.rules.specs.Free.{Record, FreeSession}
use Rattle.rules.specs.declared.Session.{Session}
use Rattle.rules.proofs.memory.Cases.{either, lt_or}
use Rattle.rules.proofs.memory.Records.{Start}
use Rattle.rules.proofs.memory.Walk.{Walk, walk_start}
use Rattle.rules.proofs.invariant.Stages.{st_heap_mark, st_allocate}
use Rattle.rules.proofs.invariant.Words.{In, Ok, Clean}
use Rattle.rules.proofs.invariant.Groups.{Values, Roots}
use Rattle.rules.proofs.invariant.Protected.{scan, Carries, carries_kept, covered_carried}
use Rattle.rules.proofs.invariant.Marking.{Colours, GreyList, Cleaned, Walking, Kept}
use Rattle.rules.proofs.invariant.Carried.{clean_carried}
use Rattle.rules.proofs.allocation.Grown.{Grown, grown-refs, grown-plains, grown-colour, grown-field, new_ref, grown_in, old_or_new}
use Rattle.rules.proofs.allocation.Growth.{Longer, Placed, Joined, Tinted}

module _ {M M' : Memory} {New Re : ℕ → Type 0} (g : Grown M M' New Re) {m' : ℕ → ℕ} {cur st : ℕ}
    (j : Joined M M' New Re m' cur st) (c : Tinted M M' New cur st) where
  -- a marked record that had a replica has one
  still_shelled : {v : ℕ} → Start M v → replica M v ≢ null → replica M' v ≢ null
  still_shelled t d = either (g.same-replica t) (λ e z. d (sym e ∙ z)) (λ r. j.after r)

  pub grown_colours : {place : ℕ} → (st ≡ st_allocate → Walk M cur place) → Colours M cur st place → Colours M' cur st place
  grown_colours w k = record {
    at_rest = λ a v t. old_or_new g t (λ o. rw (grown-colour g o.start) (k.at_rest a v o)) (λ n side. c.at_rest a n side);
    at_reclaim = λ a v t. old_or_new g t (λ o. rw (grown-colour g o.start) (k.at_reclaim a v o)) (λ n side. c.at_reclaim a n side);
    none_black = λ a v t. old_or_new g t (λ o. rw (grown-colour g o.start) (k.none_black a v o)) (λ n side. c.none_black a n side);
    none_grey = λ a b v t. old_or_new g t (λ o. rw (grown-colour g o.start) (k.none_grey a b v o)) (λ n side. c.none_grey n side);
    replicas_white = λ a v t. old_or_new g t (λ o. rw (grown-colour g o.start) (k.replicas_white a v o)) (λ n side. c.white_away a n side);
    paired_marked = λ a v t d. old_or_new g t
        (λ o. rw (grown-colour g o.start) (either (g.same-replica o.start) (λ e. k.paired_marked a v o (λ z. d (e ∙ z))) (λ r. j.marked r)))
        (λ n side. c.paired a n side d);
    shelled_below = λ a v t l d. old_or_new g t
        (λ o. still_shelled o.start (k.shelled_below a v o l (rw (grown-colour g o.start) at d)))
        (λ n side. absurd (omega (arith, l, g.above n cur side, (w a).within)));
    shelled = λ a b v t d. old_or_new g t
        (λ o. still_shelled o.start (k.shelled a b v o (rw (grown-colour g o.start) at d)))
        (λ n side. c.shelled a b n side d);
  }

  pub grown-grey-list : {ws : List ℕ} {head tail : ℕ} → head ≤ tail → GreyList M cur st ws head tail → GreyList M' cur st ws head tail
  grown-grey-list order k = record {
    listed = λ a b i l. grown_in g (k.listed a b i l);
    finished = λ a b i l. rw (grown-colour g (k.listed a b i (omega arith)).start) (k.finished a b i l);
    unfinished = λ a b i l l'. rw (grown-colour g (k.listed a b i l').start) (k.unfinished a b i l l');
    found = λ a b v t e. old_or_new g t
        (λ o. k.found a b v o (rw (grown-colour g o.start) at e))
        (λ n side. absurd (c.none_grey n side e));
    once = k.once;
    room = λ a b. omega (arith, k.room a b, c.room a b);
  }

module _ {M M' : Memory} {New Re : ℕ → Type 0} (g : Grown M M' New Re) where
  -- a word that names a record stays clean
  clean_kept : {h u : ℕ} → Ok M u → Clean M h u → Clean M' h u
  clean_kept o k = clean_carried M' (λ t n. rw (grown-colour g t) n) o k

  pub grown_cleaned : {m : ℕ → ℕ} {cur st place wf : ℕ} {rs : List Record} {ws : List ℕ} {head tail : ℕ} {xs : List Session} {ys : List FreeSession} {gs fgs : List ℕ}
      → Values M m cur rs → Roots M m xs ys gs fgs → GreyList M cur st ws head tail
      → Cleaned M cur st place wf ws head tail xs gs → Cleaned M' cur st place wf ws head tail xs gs
  grown_cleaned {m} {cur} {st} {place} {wf} {rs} {ws} {head} {tail} v r l k = record {
    fields = λ a b u i t e n. old_or_new g t
        (λ o. let n' = rw (grown-refs g o.start) at n in
        rw (grown-field g o.start i n') (clean_kept (v.ok u i o n') (k.fields a b u i o (rw (grown-colour g o.start) at e) n')))
        (λ w side d. absurd (d (new_ref g w i n)));
    scanning = λ a b i n.
        let o = first a b in
        let n' : i < refs M (get_or ws head null) = omega (arith, k.scanned-within a b) in
        rw (grown-field g o.start i n') (clean_kept (v.ok _ i o n') (k.scanning a b i n));
    scanned-within = λ a b. rw (grown-refs g (first a b).start) (k.scanned-within a b);
    globals-below = λ a i n. clean_kept (r.global_ok i) (k.globals-below a i n);
    globals = λ a b i. clean_kept (r.global_ok i) (k.globals a b i);
    scanned = λ a n i d e. covered_carried (carries a) (r.reg_ok n i) (k.scanned a n i d e);
    registers = λ a b n i. clean_kept (r.reg_ok n i) (k.registers a b n i);
  }
    where
      first : st ≡ st_heap_mark → head < tail → In M cur (get_or ws head null)
      first a b = l.listed (omega arith) (omega arith) head b

      carries : st ≡ st_heap_mark → Carries M M' cur (scan ws head tail wf) (scan ws head tail wf)
      carries a = carries_kept (λ u. grown_in g) (λ u o. grown-refs g o.start) (λ u o. grown-colour g o.start) (l.listed (omega arith) (omega arith))
          (λ u i o n. inl (grown-field g o.start i n))

  pub grown-walking : {m' : ℕ → ℕ} {cur st place wf head tail : ℕ} → cur < 2 → Joined M M' New Re m' cur st
      → Walking M cur st place wf head tail → Walking M' cur st place wf head tail
  grown-walking {m'} {cur} {st} {place} {wf} two j k = record {
    at_allocate = λ a. g.walks two (k.at_allocate a);
    at_copy = λ a. g.walks two (k.at_copy a);
    at_reclaim = λ a. g.walks two (k.at_reclaim a);
    field-heap_mark = k.field-heap_mark;
    field_copy = λ a b. lt_or place (frontier M cur)
        (λ l. let t = walk_start two (k.at_copy a) l in rw (grown-refs g t, grown-plains g t) (k.field_copy a l))
        (λ l. omega (arith, k.field-copy-end a l));
    field-copy-end = λ a b. k.field-copy-end a (omega (arith, g.front cur two));
    cleared = λ a v t l. old_or_new g t
        (λ o. either (g.same-replica o.start) (λ e. e ∙ k.cleared a v o l) (λ r. absurd (omega (arith, j.early r))))
        (λ n side. absurd (omega (arith, l, g.above n cur side, (k.at_reclaim a).within)));
  }

  pub grown-kept : {K : ℕ → Type 0} {m m' : ℕ → ℕ} {cur st q : ℕ} {rs rs' : List Record} {ys : List FreeSession} {fgs : List ℕ}
      → Longer rs rs' → Placed M M' New m m' cur q rs rs' → Kept K M m cur st rs ys fgs → Kept K M' m' cur st rs' ys fgs
  grown-kept {K} {m} {m'} {cur} {st} {q} l p k = record {
    to_come = λ n b. k.to_come n (omega (arith, l.more));
    registers = k.registers;
    globals = k.globals;
    fields = λ n i a d. rw (l.refs n i) (k.fields n i a (λ z. d (l.refs n i ∙ z)));
    marked = λ a b v t d. old_or_new g t
        (λ o. rw (p.old o.start) (k.marked a b v o (rw (grown-colour g o.start) at d)))
        (λ n side. new_kept n side);
    left-at_reclaim = λ a v t. old_or_new g t (λ o. rw (p.old o.start) (k.left-at_reclaim a v o)) (λ n side. new_kept n side);
    left-at_rest = λ a v t. old_or_new g t (λ o. rw (p.old o.start) (k.left-at_rest a v o)) (λ n side. new_kept n side);
  }
    where
      new_kept : {v : ℕ} → New v → half_of v ≡ cur → K (m' v)
      new_kept n side = rw (p.new n) (k.to_come q (p.fresh n side))
