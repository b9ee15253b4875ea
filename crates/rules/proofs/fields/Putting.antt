-- The call put: a global takes a register's word.
use Prim.Native.Nat.{ℕ, ◌≤◌, ◌<◌}
use mathlib.Core.Path.{◌≡◌, refl, ap, ◌∙◌}
use mathlib.Core.Logic.{◌≢◌}
use mathlib.Core.Bool.{Bool, true, false, cond, ◌&&◌}
use mathlib.Core.List.{List}
use native.Mathlib.Omega.{arith}
use lib.Dec.{eqb}
use lib.ListN.{get_or, set}
use borrow.Author.Tests.{leb-true, ne_eqb}
use Rattle.rules.specs.Refusals.{passed}
use Rattle.rules.specs.Memory.{null, in_half, other_copy, frontier}
use Rattle.rules.specs.Control.{Store, last_global}
use Rattle.rules.specs.Cycle.{stage}
use Rattle.rules.specs.Phases.{other_half}
use Rattle.rules.specs.Barriers.{Heap, heap_of, shade, shade_both, barrier_shades, own_word, put_writes}
use Rattle.rules.specs.Calls as calls
use Rattle.rules.specs.Calls.{is_register, is_global, put_commit}
use Rattle.rules.specs.Free.{Free, free_put}
use Rattle.rules.specs.declared.Session.{Session}
use Rattle.rules.specs.declared.Writes.{Writes}
use Rattle.rules.proofs.memory.Cases.{eq_or, lt_or, either}
use Rattle.rules.proofs.invariant.Stages.{st_allocate, st_root_flip, st_stack_flip, st_reclaim, in_stage}
use Rattle.rules.proofs.invariant.Words.{Names}
use Rattle.rules.proofs.invariant.Sim.{Sim}
use Rattle.rules.proofs.invariant.Spent.{Grows, spent_grows, grows_same}
use Rattle.rules.proofs.invariant.Laws.{cur_two, from-current, from_two, in_half-null}
use Rattle.rules.proofs.invariant.Following.{follow-word}
use Rattle.rules.proofs.invariant.Spans.{Allowed, level_from, level_to, level_low, level_last, level_most}
use Rattle.rules.proofs.relation.Alike.{Alike, passed_both, both_check, both_commit, left-done}
use Rattle.rules.proofs.relation.Tests.{both_session}
use Rattle.rules.proofs.sessions.Session.{WordFits, GlobalFits, global_fits, with_free_globals, global_sim}
use Rattle.rules.proofs.sessions.Registers.{held_fits}
use Rattle.rules.proofs.marking.Shading.{keeps_grows, shade_both-front}
use Rattle.rules.proofs.fields.Reference.{Fits}
use Rattle.rules.proofs.fields.Barrier.{own_6, no_shade}
use Rattle.rules.proofs.fields.Barred.{both_shaded, barred}
use Rattle.rules.proofs.fields.Stores.{shaded_fits}
use Rattle.rules.proofs.fields.Table.{own_fits, forwarded_fits, forwarded_names, reclaim_fits, reclaim-own}

-- what fits a field fits a global, where the flip has not passed it
fits_global : {K : ℕ → Type 0} {m : ℕ → ℕ} {s : Store} {u p : ℕ} (g : ℕ) → Fits K m s u p
    → (st_root_flip ≤ stage s.phase → stage s.phase ≤ st_stack_flip → Names (other_half s.current) u) → GlobalFits K m s g u p
fits_global g x flipped = record {
  ok = x.ok;
  is = x.is;
  names = x.side;
  flipping = λ e l. flipped (omega arith) (omega arith);
  flipped = λ lo hi. flipped (omega arith) hi;
  below = λ e l. x.clean (omega arith) (omega arith);
  clean = λ lo hi. x.clean (omega arith) hi;
  kept = x.held;
}

-- a global's word is the register's but at level 6
own_global : (z : Heap) {l q : ℕ} → l ≢ 6 → own_word z l null q ≡ passed q
unfolding own_word
own_global z {l} {q} n = rw (ne_eqb l 6 n, in_half-null) (go (eqb l 5))
  where
    go : (b : Bool) → cond (b && false && in_half z.from q) (other_copy z.memory q) (passed q) ≡ passed q
    go true = refl
    go false = refl

put_writes_lem : (z : Heap) (l old q : ℕ) {vs : List ℕ} {u : ℕ} → barrier_shades z l old q ≡ passed vs → own_word z l null q ≡ passed u
    → put_writes z l old q ≡ passed (record { first = get_or vs 0 null; second = get_or vs 1 null; own = u; replica = null; copy = null })
unfolding put_writes
put_writes_lem z l old q e c = rw (e, c)

-- a put of q, for the place p, into global g passes its tests, and what it writes keeps the invariant
pub record GlobalPut (K : ℕ → Type 0) (m : ℕ → ℕ) (s : Store) (f : Free) (l g q p : ℕ) : Type 0 where
  pub writes : Writes
  pub passes : put_writes (heap_of s) l (get_or s.globals g null) q ≡ passed writes
  pub sim : Sim K m (put_commit s g writes) (with_free_globals f (set f.globals g p))
  pub grows : Grows s (shade_both s writes)

-- the frontiers stay
put_front : (s : Store) (g : ℕ) (w : Writes) (h : ℕ) → frontier (put_commit s g w).memory h ≡ frontier s.memory h
unfolding put_commit
put_front s g w h = shade_both-front s w h

-- and globals are not counted
placed_grows : (s : Store) (g : ℕ) (w : Writes) → Grows s (shade_both s w) → Grows s (put_commit s g w)
unfolding put_commit
placed_grows s g w k = record { phase = k.phase; front = k.front; blacks = k.blacks; others = k.others }

module _ {K : ℕ → Type 0} {m : ℕ → ℕ} {s : Store} {f : Free} {x : Session} {l q p : ℕ} (h : Sim K m s f) (t : WordFits K m s x q p)
    (a : Allowed s.phase l) (g : ℕ) (b : g ≤ last_global) {y : ℕ} (o : WordFits K m s x (get_or s.globals g null) y) where
  -- levels 0 to 3: after shading
  placed-low : l ≤ 3 → GlobalPut K m s f l g q p
  unfolding put_commit
  placed-low c =
      let w = barred h l (get_or s.globals g null) q a c o t in
      let k = w.keeps in
      let z : Writes = record { first = get_or w.them 0 null; second = get_or w.them 1 null; own = q; replica = null; copy = null } in
      record {
        writes = z;
        passes = put_writes_lem (heap_of s) l (get_or s.globals g null) q w.passes (own_global (heap_of s) (λ e. omega arith));
        sim = rw (both_shaded s z w.them w.few refl refl) (rw k.globals at (global_sim w.sim g b (fits_global g (shaded_fits h a c t w)
            (λ lo hi. absurd (either (level_low 3 (omega arith) h.range.phases a c)
            (λ z. omega (arith, ap stage k.phase)) (λ z. omega (arith, ap stage k.phase)))))));
        grows = rw (both_shaded s z w.them w.few refl refl) (keeps_grows (cur_two h) k);
      }

  -- levels 4 to 6: nothing is shaded
  placed-high : {u : ℕ} → 4 ≤ l → own_word (heap_of s) l null q ≡ passed u → Fits K m s u p
      → (st_root_flip ≤ stage s.phase → stage s.phase ≤ st_stack_flip → Names (other_half s.current) u) → GlobalPut K m s f l g q p
  unfolding shade shade_both put_commit
  placed-high {u} c e y n = record {
    writes = record { first = null; second = null; own = u; replica = null; copy = null };
    passes = put_writes_lem (heap_of s) l (get_or s.globals g null) q (no_shade (heap_of s) l null 0 q (get_or s.globals g null) c) e;
    sim = global_sim h g b (fits_global g y n);
    grows = grows_same;
  }

  put-places : GlobalPut K m s f l g q p
  put-places = lt_or l 4 (λ c. placed-low (omega arith))
      (λ c. let lo : st_allocate < stage s.phase = omega (arith, level_from 4 (omega arith) h.range.phases a c) in
      eq_or (stage s.phase) st_reclaim
      (λ e. placed-high c (reclaim-own h t e (level_last h.range.phases a c e) null) (reclaim_fits h t e) (λ y z. absurd (omega arith)))
      (λ n. let hi : stage s.phase ≤ st_stack_flip = omega (arith, in_stage h.range) in
      lt_or l 6
      (λ d. placed-high c (own_global (heap_of s) (λ e. omega arith)) (own_fits h t lo hi) (λ y z. absurd (omega (arith, level_to 5 (omega arith) h.range.phases a (omega arith) (omega arith)))))
      (λ d. let e : l ≡ 6 = omega (arith, level_most s.phase l h.range.phases a) in
      placed-high c (own_6 (heap_of s) (from_two h) l null t.ok (λ o d. follow-word h t.names o) e ∙ rw (from-current h n))
      (forwarded_fits h t lo hi (level_from 6 (omega arith) h.range.phases a (omega arith))) (λ y z. forwarded_names h t lo hi))))

-- ---- the call
pub put_alike : {K : ℕ → Type 0} {m : ℕ → ℕ} {s : Store} {f : Free} → Sim K m s f → (n g from q : ℕ) → Alike K q m s (calls.put s n g from) (free_put f n g from)
unfolding calls.put calls.put_plan free_put
put_alike {s = s} h n g from q = both_commit _ (both_session h n _ _ (λ a. both_check (is_register from) 8 tt
    (λ b. both_check (is_global g) 9 tt
    (λ c. let w = put-places h (held_fits h n from a) a.allowed g (leb-true _ _ c) (global_fits h n g) in
    rw w.passes (passed_both (left-done w.sim refl (put_front s g w.writes 0) (put_front s g w.writes 1)
    (spent_grows (placed_grows s g w.writes w.grows))))))))
