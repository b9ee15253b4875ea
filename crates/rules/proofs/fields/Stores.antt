-- Stores of a register's word q, for the place p, into reference field i of the record in another register, by level and phase.
use Prim.Native.Nat.{ℕ, ◌≤◌, ◌<◌}
use mathlib.Core.Path.{◌≡◌, refl, sym, ◌∙◌}
use mathlib.Core.Logic.{◌≢◌, ◌⊎◌, inl, inr}
use native.Mathlib.Omega.{arith}
use Rattle.rules.specs.Memory.{null, put, replica, refs, ref_field}
use Rattle.rules.specs.Control.{Store, with_memory}
use Rattle.rules.specs.Cycle.{stage}
use Rattle.rules.specs.Phases.{other_half}
use Rattle.rules.specs.Barriers.{shade_all}
use Rattle.rules.specs.Free.{Free, record_at, with_record}
use Rattle.rules.specs.declared.Session.{Session}
use Rattle.rules.proofs.memory.Cases.{either}
use Rattle.rules.proofs.memory.Records.{ref_inside}
use Rattle.rules.proofs.invariant.Stages.{st_heap_mark, st_allocate, st_pre_copy, st_copy, st_stack_flip, st_reclaim}
use Rattle.rules.proofs.invariant.Words.{In, Clean, field, fwd}
use Rattle.rules.proofs.invariant.Sim.{Sim}
use Rattle.rules.proofs.invariant.Laws.{in_nonnull, fwd_ok, fwd_names}
use Rattle.rules.proofs.invariant.Spans.{Allowed, level_low}
use Rattle.rules.proofs.frames.Change.{refs-kept}
use Rattle.rules.proofs.frames.Kept.{ok_to, field-kept}
use Rattle.rules.proofs.sessions.Session.{WordFits}
use Rattle.rules.proofs.fields.Written.{written_alone, written_from, written_to}
use Rattle.rules.proofs.fields.Reference.{with_ref, Fits, FitsAway, ref_write_sim}
use Rattle.rules.proofs.fields.Barred.{Barred}

-- ---- the record alone written
pub alone_sim : {K : ℕ → Type 0} {m : ℕ → ℕ} {s : Store} {f : Free} {v i q p : ℕ} → Sim K m s f → In s.memory s.current v → i < refs s.memory v
    → Fits K m s q p → (stage s.phase ≤ st_pre_copy) ⊎ ((stage s.phase ≡ st_reclaim) ⊎ (replica s.memory v ≡ null))
    → (stage s.phase ≡ st_heap_mark → Clean s.memory s.current (field s.memory v i))
    → Sim K m (with_memory s (put s.memory v (ref_field i) q)) (with_record f (m v) (with_ref (record_at f (m v)) i p))
alone_sim {s = s} {v = v} {i = i} {q = q} h o l x st over =
    ref_write_sim h (written_alone h o (ref_field i) (omega arith) (ref_inside s.memory v i l) q null (λ lo hi n. none lo hi n)) l x
    (record { ok = λ hi z. absurd (in_nonnull z refl); side = λ hi z. absurd (in_nonnull z refl); agrees = λ lo hi n. absurd (none lo hi n) }) over
  where
    none : st_copy ≤ stage s.phase → stage s.phase ≤ st_stack_flip → replica s.memory v ≢ null → ⊥
    none lo hi n = either st (λ z. omega arith) (λ r. either r (λ z. omega arith) n)

-- ---- levels 0 to 3: after shading, the record alone; old is what the field held
module _ {K : ℕ → Type 0} {m : ℕ → ℕ} {s : Store} {f : Free} {x : Session} {l old q p : ℕ}
    (h : Sim K m s f) (a : Allowed s.phase l) (b : l ≤ 3) (t : WordFits K m s x q p) (w : Barred K m s f l old q) where
  -- the word fits in the shaded store too
  pub shaded_fits : Fits K m (shade_all s w.them) q p
  shaded_fits =
      let k = w.keeps in
      record {
        is = t.is;
        held = t.kept;
        ok = ok_to k.frame t.ok;
        side = λ y n. t.names (rw k.phase at y) n ∙ sym k.current;
        clean = λ lo hi. rw k.current (w.clean (rw k.phase at lo) (rw k.phase at hi));
      }

  pub low_sim : {v i : ℕ} → In s.memory s.current v → i < refs s.memory v → field s.memory v i ≡ old
      → Sim K m (with_memory (shade_all s w.them) (put (shade_all s w.them).memory v (ref_field i) q)) (with_record f (m v) (with_ref (record_at f (m v)) i p))
  low_sim {v} {i} o r e =
      let k = w.keeps in
      alone_sim w.sim (record { start = k.frame.to o.start; side = o.side ∙ sym k.current }) (rw (refs-kept k.frame o.start) r)
      shaded_fits
      (rw k.phase (either (level_low 3 (omega arith) h.range.phases a b) (λ z. inl z) (λ z. inr (inl z))))
      (λ z. rw (k.current, field-kept k.frame o.start i r (λ y. omega arith), e) (w.over (rw k.phase at z)))

-- ---- after Allocate, up to StackFlip: the record and its replica, the replica with the forwarded word
module _ {K : ℕ → Type 0} {m : ℕ → ℕ} {s : Store} {f : Free} {u p : ℕ} (h : Sim K m s f) (lo : st_allocate < stage s.phase) (hi : stage s.phase ≤ st_stack_flip) (x : Fits K m s u p) where
  -- the forwarded word may be written to the replica
  pub forwarded_away : (v t : ℕ) → FitsAway s v t u (fwd s.memory (other_half s.current) u)
  forwarded_away v t = record {
    ok = λ a o. fwd_ok h x.ok;
    side = λ a o. fwd_names h lo hi x.ok (x.clean (omega arith) hi);
    agrees = λ a b n. refl;
  }

  -- the record worked on is in the current half
  pub from_sim : {v i : ℕ} → In s.memory s.current v → i < refs s.memory v → replica s.memory v ≢ null
      → Sim K m (with_memory s (put (put s.memory v (ref_field i) u) (replica s.memory v) (ref_field i) (fwd s.memory (other_half s.current) u)))
      (with_record f (m v) (with_ref (record_at f (m v)) i p))
  from_sim {v} {i} o l n =
      ref_write_sim h (written_from h o (ref_field i) (omega arith) (ref_inside s.memory v i l) n u (fwd s.memory (other_half s.current) u)) l x
      (forwarded_away v (replica s.memory v)) (λ e. absurd (omega arith))

  -- it is the replica
  pub to_sim : {v i : ℕ} → In s.memory s.current v → i < refs s.memory v → replica s.memory v ≢ null
      → Sim K m (with_memory s (put (put s.memory (replica s.memory v) (ref_field i) (fwd s.memory (other_half s.current) u)) v (ref_field i) u))
      (with_record f (m v) (with_ref (record_at f (m v)) i p))
  to_sim {v} {i} o l n =
      ref_write_sim h (written_to h o (ref_field i) (omega arith) (ref_inside s.memory v i l) n u (fwd s.memory (other_half s.current) u)) l x
      (forwarded_away v (replica s.memory v)) (λ e. absurd (omega arith))

-- ---- Reclaim: both copies, the contents of the other half are no longer read
pub reclaim_sim : {K : ℕ → Type 0} {m : ℕ → ℕ} {s : Store} {f : Free} {v i u p : ℕ} → Sim K m s f → stage s.phase ≡ st_reclaim → Fits K m s u p
    → In s.memory s.current v → i < refs s.memory v → replica s.memory v ≢ null → (y : ℕ)
    → Sim K m (with_memory s (put (put s.memory v (ref_field i) u) (replica s.memory v) (ref_field i) y)) (with_record f (m v) (with_ref (record_at f (m v)) i p))
reclaim_sim {s = s} {v = v} {i = i} {u = u} h e x o l n y =
    ref_write_sim h (written_from h o (ref_field i) (omega arith) (ref_inside s.memory v i l) n u y) l x
    (record { ok = λ hi z. absurd (omega arith); side = λ hi z. absurd (omega arith); agrees = λ lo hi z. absurd (omega arith) }) (λ z. absurd (omega arith))
