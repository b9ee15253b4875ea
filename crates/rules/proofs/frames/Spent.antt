-- Over a frame, the bound on marking: where no black record of the current half changes its colour, no less is counted.
use Prim.Native.Nat.{ℕ, ◌+◌, ◌≤◌, ◌<◌}
use mathlib.Core.Path.{◌≡◌, refl, ◌∙◌}
use mathlib.Core.Logic.{◌≢◌}
use native.Mathlib.Nat.{le_refl}
use native.Mathlib.Omega.{arith}
use Rattle.rules.specs.Memory.{Memory, black, colour, refs, header, colour_at}
use Rattle.rules.specs.Control.{Store, with_memory}
use Rattle.rules.specs.Cycle.{stage}
use Rattle.rules.proofs.Ranges.{InRange}
use Rattle.rules.proofs.memory.Cases.{eq_or}
use Rattle.rules.proofs.memory.Total.{total_le, total_room}
use Rattle.rules.proofs.invariant.Stages.{st_heap_mark}
use Rattle.rules.proofs.invariant.Words.{In, done}
use Rattle.rules.proofs.invariant.Counted.{done_none, done-black, done_grows}
use Rattle.rules.proofs.invariant.Spent.{done_in, scans, Grows}
use Rattle.rules.proofs.invariant.Spending.{Spends, spends_marking}
use Rattle.rules.proofs.frames.Frame.{Frame, One}
use Rattle.rules.proofs.frames.Change.{refs-kept}
use Rattle.rules.proofs.frames.Kept.{colour-kept, colours_kept}

-- ---- the steps on the black records of a half

module _ {M M' : Memory} {Q : ℕ → ℕ → Type 0} (F : Frame M M' Q) {h : ℕ} (two : h < 2)
    (stay : (v : ℕ) → In M h v → colour M v ≡ black → colour M' v ≡ black) where
  each_grows : (v : ℕ) → In M h v → done M v ≤ done M' v
  each_grows v t = done_grows M M' v (stay v t) (refs-kept F t.start)

  done-kept : done_in M h ≤ done_in M' h
  done-kept = rw (F.totals h two (done M')) (total_le M two (done M) (done M') (λ v t side. each_grows v (record { start = t; side = side })))

  -- a record that becomes black
  done_more : {v : ℕ} → In M h v → colour M v ≢ black → colour M' v ≡ black → done_in M h + (refs M v + 1) ≤ done_in M' h
  done_more {v} t d e = rw (F.totals h two (done M')) (total_room M two (done M) (done M') t.start t.side (refs M v + 1)
      (omega (arith, done_none M v d, done-black M' v e, refs-kept F t.start))
      (λ u o side. each_grows u (record { start = o; side = side })))

-- ---- a change within a phase

module _ {s t : Store} {Q : ℕ → ℕ → Type 0} (two : s.current < 2) (F : Frame s.memory t.memory Q) where
  pub frame_grows : t.phase ≡ s.phase → t.current ≡ s.current
      → ((v : ℕ) → In s.memory s.current v → colour s.memory v ≡ black → colour t.memory v ≡ black)
      → (stage s.phase ≡ st_heap_mark → s.walk.field + scans s.sessions ≤ t.walk.field + scans t.sessions) → Grows s t
  frame_grows p c stay others = record {
    phase = p;
    front = rw c (omega (arith, F.front s.current));
    blacks = λ a b. rw c (done-kept F two stay);
    others = others;
  }

-- no header changes
pub fields_grow : {s : Store} {M' : Memory} {Q : ℕ → ℕ → Type 0} → s.current < 2 → Frame s.memory M' Q → ((v j : ℕ) → Q v j → header ≤ j)
    → Grows s (with_memory s M')
fields_grow two F only =
    frame_grows two F refl refl (λ v t e. colours_kept F (λ u q. let l = only u colour_at q in omega arith) v t.start ∙ e) (λ a. le_refl _)

-- ---- HeapMark: all fields of v have been walked, and it becomes black
pub black_spends : {s t : Store} {v : ℕ} → InRange s → s.current < 2 → stage s.phase ≡ st_heap_mark → Frame s.memory t.memory (One v colour_at)
    → t.phase ≡ s.phase → t.current ≡ s.current → In s.memory s.current v → colour s.memory v ≢ black → colour t.memory v ≡ black
    → s.walk.field ≤ refs s.memory v → scans s.sessions ≤ scans t.sessions → Spends s t
black_spends {s} {t} {v} r two e F p c i d b l g = spends_marking r e p
    (rw c (omega (arith, done_more F two (λ u o z. eq_or u v (λ q. rw q b) (λ q. colour-kept F o.start (λ y. q y.0) ∙ z)) i d b)))
