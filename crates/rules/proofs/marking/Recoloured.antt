-- The groups that read colours, after a white record has been coloured grey or a grey one black.
use Prim.Native.Nat.{ℕ, ◌≤◌, ◌<◌}
use mathlib.Core.Path.{◌≡◌, sym, ◌∙◌}
use mathlib.Core.Logic.{◌≢◌}
use mathlib.Core.List.{List}
use native.Mathlib.Omega.{arith}
use Rattle.rules.specs.Memory.{Memory, white, black, colour_at}
use Rattle.rules.specs.Free.{Record, FreeSession}
use Rattle.rules.proofs.memory.Cases.{eq_or}
use Rattle.rules.proofs.memory.Encoding.{other_differs}
use Rattle.rules.proofs.memory.Put.{PutKept}
use Rattle.rules.proofs.invariant.Stages.{st_rest, st_pre_mark1, st_heap_mark}
use Rattle.rules.proofs.invariant.Words.{In}
use Rattle.rules.proofs.invariant.Marking.{Colours, Kept}
use Rattle.rules.proofs.invariant.Carried.{kept_carried}
use Rattle.rules.proofs.frames.Kept.{in_back}
use Rattle.rules.proofs.marking.Recolour.{recolour_frame, colour_new, colour_other, replica-same, marked_still}

module _ {M M' : Memory} {v c cur st : ℕ} (p : PutKept M M' v colour_at c) (lo : st_rest < st) (hi : st ≤ st_heap_mark) (two : cur < 2) (t : In M cur v) (d : c ≢ white) where
  pub colours_recoloured : {place : ℕ} → (st ≡ st_pre_mark1 → c ≢ black) → Colours M cur st place → Colours M' cur st place
  colours_recoloured one q = record {
    at_rest = λ e. absurd (omega arith);
    at_reclaim = λ e. absurd (omega arith);
    none_black = λ e u i. eq_or u v (λ o. rw (o, colour_new p) (one e)) (λ o. rw (colour_other p (in_back (recolour_frame p) i).start o) (q.none_black e u (in_back (recolour_frame p) i)));
    none_grey = λ a. absurd (omega arith);
    replicas_white = λ b u i. rw (colour_other p (in_back (recolour_frame p) i).start (λ o. other_differs cur two (sym (rw o at i.side) ∙ t.side))) (q.replicas_white b u (in_back (recolour_frame p) i));
    paired_marked = λ b u i n. marked_still p d (in_back (recolour_frame p) i).start (q.paired_marked b u (in_back (recolour_frame p) i) (rw (replica-same p (in_back (recolour_frame p) i).start) at n));
    shelled_below = λ e. absurd (omega arith);
    shelled = λ a. absurd (omega arith);
  }

  pub kept_recoloured : {K : ℕ → Type 0} {m : ℕ → ℕ} {rs : List Record} {ys : List FreeSession} {fgs : List ℕ} → K (m v)
      → Kept K M m cur st rs ys fgs → Kept K M' m cur st rs ys fgs
  kept_recoloured k q = kept_carried
      (λ a b u i n. eq_or u v (λ o. rw o k) (λ o. q.marked a b u (in_back (recolour_frame p) i) (rw (colour_other p (in_back (recolour_frame p) i).start o) at n)))
      (λ e. absurd (omega arith)) (λ e. absurd (omega arith)) q
