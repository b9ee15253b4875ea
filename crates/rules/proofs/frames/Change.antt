-- Frames of the writes that there are: one word written, and one change after another.
use Prim.Native.Nat.{ℕ, ◌<◌}
use mathlib.Core.Path.{◌≡◌, refl, ◌∙◌}
use mathlib.Core.Logic.{◌⊎◌, inl, inr}
use native.Mathlib.Omega.{arith}
use Rattle.rules.specs.Memory.{Memory, word, refs, plains, size, shape_at}
use Rattle.rules.proofs.memory.Cases.{eq_or}
use Rattle.rules.proofs.memory.Records.{Start, Filled, refs-same, plains-same, size_same, size-least}
use Rattle.rules.proofs.memory.Put.{PutKept}
use Rattle.rules.proofs.memory.Total.{total_kept}
use Rattle.rules.proofs.frames.Frame.{Frame, One}

-- a word past the first written
pub put_frame : {M M' : Memory} {v j x : ℕ} → PutKept M M' v j x → 0 < j → Frame M M' (One v j)
put_frame {M} {M'} {v} {j} k past = record {
  to = k.to;
  back = k.back;
  same = λ {v = a} t i l n. eq_or a v
      (λ e. eq_or i j (λ q. absurd (n (e, q))) (λ q. k.same t i l (inr q)))
      (λ e. k.same t i l (inl e));
  shapes = λ a q. let e = q.1 in omega arith;
  filled = k.filled;
  front = k.front;
  lengths = k.lengths;
  totals = λ h two w. total_kept (k.same_starts h two) w;
  walks = λ two w. k.walk two w;
}

-- nothing changed
pub frame_none : {M : Memory} → Filled M → Frame M M (λ v j. ⊥)
frame_none f = record {
  to = λ t. t;
  back = λ t. t;
  same = λ t i l n. refl;
  shapes = λ v q. q;
  filled = f;
  front = λ h. refl;
  lengths = λ h. refl;
  totals = λ h two w. refl;
  walks = λ two w. w;
}

-- ---- shapes stay
module _ {M M' : Memory} {Q : ℕ → ℕ → Type 0} (F : Frame M M' Q) {v : ℕ} (t : Start M v) where
  shape-kept : word M' v shape_at ≡ word M v shape_at
  shape-kept = F.same t shape_at (omega (arith, size-least M v)) (F.shapes v)

  pub refs-kept : refs M' v ≡ refs M v
  refs-kept = refs-same M M' v shape-kept

  pub plains-kept : plains M' v ≡ plains M v
  plains-kept = plains-same M M' v shape-kept

  pub size-kept : size M' v ≡ size M v
  size-kept = size_same M M' v shape-kept

-- one change after another
pub frame_then : {L M N : Memory} {Q R : ℕ → ℕ → Type 0} → Frame L M Q → Frame M N R → Frame L N (λ v j. Q v j ⊎ R v j)
frame_then {L} {M} {N} {Q} {R} F G = record {
  to = λ t. G.to (F.to t);
  back = λ t. F.back (G.back t);
  same = λ {v} t j l n. G.same (F.to t) j (rw (size-kept F t) l) (λ r. n (inr r)) ∙ F.same t j l (λ q. n (inl q));
  shapes = none;
  filled = G.filled;
  front = λ h. G.front h ∙ F.front h;
  lengths = λ h. G.lengths h ∙ F.lengths h;
  totals = λ h two w. G.totals h two w ∙ F.totals h two w;
  walks = λ two w. G.walks two (F.walks two w);
}
  where
    none : (v : ℕ) → ¬ (Q v shape_at ⊎ R v shape_at)
    none v (inl q) = F.shapes v q
    none v (inr r) = G.shapes v r

-- the same change, said more widely
pub frame_wider : {M M' : Memory} {Q R : ℕ → ℕ → Type 0} → Frame M M' Q → ((v j : ℕ) → Q v j → R v j) → ((v : ℕ) → ¬ R v shape_at) → Frame M M' R
frame_wider F i z = record {
  to = F.to;
  back = F.back;
  same = λ {v} t j l n. F.same t j l (λ q. n (i v j q));
  shapes = z;
  filled = F.filled;
  front = F.front;
  lengths = F.lengths;
  totals = F.totals;
  walks = F.walks;
}
