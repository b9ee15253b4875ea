-- A record coloured grey or black: what words stay, and what still names no white record.
use Prim.Native.Nat.{ℕ, ◌+◌, ◌<◌}
use mathlib.Core.Path.{◌≡◌, ◌∙◌}
use mathlib.Core.Logic.{◌≢◌}
use native.Mathlib.Omega.{arith}
use Rattle.rules.specs.Memory.{Memory, white, colour_at, colour, replica, refs}
use Rattle.rules.proofs.memory.Cases.{eq_or}
use Rattle.rules.proofs.memory.Records.{Start}
use Rattle.rules.proofs.memory.Put.{PutKept}
use Rattle.rules.proofs.memory.Total.{total, total_equal, total_bump, total_kept}
use Rattle.rules.proofs.invariant.Words.{In, Ok, Clean, field, marks}
use Rattle.rules.proofs.invariant.Carried.{clean_carried}
use Rattle.rules.proofs.invariant.Counted.{marks_same, marks_none, marks_one}
use Rattle.rules.proofs.frames.Frame.{Frame, One}
use Rattle.rules.proofs.frames.Change.{put_frame}
use Rattle.rules.proofs.frames.Kept.{colour-kept, replica-kept, field-kept}

module _ {M M' : Memory} {v c : ℕ} (p : PutKept M M' v colour_at c) where
  pub recolour_frame : Frame M M' (One v colour_at)
  recolour_frame = put_frame p (omega arith)

  pub colour_new : colour M' v ≡ c
  unfolding colour
  colour_new = p.new

  pub colour_other : {u : ℕ} → Start M u → u ≢ v → colour M' u ≡ colour M u
  colour_other t d = colour-kept recolour_frame t (λ q. d q.0)

  pub replica-same : {u : ℕ} → Start M u → replica M' u ≡ replica M u
  replica-same t = replica-kept recolour_frame t (λ q. let e = q.1 in omega arith)

  pub field-same : {u : ℕ} → Start M u → (i : ℕ) → i < refs M u → field M' u i ≡ field M u i
  field-same t i l = field-kept recolour_frame t i l (λ q. let e = q.1 in omega arith)

  -- a colour other than white takes nothing white that wasn't
  module _ (d : c ≢ white) where
    pub marked_still : {u : ℕ} → Start M u → colour M u ≢ white → colour M' u ≢ white
    marked_still {u} t n = eq_or u v (λ e. rw (e, colour_new) d) (λ e. rw (colour_other t e) n)

    pub clean_still : {h u : ℕ} → Ok M u → Clean M h u → Clean M' h u
    clean_still ok k = clean_carried M' marked_still ok k

    -- a clean field
    pub field-still : {h u : ℕ} → Start M u → (i : ℕ) → i < refs M u → Ok M (field M u i) → Clean M h (field M u i) → Clean M' h (field M' u i)
    field-still t i l ok k = rw (field-same t i l) (clean_still ok k)

    -- the count of marked records
    marks_other : {u : ℕ} → Start M u → u ≢ v → marks M' u ≡ marks M u
    marks_other {u} t e = marks_same M M' u (colour_other t e)

    marks_new : marks M' v ≡ 1
    marks_new = marks_one M' v (rw colour_new d)

    -- a white record that is coloured is one more
    pub total_more : {h : ℕ} → h < 2 → In M h v → colour M v ≡ white → total M' h (marks M') ≡ total M h (marks M) + 1
    total_more {h} two t e = total_kept (p.same_starts h two) (marks M') ∙
        total_bump M two (marks M) (marks M') t.start t.side 1 (rw (marks_new, marks_none M v e)) (λ u t side o. marks_other t o)

    -- another colour of a marked one leaves the count
    pub total_still : {h : ℕ} → h < 2 → In M h v → colour M v ≢ white → total M' h (marks M') ≡ total M h (marks M)
    total_still {h} two t e = total_kept (p.same_starts h two) (marks M') ∙
        total_equal M two (marks M') (marks M) (λ u t side. eq_or u v (λ o. rw (o, marks_new, marks_one M v e)) (λ o. marks_other t o))
