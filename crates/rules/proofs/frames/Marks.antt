-- Over a frame, the groups of the invariant that speak of marking, each with the words that it needs kept.
use Prim.Native.Nat.{ℕ, ◌≤◌, ◌<◌}
use mathlib.Core.Path.{◌≡◌, sym, ◌∙◌}
use mathlib.Core.List.{List}
use native.Mathlib.Omega.{arith}
use Rattle.rules.specs.Memory.{Memory, null, word_of, replica, frontier}
use Rattle.rules.specs.Free.{Record, FreeSession}
use Rattle.rules.proofs.memory.Walk.{walk_start}
use Rattle.rules.proofs.memory.Total.{total_equal}
use Rattle.rules.proofs.invariant.Stages.{st_reclaim}
use Rattle.rules.proofs.invariant.Words.{In, marks}
use Rattle.rules.proofs.invariant.Marking.{Colours, GreyList, Walking, Kept}
use Rattle.rules.proofs.invariant.Carried.{kept_carried}
use Rattle.rules.proofs.invariant.Counted.{marks_same}
use Rattle.rules.proofs.frames.Frame.{Frame}
use Rattle.rules.proofs.frames.Change.{refs-kept, plains-kept}
use Rattle.rules.proofs.frames.Kept.{ColoursSame, ReplicasSame, in_to, in_back}

module _ {M M' : Memory} {Q : ℕ → ℕ → Type 0} (F : Frame M M' Q) where
  -- colours and replica words
  pub colours_group-kept : {cur st place : ℕ} → ColoursSame M M' → ReplicasSame M M' → Colours M cur st place → Colours M' cur st place
  colours_group-kept {cur} c r g = record {
    at_rest = λ e v t. c v (F.back t.start) ∙ g.at_rest e v (in_back F t);
    at_reclaim = λ e v t. c v (F.back t.start) ∙ g.at_reclaim e v (in_back F t);
    none_black = λ e v t z. g.none_black e v (in_back F t) (sym (c v (F.back t.start)) ∙ z);
    none_grey = λ lo hi v t z. g.none_grey lo hi v (in_back F t) (sym (c v (F.back t.start)) ∙ z);
    replicas_white = λ l v t. c v (F.back t.start) ∙ g.replicas_white l v (in_back F t);
    paired_marked = λ l v t n z. let b = F.back t.start in
        g.paired_marked l v (in_back F t) (λ y. n (r v b ∙ y)) (sym (c v b) ∙ z);
    shelled_below = λ e v t p n z. let b = F.back t.start in
        g.shelled_below e v (in_back F t) p (λ y. n (c v b ∙ y)) (sym (r v b) ∙ z);
    shelled = λ lo hi v t n z. let b = F.back t.start in
        g.shelled lo hi v (in_back F t) (λ y. n (c v b ∙ y)) (sym (r v b) ∙ z);
  }

  -- colours
  pub grey-list-kept : {cur st : ℕ} {ws : List ℕ} {head tail : ℕ} → cur < 2 → head ≤ tail → ColoursSame M M'
      → GreyList M cur st ws head tail → GreyList M' cur st ws head tail
  grey-list-kept {cur} two le c g = record {
    listed = λ lo hi i l. in_to F (g.listed lo hi i l);
    finished = λ lo hi i l. c _ (g.listed lo hi i (omega arith)).start ∙ g.finished lo hi i l;
    unfinished = λ lo hi i b l. c _ (g.listed lo hi i l).start ∙ g.unfinished lo hi i b l;
    found = λ lo hi v t e. g.found lo hi v (in_back F t) (sym (c v (F.back t.start)) ∙ e);
    once = g.once;
    room = λ lo hi. rw (F.totals cur two (marks M'), total_equal M two (marks M') (marks M) (λ v t side. marks_same M M' v (c v t))) (g.room lo hi);
  }

  -- the replica words of the current half in Reclaim
  pub walking-kept : {cur st place wf head tail : ℕ} → cur < 2
      → (st ≡ st_reclaim → (v : ℕ) → In M cur v → word_of v < place → replica M v ≡ null → replica M' v ≡ null)
      → Walking M cur st place wf head tail → Walking M' cur st place wf head tail
  walking-kept {cur} {st} {place} two r g = record {
    at_allocate = λ e. F.walks two (g.at_allocate e);
    at_copy = λ e. F.walks two (g.at_copy e);
    at_reclaim = λ e. F.walks two (g.at_reclaim e);
    field-heap_mark = g.field-heap_mark;
    field_copy = λ e l.
        let b : place < frontier M cur = rw (F.front cur) at l in
        let t = walk_start two (g.at_copy e) b in
        rw (refs-kept F t, plains-kept F t) (g.field_copy e b);
    field-copy-end = λ e l. g.field-copy-end e (rw (F.front cur) at l);
    cleared = λ e v t l. let a = in_back F t in r e v a l (g.cleared e v a l);
  }

  -- colours
  pub kept-kept : {K : ℕ → Type 0} {m : ℕ → ℕ} {cur st : ℕ} {rs : List Record} {ys : List FreeSession} {fgs : List ℕ}
      → ColoursSame M M' → Kept K M m cur st rs ys fgs → Kept K M' m cur st rs ys fgs
  kept-kept c g = kept_carried
      (λ lo hi v t n. g.marked lo hi v (in_back F t) (λ z. n (c v (F.back t.start) ∙ z)))
      (λ e v t. g.left-at_reclaim e v (in_back F t)) (λ e v t. g.left-at_rest e v (in_back F t)) g
