-- The call same: two words name one record exactly where their places are equal. Words of one half by identity; at levels 5 and 6
-- by Algorithm 9(a), where a fromspace record has its replica.
use Prim.Native.Nat.{ℕ, ◌≤◌, ◌<◌}
use mathlib.Core.Path.{◌≡◌, refl, sym, ap, ◌∙◌}
use mathlib.Core.Logic.{◌≢◌}
use mathlib.Core.Bool.{true, false, ◌&&◌}
use native.Mathlib.Omega.{arith}
use lib.Dec.{eqb}
use borrow.Author.Tests.{eq-eqb, ne_eqb, le-leb, lt-leb}
use Rattle.rules.specs.Refusals.{passed}
use Rattle.rules.specs.Memory.{Memory, null, half_of, in_half, replica}
use Rattle.rules.specs.Control.{Store}
use Rattle.rules.specs.Cycle.{stage}
use Rattle.rules.specs.Phases.{other_half, fromspace}
use Rattle.rules.specs.Barriers.{heap_of, pointer_eq, same_at}
use Rattle.rules.specs.Calls as calls
use Rattle.rules.specs.Calls.{is_register}
use Rattle.rules.specs.Free.{Free, free_same}
use Rattle.rules.specs.declared.Session.{Session}
use Rattle.rules.proofs.memory.Cases.{eq_or, lt_or, same_test, eqb_swap}
use Rattle.rules.proofs.memory.Encoding.{half-below_2, only_other}
use Rattle.rules.proofs.memory.Records.{start_nonnull}
use Rattle.rules.proofs.invariant.Stages.{st_copy, st_stack_flip, st_reclaim, in_stage}
use Rattle.rules.proofs.invariant.Words.{In, Ok, ok_null, ok_start, Names}
use Rattle.rules.proofs.invariant.Groups.{Pair}
use Rattle.rules.proofs.invariant.Sim.{Sim}
use Rattle.rules.proofs.invariant.Laws.{other_not, has_replica, from-current, from_other, from_two, in_half_yes, in_half_no, in_half-null}
use Rattle.rules.proofs.invariant.Following.{Followable, followed_start, follow-word}
use Rattle.rules.proofs.invariant.Pairs.{pair_side}
use Rattle.rules.proofs.invariant.Spans.{Allowed, level_from, level_home}
use Rattle.rules.proofs.relation.Alike.{Alike, both_check, both_passes, alike_done}
use Rattle.rules.proofs.relation.Tests.{both_session}
use Rattle.rules.proofs.sessions.Session.{WordFits}
use Rattle.rules.proofs.sessions.Registers.{held_fits}

-- whether a word is in half h
side_or : {M : Memory} {v : ℕ} (h : ℕ) → Ok M v → {C : Type 0}
    → (In M h v → in_half h v ≡ true → C) → ((v ≢ null → half_of v ≢ h) → in_half h v ≡ false → C) → C
side_or {M} {v} h (ok_null e) f g = g (λ n. absurd (n e)) (rw e (in_half-null h))
side_or {M} {v} h (ok_start t) f g = eq_or (half_of v) h
    (λ e. f (record { start = t; side = e }) (in_half_yes t e))
    (λ d. g (λ n. d) (in_half_no t d))

module _ {K : ℕ → Type 0} {m : ℕ → ℕ} {s : Store} {f : Free} (h : Sim K m s f) where
  abbrev M : Memory
  M = s.memory

  -- words of one half are equal where their places are
  one_half : {v w : ℕ} (side : ℕ) → Ok M v → Ok M w → Names side v → Names side w → m v ≡ m w → v ≡ w
  one_half side (ok_null a) (ok_null b) p q e = a ∙ sym b
  one_half {v} {w} side (ok_null a) (ok_start u) p q e =
      let z : m v ≡ 0 = rw a h.identity.null-place in absurd (omega (arith, h.identity.low w u))
  one_half {v} {w} side (ok_start t) (ok_null b) p q e =
      let z : m w ≡ 0 = rw b h.identity.null-place in absurd (omega (arith, h.identity.low v t))
  one_half {v} {w} side (ok_start t) (ok_start u) p q e =
      h.identity.apart v w t u (p (start_nonnull t) ∙ sym (q (start_nonnull u))) e

  -- ---- Algorithm 9(a) over fromspace `from`

  module _ (from : ℕ) (two : from < 2) where
    -- a record of fromspace against another word
    across : {p q : ℕ} → In M from p → Pair M m p (replica M p) → Ok M q → p ≢ q → eqb (replica M p) q ≡ eqb (m p) (m q)
    across {p} {q} t c k d = same_test (replica M p) q (m p) (m q) (λ e. sym c.same ∙ ap m e) (there k)
      where
        there : Ok M q → m p ≡ m q → replica M p ≡ q
        there (ok_null z) e = let y : m q ≡ 0 = rw z h.identity.null-place in absurd (omega (arith, h.identity.low p t.start))
        there (ok_start u) e = eq_or (half_of q) from
            (λ side. absurd (d (h.identity.apart p q t.start u (t.side ∙ sym side) e)))
            (λ side. h.identity.apart (replica M p) q c.start u
            ((pair_side two t c).side ∙ sym (only_other from (half_of q) two (half-below_2 q) side)) (c.same ∙ e))

  pointer_passed : {p q : ℕ} → Ok M p → Ok M q → (In M (fromspace s) p → Followable M p) → (In M (fromspace s) q → Followable M q)
      → (In M (fromspace s) p → Pair M m p (replica M p)) → (In M (fromspace s) q → Pair M m q (replica M q))
      → pointer_eq (heap_of s) p q ≡ passed (eqb (m p) (m q))
  unfolding pointer_eq
  pointer_passed {p} {q} a b fp fq cp cq = eq_or p q
      (λ e. rw (eq-eqb p q e, eq-eqb (m p) (m q) (ap m e)))
      (λ d. rw (ne_eqb p q d) (side_or (fromspace s) a
      (λ t i. rw (i, followed_start (fp t), across (fromspace s) (from_two h) t (cp t) b d))
      (λ o i. rw i (side_or (fromspace s) b
      (λ t j. rw (j, followed_start (fq t), across (fromspace s) (from_two h) t (cq t) a (λ e. d (sym e)), eqb_swap (m q) (m p)))
      (λ o' j. rw (j, ne_eqb (m p) (m q) (λ e. d (one_half (other_half (fromspace s)) a b (there o) (there o') e))))))))
    where
      there : {v : ℕ} → (v ≢ null → half_of v ≢ fromspace s) → Names (other_half (fromspace s)) v
      there {v} o n = only_other (fromspace s) (half_of v) (from_two h) (half-below_2 v) (o n)

  -- ---- words that a session holds

  module _ {x : Session} {v q : ℕ} (t : WordFits K m s x v q) where
    -- from Flip on a record of fromspace has its replica; in Reclaim no word names fromspace
    has_copy : st_copy < stage s.phase → In M (fromspace s) v → Pair M m v (replica M v)
    has_copy lo c = eq_or (stage s.phase) st_reclaim
        (λ e. absurd (other_not h (sym (rw (from_other h e) at c.side) ∙ t.names (omega arith) (start_nonnull c.start))))
        (λ n. let hi : stage s.phase ≤ st_stack_flip = omega (arith, in_stage h.range) in
        let c' : In M s.current v = rw (from-current h n) at c in
        h.pairs.pair v c' (has_replica h (omega arith) hi c' (t.clean (omega arith) hi)))

  same-passed : {x : Session} {v w p q : ℕ} → WordFits K m s x v p → WordFits K m s x w q → Allowed s.phase x.level
      → same_at (heap_of s) x.level v w ≡ passed (eqb p q)
  unfolding same_at
  same-passed {x} {v} {w} {p} {q} t u a = rw (t.is, u.is) (lt_or 4 x.level
      (λ k. let lo : st_copy < stage s.phase = omega (arith, level_from 5 (omega arith) h.range.phases a k) in
      rw (lt-leb x.level 4 k) (pointer_passed t.ok u.ok (λ c. follow-word h t.names c.start) (λ c. follow-word h u.names c.start) (has_copy t lo) (has_copy u lo)))
      (λ k. let z = level_home h.range.phases a k in
      rw (
        le-leb x.level 4 k,
        same_test v w (m v) (m w) (λ e. ap m e)
            (one_half s.current t.ok u.ok (t.names z) (u.names z)),
      )))

  pub same_alike : (n a b q : ℕ) → Alike K q m s (calls.same s n a b) (free_same f n a b)
  unfolding calls.same free_same
  same_alike n a b q = both_session h n _ _ (λ z. both_check (is_register a && is_register b) 8 tt
      (λ e. both_passes _ _ (same-passed (held_fits h n a z) (held_fits h n b z) z.allowed) _ (alike_done h refl refl refl (λ c z. z))))
