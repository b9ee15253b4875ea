-- Levels 4 to 6 after Allocate, up to StackFlip: the word u that the current half's copy of a record gets, and that its replica gets u forwarded.
use Prim.Native.Nat.{ℕ, ◌≤◌, ◌<◌}
use mathlib.Core.Path.{◌≡◌, sym, ap, ◌∙◌}
use mathlib.Core.Logic.{◌≢◌, ◌⊎◌, inl, inr}
use native.Mathlib.Omega.{arith}
use Rattle.rules.specs.Refusals.{passed}
use Rattle.rules.specs.Memory.{half_of, replica}
use Rattle.rules.specs.Control.{Store, last_level}
use Rattle.rules.specs.Cycle.{stage}
use Rattle.rules.specs.Phases.{other_half, fromspace}
use Rattle.rules.specs.Barriers.{heap_of, to, own_word, replica_word}
use Rattle.rules.specs.Free.{Free}
use Rattle.rules.specs.declared.Session.{Session}
use Rattle.rules.proofs.memory.Cases.{lt_or, either}
use Rattle.rules.proofs.memory.Encoding.{other_other}
use Rattle.rules.proofs.memory.Records.{Start, start_nonnull}
use Rattle.rules.proofs.invariant.Stages.{st_allocate, st_pre_flip2, st_stack_flip, st_reclaim}
use Rattle.rules.proofs.invariant.Words.{In, Ok, ok_null, ok_start, Names, fwd}
use Rattle.rules.proofs.invariant.Groups.{Pair}
use Rattle.rules.proofs.invariant.Sim.{Sim}
use Rattle.rules.proofs.invariant.Laws.{cur_two, other_not, in_half_lem, in_or, in_nonnull, fwd_null, fwd_there, fwd_copy, copy-replica, fwd_ok, fwd_place, fwd_names, from-current, from_other, from_two}
use Rattle.rules.proofs.invariant.Following.{Followable, follow_away, follow-word}
use Rattle.rules.proofs.invariant.Originals.{original, original_in, original_paired}
use Rattle.rules.proofs.invariant.Spans.{Allowed, level_from}
use Rattle.rules.proofs.sessions.Session.{WordFits}
use Rattle.rules.proofs.fields.Reference.{Fits}
use Rattle.rules.proofs.fields.Barrier.{own_plain, own_6, own-from, own-to, copy-forward, copy-from, copy-to, copy-to_other}

-- the words of a store of q for the place p: first to the record worked on, then to its replica
pub record FromWords (K : ℕ → Type 0) (m : ℕ → ℕ) (s : Store) (l v q p : ℕ) : Type 0 where
  pub word : ℕ
  pub fits : Fits K m s word p
  pub own : own_word (heap_of s) l v q ≡ passed word
  pub copy : replica_word (heap_of s) l v q ≡ passed (fwd s.memory (other_half s.current) word)

pub record ToWords (K : ℕ → Type 0) (m : ℕ → ℕ) (s : Store) (l v q p : ℕ) : Type 0 where
  pub word : ℕ
  pub fits : Fits K m s word p
  pub own : own_word (heap_of s) l v q ≡ passed (fwd s.memory (other_half s.current) word)
  pub copy : replica_word (heap_of s) l v q ≡ passed word

module _ {K : ℕ → Type 0} {m : ℕ → ℕ} {s : Store} {f : Free} {x : Session} {q p : ℕ} (h : Sim K m s f) (t : WordFits K m s x q p)
    (lo : st_allocate < stage s.phase) (hi : stage s.phase ≤ st_stack_flip) where
  abbrev away : ℕ
  away = other_half s.current

  held_follow : Start s.memory q → half_of q ≢ to (heap_of s) → Followable s.memory q
  held_follow o d = follow-word h t.names o

  -- ---- what may be written

  pub own_fits : Fits K m s q p
  own_fits = record { is = t.is; held = t.kept; ok = t.ok; side = t.names; clean = λ a b. t.clean (omega arith) b }

  abbrev forwarded : ℕ
  forwarded = fwd s.memory away q

  pub forwarded_names : Names away forwarded
  forwarded_names = fwd_names h lo hi t.ok (t.clean (omega arith) hi)

  -- from PreFlip2 on the forwarded word
  pub forwarded_fits : st_pre_flip2 ≤ stage s.phase → Fits K m s forwarded p
  forwarded_fits b = record {
    is = t.is ∙ sym (fwd_place h t.ok);
    held = t.kept;
    ok = fwd_ok h t.ok;
    side = λ y. absurd (omega (arith, y b));
    clean = λ c d n e. absurd (other_not h (sym (forwarded_names n) ∙ e));
  }

  -- it is its own forwarded word
  forwarded_again : fwd s.memory away forwarded ≡ forwarded
  forwarded_again = again forwarded (fwd_ok h t.ok) forwarded_names
    where
      again : (u : ℕ) → Ok s.memory u → Names away u → fwd s.memory away u ≡ u
      again u (ok_null e) n = rw (e, fwd_null)
      again u (ok_start o) n = fwd_there (in_half_lem (ok_start o) (start_nonnull o) n)

  -- the other copy of a record of the other half
  module _ (o : In s.memory away q) where
    back : Pair s.memory m q (replica s.memory q)
    back = original h hi o

    back-here : In s.memory s.current (replica s.memory q)
    back-here = original_in h hi o

    back_fits : Fits K m s (replica s.memory q) p
    back_fits = record {
      is = t.is ∙ sym back.same;
      held = t.kept;
      ok = ok_start back.start;
      side = λ y n. back-here.side;
      clean = λ c d n e. h.colours.paired_marked hi (replica s.memory q) back-here (original_paired h hi o);
    }

    back-forward : fwd s.memory away (replica s.memory q) ≡ q
    back-forward =
        fwd_copy back.start (λ e. other_not h (sym e ∙ back-here.side))
        ∙ copy-replica s.memory (replica s.memory q) (original_paired h hi o) ∙ back.back

  -- ---- which words are written

  from_is : fromspace s ≡ s.current
  from_is = from-current h (λ e. omega arith)

  to_is : to (heap_of s) ≡ away
  to_is = ap other_half from_is

  -- the record worked on in the current half
  pub from-words : {l v : ℕ} → Allowed s.phase l → 4 ≤ l → l ≤ last_level → In s.memory s.current v → FromWords K m s l v q p
  from-words {l} {v} a b c o =
      lt_or l 5
      (λ g. record {
        word = q;
        fits = own_fits;
        own = own_plain (heap_of s) (from_two h) l v t.ok held_follow (λ e. omega arith) (λ e. omega arith);
        copy = copy-forward (heap_of s) (from_two h) l v t.ok held_follow (λ e. omega arith) ∙ rw to_is;
      })
      (λ g. lt_or l 6
      (λ g6. let e : l ≡ 5 = omega arith in record {
        word = q;
        fits = own_fits;
        own = own-from (heap_of s) (from_two h) l v t.ok held_follow o.start (λ z. other_not h (sym (z ∙ to_is) ∙ o.side)) e;
        copy = copy-from (heap_of s) (from_two h) l v t.ok held_follow (o.side ∙ sym from_is) e ∙ rw to_is;
      })
      (λ g6. let e : l ≡ 6 = omega arith in record {
        word = forwarded;
        fits = forwarded_fits (level_from 6 (omega arith) h.range.phases a (omega arith));
        own = own_6 (heap_of s) (from_two h) l v t.ok held_follow e ∙ rw to_is;
        copy = copy-forward (heap_of s) (from_two h) l v t.ok held_follow (λ z. omega arith) ∙ rw (to_is, forwarded_again);
      }))

  -- in the other one, from PreFlip2 on
  pub to-words : {l v : ℕ} → st_pre_flip2 ≤ stage s.phase → 5 ≤ l → l ≤ last_level → In s.memory away v → ToWords K m s l v q p
  to-words {l} {v} n b c o =
      lt_or l 6
      (λ g. let e : l ≡ 5 = omega arith in
      let side : half_of v ≡ to (heap_of s) = o.side ∙ sym to_is in
      let own = own-to (heap_of s) (from_two h) l v t.ok held_follow o.start side e ∙ rw to_is in
      either (there_or t.ok)
      (λ r. record {
        word = replica s.memory q;
        fits = back_fits r;
        own = own ∙ ap passed (fwd_there r ∙ sym (back-forward r));
        copy = copy-to (heap_of s) (from_two h) l v t.ok held_follow side e (rw to_is r) (follow_away h hi r) ∙ ap passed (copy-replica s.memory q (h.pairs.home hi q r).0);
      })
      (λ r. record {
        word = q;
        fits = own_fits;
        own = own;
        copy = copy-to_other (heap_of s) (from_two h) l v t.ok held_follow side e (λ z. r (rw to_is at z));
      }))
      (λ g. let e : l ≡ 6 = omega arith in record {
        word = forwarded;
        fits = forwarded_fits n;
        own = own_6 (heap_of s) (from_two h) l v t.ok held_follow e ∙ rw (to_is, forwarded_again);
        copy = copy-forward (heap_of s) (from_two h) l v t.ok held_follow (λ z. omega arith) ∙ rw to_is;
      })
    where
      there_or : Ok s.memory q → In s.memory away q ⊎ (In s.memory away q → ⊥)
      there_or (ok_null z) = inr (λ r. in_nonnull r z)
      there_or (ok_start z) = in_or s.current (cur_two h) z
          (λ r. inr (λ y. other_not h (sym y.side ∙ r.side)))
          (λ r. inl r)

-- ---- Reclaim, level 6: q names tospace, the current half, already
module _ {K : ℕ → Type 0} {m : ℕ → ℕ} {s : Store} {f : Free} {x : Session} {q p : ℕ} (h : Sim K m s f) (t : WordFits K m s x q p) (e : stage s.phase ≡ st_reclaim) where
  there : Names s.current q
  there = t.names (omega arith)

  pub reclaim_fits : Fits K m s q p
  reclaim_fits = record { is = t.is; held = t.kept; ok = t.ok; side = λ y. there; clean = λ lo hi. absurd (omega arith) }

  pub reclaim-own : {l : ℕ} → l ≡ 6 → (v : ℕ) → own_word (heap_of s) l v q ≡ passed q
  reclaim-own {l} b v = own_6 (heap_of s) (from_two h) l v t.ok (λ o d. follow-word h t.names o) b
      ∙ rw (ap other_half (from_other h e), other_other s.current (cur_two h), same t.ok)
    where
      same : Ok s.memory q → fwd s.memory s.current q ≡ q
      same (ok_null z) = rw (z, fwd_null)
      same (ok_start z) = fwd_there (in_half_lem t.ok (start_nonnull z) there)
