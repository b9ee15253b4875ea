-- What stays over every call: the lengths in the control record, which are those at making; while HeapMark lasts, each scanned mark; each
-- session's share, but for attach; and its charge, which an allocation adds to, but for the step that ends Reclaim.
use Prim.Native.Nat.{ℕ, ◌≤◌}
use mathlib.Core.Path.{◌≡◌, refl, sym, ap, ◌∙◌}
use mathlib.Core.Logic.{◌≢◌}
use mathlib.Core.Bool.{Bool, true, false, cond}
use mathlib.Core.List.{List, [], ◌∷◌}
use native.Mathlib.Nat.{le_refl, le_trans}
use native.Mathlib.Omega.{arith}
use lib.ListN.{get_or-map}
use Rattle.rules.specs.Cycle.{at_rest, at_heap_mark, at_allocate, at_reclaim, next_phase}
use Rattle.rules.specs.Control.{Store, Lengths}
use Rattle.rules.specs.Phases.{absent, session_at, with_session, with_charge, unmarked, uncharged, without_charges}
use Rattle.rules.specs.Barriers.{shade, shade_all, shade_both}
use Rattle.rules.specs.Calls.{with_register, charged}
use Rattle.rules.specs.Runs.{Call, Attach, Allocate, Step}
use Rattle.rules.specs.declared.Session.{Session}
use Rattle.rules.specs.declared.Writes.{Writes}
use Rattle.rules.proofs.Shaded.{shade_either}
use Rattle.rules.proofs.memory.Lists.{set-kept}
use Rattle.rules.proofs.invariant.Unmarked.{unmarked-share, unmarked-charge}

-- the call c is no attach of session number n, and no allocation of it
abbrev pub NoAttach : Call → ℕ → Type 0
NoAttach c n = (share : ℕ) → c ≢ Attach n share

abbrev pub NoAllocation : Call → ℕ → Type 0
NoAllocation c n = (k r p : ℕ) → c ≢ Allocate n k r p

-- it isn't the step that ends Reclaim, with which t comes of s
abbrev pub NoEnd : Call → Store → Store → Type 0
NoEnd c s t = c ≡ Step → s.phase ≡ at_reclaim → t.phase ≢ at_rest

-- what stays where t comes of s by the call c; no charge falls
pub record Stays (c : Call) (s t : Store) : Type 0 where
  pub lengths : t.lengths ≡ s.lengths
  pub marks : s.phase ≡ at_heap_mark → t.phase ≡ at_heap_mark → (n : ℕ) → (session_at s n).scanned ≡ true → (session_at t n).scanned ≡ true
  pub shares : (n : ℕ) → NoAttach c n → (session_at t n).share ≡ (session_at s n).share
  pub charges : (n : ℕ) → NoAllocation c n → NoEnd c s t → (session_at t n).charge ≡ (session_at s n).charge
  pub rises : (n : ℕ) → NoEnd c s t → (session_at s n).charge ≤ (session_at t n).charge

-- what it speaks of
abbrev pub held : Store → Lengths × ℕ × List Session
held s = (s.lengths, s.phase, s.sessions)

pub shade_held : (s : Store) (v : ℕ) → held (shade s v) ≡ held s
shade_held s v = shade_either (λ t. held t ≡ held s) s v refl refl

pub shade_both_held : (s : Store) (w : Writes) → held (shade_both s w) ≡ held s
unfolding shade_both
shade_both_held s w = shade_held (shade s w.first) w.second ∙ shade_held s w.first

shade_all_held : (s : Store) (vs : List ℕ) → held (shade_all s vs) ≡ held s
shade_all_held s [] = refl
shade_all_held s (v ∷ vs) = shade_all_held (shade s v) vs ∙ shade_held s v

-- ---- one session: while Marking it keeps its mark, where P its share, where Q its charge
pub record Kept (Marking P Q : Type 0) (x y : Session) : Type 0 where
  pub mark : Marking → x.scanned ≡ true → y.scanned ≡ true
  pub share : P → y.share ≡ x.share
  pub charge : Q → y.charge ≡ x.charge
  pub rise : x.charge ≤ y.charge

-- share and charge stay anyway
pub account_kept : {Marking P Q : Type 0} (x y : Session) → (Marking → x.scanned ≡ true → y.scanned ≡ true) → y.share ≡ x.share → y.charge ≡ x.charge
    → Kept Marking P Q x y
account_kept x y a b c = record { mark = a; share = λ z. b; charge = λ z. c; rise = rw c (le_refl _) }

kept_same : {Marking P Q : Type 0} (x : Session) → Kept Marking P Q x x
kept_same x = account_kept x x (λ a m. m) refl refl

module _ {c : Call} {s : Store} where
  -- ---- nothing of it is written

  still : {t u : Store} → Stays c s t → held u ≡ held t → Stays c s u
  unfolding session_at
  still h e =
      let p = ap (λ x. x.1) e in
      let x = ap (λ x. x.2) e in
      record {
        lengths = ap (λ x. x.0) e ∙ h.lengths;
        marks = λ a b n m. rw x (h.marks a (sym p ∙ b) n m);
        shares = λ n a. rw x (h.shares n a);
        charges = λ n a b. rw x (h.charges n a (λ y q z. b y q (p ∙ z)));
        rises = λ n b. rw x (h.rises n (λ y q z. b y q (p ∙ z)));
      }

  pub unwritten : {t : Store} → held t ≡ held s → Stays c s t
  unwritten e =
      still (record { lengths = refl; marks = λ a b n m. m; shares = λ n a. refl; charges = λ n a b. refl; rises = λ n b. le_refl _ }) e

  pub shade_all_stays : (t : Store) (vs : List ℕ) → Stays c s t → Stays c s (shade_all t vs)
  shade_all_stays t vs h = still h (shade_all_held t vs)

  -- ---- one session is written

  pub session_stays : (t : Store) (n : ℕ) (x : Session) → Stays c s t → Kept (s.phase ≡ at_heap_mark) (NoAttach c n) (NoAllocation c n) (session_at t n) x
      → Stays c s (with_session t n x)
  unfolding session_at with_session
  session_stays t n x h k =
      let each = set-kept absent (λ j. Kept (s.phase ≡ at_heap_mark) (NoAttach c j) (NoAllocation c j)) (λ j y. kept_same y) t.sessions n x k in
      record {
        lengths = h.lengths;
        marks = λ a b j m. (each j).mark a (h.marks a b j m);
        shares = λ j a. (each j).share a ∙ h.shares j a;
        charges = λ j a b. (each j).charge a ∙ h.charges j a b;
        rises = λ j b. le_trans (h.rises j b) (each j).rise;
      }

  pub register_stays : (t : Store) (n k v : ℕ) → Stays c s t → Stays c s (with_register t n k v)
  unfolding with_register
  register_stays t n k v h = session_stays t n _ h (account_kept _ _ (λ a m. m) refl refl)

  -- ---- moving on leaves the phase and clears the marks; a choice

  pub moved_stays : {t : Store} → t.lengths ≡ s.lengths → t.phase ≡ next_phase s.phase → t.sessions ≡ unmarked s.sessions → Stays c s t
  unfolding next_phase session_at
  moved_stays e f g = record {
    lengths = e;
    marks = λ a b n m. absurd (let z : at_allocate ≡ at_heap_mark = sym (rw a at f) ∙ b in omega arith);
    shares = λ n a. rw g (unmarked-share s.sessions n);
    charges = λ n a b. rw g (unmarked-charge s.sessions n);
    rises = λ n b. rw (g, unmarked-charge s.sessions n) (le_refl _);
  }

  pub either_stays : (b : Bool) {t u : Store} → Stays c s t → Stays c s u → Stays c s (cond b t u)
  either_stays true h k = h
  either_stays false h k = k

-- an allocation adds to its session's charge
pub charged_stays : {s : Store} {n k r p : ℕ} (t : Store) (w : ℕ) → Stays (Allocate n k r p) s t → Stays (Allocate n k r p) s (charged t n w)
unfolding charged
charged_stays {n = n} {k} {r} {p} t w h =
    session_stays t n _ h (record { mark = λ a m. m; share = λ a. refl; charge = λ a. absurd (a k r p refl); rise = omega arith })

-- the end of Reclaim takes all charges away
pub uncharged_stays : {s : Store} (t : Store) → s.phase ≡ at_reclaim → t.phase ≡ next_phase s.phase → Stays Step s t → Stays Step s (without_charges t)
unfolding without_charges uncharged session_at next_phase
uncharged_stays {s = s} t e n h = record {
  lengths = h.lengths;
  marks = λ a b. absurd (let z : at_reclaim ≡ at_heap_mark = sym e ∙ a in omega arith);
  shares = λ n a. ap (λ x. x.share) (get_or-map (λ x. with_charge x 0) t.sessions n absent) ∙ h.shares n a;
  charges = λ j a b. absurd (b refl e (rw e at n));
  rises = λ j b. absurd (b refl e (rw e at n));
}

pub ruleset stays = (unwritten, shade_held, shade_both_held, shade_all_stays, session_stays, account_kept, register_stays, charged_stays, moved_stays, either_stays)
