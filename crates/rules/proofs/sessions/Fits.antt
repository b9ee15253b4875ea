-- Words that a register or a global may hold, and sessions that may stand: what keeps the invariant when one is set.
use Prim.Native.Nat.{ℕ, ◌≤◌, ◌<◌}
use mathlib.Core.Path.{◌≡◌, refl, sym, ◌∙◌}
use mathlib.Core.Logic.{◌≢◌}
use mathlib.Core.Bool.{true, false}
use native.Mathlib.Omega.{arith}
use lib.ListN.{get_or, length}
use Rattle.rules.specs.Memory.{null}
use Rattle.rules.specs.Control.{Store, register_count, last_session, last_level}
use Rattle.rules.specs.Cycle.{stage}
use Rattle.rules.specs.Phases.{other_half, session_at}
use Rattle.rules.specs.Free.{Free, FreeSession, free_session}
use Rattle.rules.specs.declared.Session.{Session}
use Rattle.rules.proofs.memory.Cases.{bool_or}
use Rattle.rules.proofs.invariant.Stages.{st_root_mark, st_heap_mark, st_root_flip, st_stack_flip}
use Rattle.rules.proofs.invariant.Words.{Ok, ok_null, Names, Clean}
use Rattle.rules.proofs.invariant.Groups.{NoFlip}
use Rattle.rules.proofs.invariant.Protected.{scan_of, Covered, clean_covered}
use Rattle.rules.proofs.invariant.Sim.{Sim}
use Rattle.rules.proofs.invariant.Spans.{Allowed}

-- a word v of the store, beside q of the collector-free store, that a register of session x may hold
pub record WordFits (K : ℕ → Type 0) (m : ℕ → ℕ) (s : Store) (x : Session) (v q : ℕ) : Type 0 where
  pub ok : Ok s.memory v
  pub is : q ≡ m v
  pub names : NoFlip (stage s.phase) → Names s.current v
  pub marked : stage s.phase ≡ st_stack_flip → x.scanned ≡ true → Names (other_half s.current) v
  pub scanned : stage s.phase ≡ st_heap_mark → x.scanned ≡ true → Covered s.memory s.current (scan_of s) v
  pub clean : st_heap_mark < stage s.phase → stage s.phase ≤ st_stack_flip → Clean s.memory s.current v
  pub kept : q ≢ null → K q

-- it goes by the mark of the session alone
pub refit : {K : ℕ → Type 0} {m : ℕ → ℕ} {s : Store} {x : Session} {v q : ℕ} (z : Session) → z.scanned ≡ x.scanned → WordFits K m s x v q → WordFits K m s z v q
refit z e t = record {
  ok = t.ok;
  is = t.is;
  names = t.names;
  marked = λ p b. t.marked p (sym e ∙ b);
  scanned = λ p b. t.scanned p (sym e ∙ b);
  clean = t.clean;
  kept = t.kept;
}

-- a session x of the store beside y of the collector-free store
pub record SessionFits (K : ℕ → Type 0) (m : ℕ → ℕ) (s : Store) (x : Session) (y : FreeSession) : Type 0 where
  pub registers : length x.registers ≡ register_count
  pub free-registers : length y.registers ≡ register_count
  pub attached : y.attached ≡ x.attached
  pub low : x.level ≤ last_level
  pub allowed : x.attached ≡ true → Allowed s.phase x.level
  pub idle : x.attached ≡ false → (k : ℕ) → get_or x.registers k null ≡ null
  pub words : x.attached ≡ true → (k : ℕ) → WordFits K m s x (get_or x.registers k null) (get_or y.registers k null)
  pub free_idle : x.attached ≡ false → (k : ℕ) → get_or y.registers k null ≡ null

-- a word that global number g may hold
pub record GlobalFits (K : ℕ → Type 0) (m : ℕ → ℕ) (s : Store) (g v q : ℕ) : Type 0 where
  pub ok : Ok s.memory v
  pub is : q ≡ m v
  pub names : NoFlip (stage s.phase) → Names s.current v
  pub flipping : stage s.phase ≡ st_root_flip → g < s.walk.place → Names (other_half s.current) v
  pub flipped : st_root_flip < stage s.phase → stage s.phase ≤ st_stack_flip → Names (other_half s.current) v
  pub below : stage s.phase ≡ st_root_mark → g < s.walk.place → Clean s.memory s.current v
  pub clean : st_root_mark < stage s.phase → stage s.phase ≤ st_stack_flip → Clean s.memory s.current v
  pub kept : q ≢ null → K q

-- ---- a session that fits, attached or not

module _ {K : ℕ → Type 0} {m : ℕ → ℕ} {s : Store} {x : Session} {y : FreeSession} (t : SessionFits K m s x y) (k : ℕ) where
  -- what holds of null and of a word that fits
  each_word : (P : ℕ → ℕ → Type 0) → P null null
      → (WordFits K m s x (get_or x.registers k null) (get_or y.registers k null) → P (get_or x.registers k null) (get_or y.registers k null))
      → P (get_or x.registers k null) (get_or y.registers k null)
  each_word P z w = bool_or x.attached (λ a. w (t.words a k)) (λ a. rw (t.idle a k, t.free_idle a k) z)

  pub fits_ok : Ok s.memory (get_or x.registers k null)
  fits_ok = each_word (λ v q. Ok s.memory v) (ok_null refl) (λ w. w.ok)

  pub fits_is : m null ≡ 0 → get_or y.registers k null ≡ m (get_or x.registers k null)
  fits_is z = each_word (λ v q. q ≡ m v) (sym z) (λ w. w.is)

  pub fits_names : NoFlip (stage s.phase) → Names s.current (get_or x.registers k null)
  fits_names a = each_word (λ v q. Names s.current v) (λ n. absurd (n refl)) (λ w. w.names a)

  pub fits_clean : st_heap_mark < stage s.phase → stage s.phase ≤ st_stack_flip → Clean s.memory s.current (get_or x.registers k null)
  fits_clean a b = each_word (λ v q. Clean s.memory s.current v) (λ n. absurd (n refl)) (λ w. w.clean a b)

  pub fits_kept : get_or y.registers k null ≢ null → K (get_or y.registers k null)
  fits_kept = each_word (λ v q. q ≢ null → K q) (λ n. absurd (n refl)) (λ w. w.kept)

-- ---- what the invariant gives of a register, of a global, and of a session

module _ {K : ℕ → Type 0} {m : ℕ → ℕ} {s : Store} {f : Free} (h : Sim K m s f) where
  pub register_fits : (n k : ℕ) → (session_at s n).attached ≡ true
      → WordFits K m s (session_at s n) (get_or (session_at s n).registers k null) (get_or (free_session f n).registers k null)
  unfolding session_at free_session
  register_fits n k a = record {
    ok = h.roots.reg_ok n k;
    is = h.roots.reg_is n k;
    names = λ u. h.root_halves.regs u n k;
    marked = λ e. h.root_halves.marked e n k a;
    scanned = λ e. h.cleaned.scanned e n k a;
    clean = λ u v. h.cleaned.registers u v n k;
    kept = h.kept.registers n k;
  }

  pub global_fits : (n g : ℕ) → WordFits K m s (session_at s n) (get_or s.globals g null) (get_or f.globals g null)
  global_fits n g = record {
    ok = h.roots.global_ok g;
    is = h.roots.global_is g;
    names = λ u. h.root_halves.globals u g;
    marked = λ e z. h.root_halves.flipped (omega arith) (omega arith) g;
    scanned = λ e z. clean_covered (h.cleaned.globals (omega arith) (omega arith) g);
    clean = λ u v. h.cleaned.globals (omega arith) v g;
    kept = h.kept.globals g;
  }

  pub null_fits : (x : Session) → WordFits K m s x null null
  null_fits x = record {
    ok = ok_null refl;
    is = sym h.identity.null-place;
    names = λ u n. absurd (n refl);
    marked = λ u v n. absurd (n refl);
    scanned = λ u v n. absurd (n refl);
    clean = λ u v n. absurd (n refl);
    kept = λ n. absurd (n refl);
  }

  free-null : (n k : ℕ) → (session_at s n).attached ≡ false → get_or (free_session f n).registers k null ≡ null
  unfolding session_at free_session
  free-null n k a = h.roots.reg_is n k ∙ rw (h.roots.idle n k a) h.identity.null-place

  pub session_fits : (n : ℕ) → n ≤ last_session → SessionFits K m s (session_at s n) (free_session f n)
  unfolding session_at free_session
  session_fits n l = record {
    registers = h.roots.registers n (omega arith);
    free-registers = h.roots.free-registers n (omega arith);
    attached = h.roots.attached n;
    low = h.range.levels n;
    allowed = h.levels.allowed n;
    idle = λ a k. h.roots.idle n k a;
    words = λ a k. register_fits n k a;
    free_idle = λ a k. free-null n k a;
  }
