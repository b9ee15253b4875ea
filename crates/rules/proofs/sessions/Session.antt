-- A session set to one that fits keeps the invariant, and so does one register set to a word that fits.
use Prim.Native.Nat.{ℕ, ◌≤◌, ◌<◌}
use mathlib.Core.Path.{◌≡◌, refl, sym, ◌∙◌}
use mathlib.Core.Logic.{◌≢◌}
use mathlib.Core.Bool.{true, false, true≢false}
use native.Mathlib.Omega.{arith}
use lib.ListN.{get_or, set, length, length-set}
use lib.Seq.{set-get_or}
use Rattle.rules.specs.Memory.{null}
use Rattle.rules.specs.Control.{Store, session_count, register_count, last_session, last_register, last_level}
use Rattle.rules.specs.Cycle.{stage}
use Rattle.rules.specs.Phases.{other_half, session_at, with_session, with_registers, absent}
use Rattle.rules.specs.Calls.{with_register}
use Rattle.rules.specs.Free.{Free, FreeSession, free_session, with_free_session, with_free_registers, with_free_register, free_absent}
use Rattle.rules.specs.declared.Session.{Session}
use Rattle.rules.proofs.Ranges.{InRange}
use Rattle.rules.proofs.memory.Lists.{set_each}
use Rattle.rules.proofs.invariant.Words.{Ok, Names, Clean}
use Rattle.rules.proofs.invariant.Groups.{Roots, Levels, RootHalves}
use Rattle.rules.proofs.invariant.Protected.{scan_of, Covered}
use Rattle.rules.proofs.invariant.Marking.{Cleaned, Kept}
use Rattle.rules.proofs.invariant.Sim.{Sim}
use Rattle.rules.proofs.invariant.Spans.{Allowed}
use Rattle.rules.proofs.invariant.Range.{range_sessions}
use Rattle.rules.proofs.sessions.Fits.{fits_ok, fits_is, fits_names, fits_clean, fits_kept}
-- what fits, and globals, for those who change either
pub use Rattle.rules.proofs.sessions.Fits.{WordFits, refit, SessionFits, GlobalFits, register_fits, global_fits, null_fits, session_fits}
pub use Rattle.rules.proofs.sessions.Global.{with_free_globals, global_sim, global_sim_same}

-- ---- the groups with session n changed

module _ {K : ℕ → Type 0} {m : ℕ → ℕ} {s : Store} {f : Free} (h : Sim K m s f) (n : ℕ) (l : n ≤ last_session) {x : Session} {y : FreeSession} (t : SessionFits K m s x y) where
  each : (P : ℕ → Session → FreeSession → Type 0) → P n x y
      → ((j : ℕ) → P j (get_or s.sessions j absent) (get_or f.sessions j free_absent))
      → (j : ℕ) → P j (get_or (set s.sessions n x) j absent) (get_or (set f.sessions n y) j free_absent)
  each = set_each s.sessions f.sessions n (omega (arith, h.roots.sessions)) (omega (arith, h.roots.free-sessions)) x absent y free_absent

  new_range : InRange (with_session s n x)
  unfolding with_session session_at
  new_range = range_sessions h.range (set s.sessions n x) (each (λ j a b. a.level ≤ last_level) t.low h.range.levels)

  new_roots : Roots s.memory m (set s.sessions n x) (set f.sessions n y) s.globals f.globals
  new_roots = let r = h.roots in record {
    sessions = length-set s.sessions n x ∙ r.sessions;
    free-sessions = length-set f.sessions n y ∙ r.free-sessions;
    registers = each (λ j a b. j < session_count → length a.registers ≡ register_count) (λ z. t.registers) r.registers;
    free-registers = each (λ j a b. j < session_count → length b.registers ≡ register_count) (λ z. t.free-registers) r.free-registers;
    globals = r.globals;
    free-globals = r.free-globals;
    attached = each (λ j a b. b.attached ≡ a.attached) t.attached r.attached;
    idle = λ j k. each (λ j a b. a.attached ≡ false → get_or a.registers k null ≡ null) (λ e. t.idle e k) (λ i. r.idle i k) j;
    reg_ok = λ j k. each (λ j a b. Ok s.memory (get_or a.registers k null)) (fits_ok t k) (λ i. r.reg_ok i k) j;
    reg_is = λ j k. each (λ j a b. get_or b.registers k null ≡ m (get_or a.registers k null)) (fits_is t k h.identity.null-place) (λ i. r.reg_is i k) j;
    global_ok = r.global_ok;
    global_is = r.global_is;
  }

  new_levels : Levels s.phase (set s.sessions n x)
  new_levels = record {
    allowed = each (λ j a b. a.attached ≡ true → Allowed s.phase a.level) t.allowed h.levels.allowed;
  }

  new_halves : RootHalves s.current (stage s.phase) s.walk.place (set s.sessions n x) s.globals
  new_halves = let r = h.root_halves in record {
    regs = λ a j k. each (λ j u w. Names s.current (get_or u.registers k null)) (fits_names t k a) (λ i. r.regs a i k) j;
    globals = r.globals;
    flipping = r.flipping;
    flipped = r.flipped;
    marked = λ e j k. each (λ j u w. u.attached ≡ true → u.scanned ≡ true → Names (other_half s.current) (get_or u.registers k null))
        (λ a b. (t.words a k).marked e b) (λ i. r.marked e i k) j;
  }

  new_cleaned : Cleaned s.memory s.current (stage s.phase) s.walk.place s.walk.field s.list.words s.list.head s.list.tail (set s.sessions n x) s.globals
  new_cleaned = let r = h.cleaned in record {
    fields = r.fields;
    scanning = r.scanning;
    scanned-within = r.scanned-within;
    globals-below = r.globals-below;
    globals = r.globals;
    scanned = λ e j k. each (λ j u w. u.attached ≡ true → u.scanned ≡ true → Covered s.memory s.current (scan_of s) (get_or u.registers k null))
        (λ a b. (t.words a k).scanned e b) (λ i. r.scanned e i k) j;
    registers = λ a b j k. each (λ j u w. Clean s.memory s.current (get_or u.registers k null)) (fits_clean t k a b) (λ i. r.registers a b i k) j;
  }

  new_kept : Kept K s.memory m s.current (stage s.phase) f.records (set f.sessions n y) f.globals
  new_kept = let r = h.kept in record {
    to_come = r.to_come;
    registers = λ j k. each (λ j u w. get_or w.registers k null ≢ null → K (get_or w.registers k null)) (fits_kept t k) (λ i. r.registers i k) j;
    globals = r.globals;
    fields = r.fields;
    marked = r.marked;
    left-at_reclaim = r.left-at_reclaim;
    left-at_rest = r.left-at_rest;
  }

module _ {K : ℕ → Type 0} {m : ℕ → ℕ} {s : Store} {f : Free} (h : Sim K m s f) where
  pub session_sim : (n : ℕ) → n ≤ last_session → {x : Session} {y : FreeSession} → SessionFits K m s x y
      → Sim K m (with_session s n x) (with_free_session f n y)
  unfolding with_session
  session_sim n l {x} {y} t = record {
    range = new_range h n l t;
    filled = h.filled;
    births = h.births;
    identity = h.identity;
    values = h.values;
    roots = new_roots h n l t;
    levels = new_levels h n l t;
    root_halves = new_halves h n l t;
    field_halves = h.field_halves;
    pairs = h.pairs;
    agreement = h.agreement;
    colours = h.colours;
    grey-list = h.grey-list;
    cleaned = new_cleaned h n l t;
    walking = h.walking;
    kept = new_kept h n l t;
  }

  -- the collector-free session stays
  pub session_sim_same : (n : ℕ) → n ≤ last_session → {x : Session} → SessionFits K m s x (free_session f n) → Sim K m (with_session s n x) f
  unfolding free_session
  session_sim_same n l t = rw (set-get_or f.sessions n free_absent) at (session_sim n l t)

  -- one register of an attached session set
  pub register_sim : (n k : ℕ) → n ≤ last_session → k ≤ last_register → (session_at s n).attached ≡ true → {v q : ℕ} → WordFits K m s (session_at s n) v q
      → Sim K m (with_register s n k v) (with_free_register f n k q)
  unfolding with_register with_free_register
  register_sim n k l j a {v} {q} t =
      let z = session_fits h n l in
      let x = with_registers (session_at s n) (set (session_at s n).registers k v) in
      session_sim n l {x = x} {y = with_free_registers (free_session f n) (set (free_session f n).registers k q)} (record {
        registers = length-set (session_at s n).registers k v ∙ z.registers;
        free-registers = length-set (free_session f n).registers k q ∙ z.free-registers;
        attached = z.attached;
        low = z.low;
        allowed = z.allowed;
        idle = λ e. absurd (true≢false (sym a ∙ e));
        words = λ e. set_each (session_at s n).registers (free_session f n).registers k (omega (arith, z.registers)) (omega (arith, z.free-registers)) v null q null
            (λ i. WordFits K m s x) (refit x refl t) (λ i. refit x refl (register_fits h n i a));
        free_idle = λ e. absurd (true≢false (sym a ∙ e));
      })
