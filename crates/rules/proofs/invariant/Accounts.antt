-- Shares and charges: no group of the invariant reads them, so it holds of sessions that differ in nothing else.
use Prim.Native.Nat.{ℕ}
use mathlib.Core.Path.{◌≡◌, refl, ap}
use mathlib.Core.List.{List}
use lib.ListN.{get_or, length, length-set, length-map, get_or-map}
use Rattle.rules.specs.Control.{Store, with_sessions}
use Rattle.rules.specs.Phases.{absent, session_at, with_session, with_share, with_charge, uncharged, without_charges}
use Rattle.rules.specs.Calls.{charged}
use Rattle.rules.specs.Free.{Free}
use Rattle.rules.specs.declared.Session.{Session}
use Rattle.rules.proofs.memory.Lists.{set-kept}
use Rattle.rules.proofs.invariant.Words.{reg}
use Rattle.rules.proofs.invariant.Unmarked.{roots_sessions}
use Rattle.rules.proofs.invariant.Range.{range_sessions}
use Rattle.rules.proofs.invariant.Sim.{Sim}

-- a session without its account
abbrev bare : Session → Session
bare x = with_charge (with_share x 0) 0

-- the sessions ys differ from xs in accounts alone
record SameBut (xs ys : List Session) : Type 0 where
  count : length ys ≡ length xs
  each : (n : ℕ) → bare (get_or ys n absent) ≡ bare (get_or xs n absent)

module _ {K : ℕ → Type 0} {m : ℕ → ℕ} {s : Store} {f : Free} (h : Sim K m s f) {ys : List Session} (e : SameBut s.sessions ys) where
  registers : (n : ℕ) → (get_or ys n absent).registers ≡ (get_or s.sessions n absent).registers
  registers n = ap (λ x. x.registers) (e.each n)

  level : (n : ℕ) → (get_or ys n absent).level ≡ (get_or s.sessions n absent).level
  level n = ap (λ x. x.level) (e.each n)

  attached : (n : ℕ) → (get_or ys n absent).attached ≡ (get_or s.sessions n absent).attached
  attached n = ap (λ x. x.attached) (e.each n)

  scanned : (n : ℕ) → (get_or ys n absent).scanned ≡ (get_or s.sessions n absent).scanned
  scanned n = ap (λ x. x.scanned) (e.each n)

  register : (n k : ℕ) → reg ys n k ≡ reg s.sessions n k
  register n k = rw (registers n)

  accounts_sim : Sim K m (with_sessions s ys) f
  unfolding session_at
  accounts_sim = record {
    range = range_sessions h.range ys (λ n. rw (level n) (h.range.levels n));
    filled = h.filled;
    births = h.births;
    identity = h.identity;
    values = h.values;
    roots = roots_sessions e.count registers attached h.roots;
    levels = record { allowed = λ n a. rw (level n) (h.levels.allowed n (rw (attached n) at a)) };
    root_halves = let r = h.root_halves in record {
      regs = λ a n k. rw (register n k) (r.regs a n k);
      globals = r.globals;
      flipping = r.flipping;
      flipped = r.flipped;
      marked = λ a n k t b. rw (register n k) (r.marked a n k (rw (attached n) at t) (rw (scanned n) at b));
    };
    field_halves = h.field_halves;
    pairs = h.pairs;
    agreement = h.agreement;
    colours = h.colours;
    grey-list = h.grey-list;
    cleaned = let r = h.cleaned in record {
      fields = r.fields;
      scanning = r.scanning;
      scanned-within = r.scanned-within;
      globals-below = r.globals-below;
      globals = r.globals;
      scanned = λ a n k t b. rw (register n k) (r.scanned a n k (rw (attached n) at t) (rw (scanned n) at b));
      registers = λ a b n k. rw (register n k) (r.registers a b n k);
    };
    walking = h.walking;
    kept = h.kept;
  }

-- ---- one charge, and all of them

module _ {K : ℕ → Type 0} {m : ℕ → ℕ} {s : Store} {f : Free} (h : Sim K m s f) where
  pub charged_sim : (n w : ℕ) → Sim K m (charged s n w) f
  unfolding charged with_session session_at
  charged_sim n w = accounts_sim h (record { count = length-set s.sessions n _; each = set-kept absent (λ j x y. bare y ≡ bare x) (λ j x. refl) s.sessions n _ refl })

  pub uncharged_sim : Sim K m (without_charges s) f
  unfolding without_charges uncharged
  uncharged_sim = accounts_sim h (record {
    count = length-map s.sessions (λ x. with_charge x 0);
    each = λ n. ap bare (get_or-map (λ x. with_charge x 0) s.sessions n absent);
  })
