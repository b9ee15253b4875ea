-- A global set to a word that fits keeps the invariant.
use Prim.Native.Nat.{ℕ, ◌≤◌, ◌<◌}
use mathlib.Core.Path.{◌≡◌, ◌∙◌}
use mathlib.Core.Logic.{◌≢◌}
use mathlib.Core.List.{List}
use native.Mathlib.Omega.{arith}
use lib.ListN.{get_or, set, length-set}
use lib.Seq.{set-get_or}
use Rattle.rules.specs.Memory.{null}
use Rattle.rules.specs.Control.{Store, with_globals, last_global}
use Rattle.rules.specs.Cycle.{stage}
use Rattle.rules.specs.Phases.{other_half}
use Rattle.rules.specs.Free.{Free}
use Rattle.rules.proofs.memory.Lists.{set_each}
use Rattle.rules.proofs.invariant.Words.{Ok, Names, Clean}
use Rattle.rules.proofs.invariant.Groups.{Roots, RootHalves}
use Rattle.rules.proofs.invariant.Marking.{Cleaned, Kept}
use Rattle.rules.proofs.invariant.Sim.{Sim}
use Rattle.rules.proofs.invariant.Range.{range_globals}
use Rattle.rules.proofs.sessions.Fits.{GlobalFits}

abbrev pub with_free_globals : Free → List ℕ → Free
with_free_globals f gs = record { sessions = f.sessions; globals = gs; records = f.records }

-- ---- the groups with global g changed

module _ {K : ℕ → Type 0} {m : ℕ → ℕ} {s : Store} {f : Free} (h : Sim K m s f) (g : ℕ) (l : g ≤ last_global) {v q : ℕ} (t : GlobalFits K m s g v q) where
  each_global : (P : ℕ → ℕ → ℕ → Type 0) → P g v q
      → ((j : ℕ) → P j (get_or s.globals j null) (get_or f.globals j null))
      → (j : ℕ) → P j (get_or (set s.globals g v) j null) (get_or (set f.globals g q) j null)
  each_global = set_each s.globals f.globals g (omega (arith, h.roots.globals)) (omega (arith, h.roots.free-globals)) v null q null

  global_roots : Roots s.memory m s.sessions f.sessions (set s.globals g v) (set f.globals g q)
  global_roots = let r = h.roots in record {
    sessions = r.sessions;
    free-sessions = r.free-sessions;
    registers = r.registers;
    free-registers = r.free-registers;
    globals = length-set s.globals g v ∙ r.globals;
    free-globals = length-set f.globals g q ∙ r.free-globals;
    attached = r.attached;
    idle = r.idle;
    reg_ok = r.reg_ok;
    reg_is = r.reg_is;
    global_ok = each_global (λ j a b. Ok s.memory a) t.ok r.global_ok;
    global_is = each_global (λ j a b. b ≡ m a) t.is r.global_is;
  }

  global_halves : RootHalves s.current (stage s.phase) s.walk.place s.sessions (set s.globals g v)
  global_halves = let r = h.root_halves in record {
    regs = r.regs;
    globals = λ a. each_global (λ j u w. Names s.current u) (t.names a) (r.globals a);
    flipping = λ e. each_global (λ j u w. j < s.walk.place → Names (other_half s.current) u) (t.flipping e) (r.flipping e);
    flipped = λ lo hi. each_global (λ j u w. Names (other_half s.current) u) (t.flipped lo hi) (r.flipped lo hi);
    marked = r.marked;
  }

  global_cleaned : Cleaned s.memory s.current (stage s.phase) s.walk.place s.walk.field s.list.words s.list.head s.list.tail s.sessions (set s.globals g v)
  global_cleaned = let r = h.cleaned in record {
    fields = r.fields;
    scanning = r.scanning;
    scanned-within = r.scanned-within;
    globals-below = λ e. each_global (λ j u w. j < s.walk.place → Clean s.memory s.current u) (t.below e) (r.globals-below e);
    globals = λ a b. each_global (λ j u w. Clean s.memory s.current u) (t.clean a b) (r.globals a b);
    scanned = r.scanned;
    registers = r.registers;
  }

  global_kept : Kept K s.memory m s.current (stage s.phase) f.records f.sessions (set f.globals g q)
  global_kept = let r = h.kept in record {
    to_come = r.to_come;
    registers = r.registers;
    globals = each_global (λ j u w. w ≢ null → K w) t.kept r.globals;
    fields = r.fields;
    marked = r.marked;
    left-at_reclaim = r.left-at_reclaim;
    left-at_rest = r.left-at_rest;
  }

module _ {K : ℕ → Type 0} {m : ℕ → ℕ} {s : Store} {f : Free} (h : Sim K m s f) where
  -- one global set
  pub global_sim : (g : ℕ) → g ≤ last_global → {v q : ℕ} → GlobalFits K m s g v q
      → Sim K m (with_globals s (set s.globals g v)) (with_free_globals f (set f.globals g q))
  global_sim g l {v} {q} t = record {
    range = range_globals h.range (set s.globals g v);
    filled = h.filled;
    births = h.births;
    identity = h.identity;
    values = h.values;
    roots = global_roots h g l t;
    levels = h.levels;
    root_halves = global_halves h g l t;
    field_halves = h.field_halves;
    pairs = h.pairs;
    agreement = h.agreement;
    colours = h.colours;
    grey-list = h.grey-list;
    cleaned = global_cleaned h g l t;
    walking = h.walking;
    kept = global_kept h g l t;
  }

  -- the collector-free global stays
  pub global_sim_same : (g : ℕ) → g ≤ last_global → {v : ℕ} → GlobalFits K m s g v (get_or f.globals g null)
      → Sim K m (with_globals s (set s.globals g v)) f
  global_sim_same g l t = rw (set-get_or f.globals g null) at (global_sim g l t)
