-- The walk: the record at its place, the next place, and the invariant with the walk at another place and field.
use Prim.Native.Nat.{ℕ, ◌+◌, ◌≤◌, ◌<◌}
use mathlib.Core.Path.{◌≡◌}
use mathlib.Core.Logic.{◌≢◌}
use native.Mathlib.Omega.{arith}
use lib.ListN.{get_or}
use Rattle.rules.specs.Memory.{null, white, word_of, frontier, colour, replica, refs, size}
use Rattle.rules.specs.Control.{Store, with_walk, walk_limit, most_fields}
use Rattle.rules.specs.Cycle.{stage}
use Rattle.rules.specs.Phases.{other_half}
use Rattle.rules.specs.Collector.{walked}
use Rattle.rules.specs.Free.{Free}
use Rattle.rules.proofs.memory.Encoding.{half-reference}
use Rattle.rules.proofs.memory.Walk.{Walk, walk_start, walk-next, walk-within}
use Rattle.rules.proofs.invariant.Stages.{st_root_mark, st_heap_mark, st_allocate, st_root_flip}
use Rattle.rules.proofs.invariant.Words.{In, Names, Clean, field}
use Rattle.rules.proofs.invariant.Groups.{Agreement}
use Rattle.rules.proofs.invariant.Protected.{scan, scan_of, Carries, covered_carried}
use Rattle.rules.proofs.invariant.Marking.{Walking}
use Rattle.rules.proofs.invariant.Sim.{Sim}
use Rattle.rules.proofs.invariant.Laws.{cur_two}
use Rattle.rules.proofs.invariant.Range.{frontier_range, limit_length, range_walk}

-- ---- below the frontier, in a phase that walks over records
module _ {K : ℕ → Type 0} {m : ℕ → ℕ} {s : Store} {f : Free} (h : Sim K m s f) (w : Walk s.memory s.current s.walk.place)
    (l : s.walk.place < frontier s.memory s.current) where
  pub walked_in : In s.memory s.current (walked s)
  unfolding walked
  walked_in = record {
    start = walk_start (cur_two h) w l;
    side = half-reference s.current s.walk.place (cur_two h);
  }

  pub walked_next : Walk s.memory s.current (s.walk.place + size s.memory (walked s))
  unfolding walked
  walked_next = walk-next (cur_two h) w h.filled l

  pub walked_limit : stage s.phase ≢ st_root_mark → stage s.phase ≢ st_root_flip → s.walk.place + size s.memory (walked s) ≤ walk_limit s.phase s.lengths.half0
  walked_limit a b = rw (limit_length s.phase s.lengths.half0 a b) (omega (arith, walk-within walked_next, frontier_range h.range s.current))

-- ---- the walk at place k and field i: what each phase asks of it
pub record WalkFits (s : Store) (k i : ℕ) : Type 0 where
  pub places : k ≤ walk_limit s.phase s.lengths.half0
  pub fields : i ≤ most_fields
  -- RootMark, HeapMark
  pub globals-below : stage s.phase ≡ st_root_mark → (g : ℕ) → g < k → Clean s.memory s.current (get_or s.globals g null)
  pub scanning : stage s.phase ≡ st_heap_mark → s.list.head < s.list.tail → (j : ℕ) → j < i
      → Clean s.memory s.current (field s.memory (get_or s.list.words s.list.head null) j)
  pub scanned-within : stage s.phase ≡ st_heap_mark → s.list.head < s.list.tail → i ≤ refs s.memory (get_or s.list.words s.list.head null)
  pub covered : stage s.phase ≡ st_heap_mark
      → Carries s.memory s.memory s.current (scan_of s) (scan s.list.words s.list.head s.list.tail i)
  -- Allocate
  pub shelled_below : stage s.phase ≡ st_allocate → (v : ℕ) → In s.memory s.current v → word_of v < k → colour s.memory v ≢ white → replica s.memory v ≢ null
  -- Copy
  pub agreement : Agreement s.memory s.current (stage s.phase) k i
  -- RootFlip
  pub flipping : stage s.phase ≡ st_root_flip → (g : ℕ) → g < k → Names (other_half s.current) (get_or s.globals g null)
  pub walking : Walking s.memory s.current (stage s.phase) k i s.list.head s.list.tail

pub walk_sim : {K : ℕ → Type 0} {m : ℕ → ℕ} {s : Store} {f : Free} → Sim K m s f → {k i : ℕ} → WalkFits s k i → Sim K m (with_walk s k i) f
walk_sim h {k} {i} t = record {
  range = range_walk h.range k i t.places t.fields;
  filled = h.filled;
  births = h.births;
  identity = h.identity;
  values = h.values;
  roots = h.roots;
  levels = h.levels;
  root_halves = (let r = h.root_halves in record {
    regs = r.regs;
    globals = r.globals;
    flipping = t.flipping;
    flipped = r.flipped;
    marked = r.marked;
  });
  field_halves = h.field_halves;
  pairs = h.pairs;
  agreement = t.agreement;
  colours = (let r = h.colours in record {
    at_rest = r.at_rest;
    at_reclaim = r.at_reclaim;
    none_black = r.none_black;
    none_grey = r.none_grey;
    replicas_white = r.replicas_white;
    paired_marked = r.paired_marked;
    shelled_below = t.shelled_below;
    shelled = r.shelled;
  });
  grey-list = h.grey-list;
  cleaned = (let r = h.cleaned in record {
    fields = r.fields;
    scanning = t.scanning;
    scanned-within = t.scanned-within;
    globals-below = t.globals-below;
    globals = r.globals;
    scanned = λ e n j a b. covered_carried (t.covered e) (h.roots.reg_ok n j) (r.scanned e n j a b);
    registers = r.registers;
  });
  walking = t.walking;
  kept = h.kept;
}
