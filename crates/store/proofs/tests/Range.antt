-- The tests of the control record as the code groups them.
use Prim.Native.Nat.{ℕ, ◌/◌}
use mathlib.Core.Path.{◌≡◌, refl}
use mathlib.Core.Bool.{Bool, true, false, cond, not, ◌&&◌, ◌||◌, and_assoc, or-false}
use lib.Dec.{leb, eqb}
use lib.ListN.{length}
use Rattle.rules.specs.Cycle.{at_root_flip, at_root_mark, last_phase}
use Rattle.rules.specs.Memory.{header}
use Rattle.rules.specs.Control.{Store, lent, in_range, same_lengths, lengths_allowed, half_allowed, list_allowed, walk_limit, levels_in_range, global_count, most_fields}

-- the walk place against one of two limits
limited : (b : Bool) (k m n : ℕ) → ((b && leb k m) || (not b && leb k n)) ≡ leb k (cond b m n)
limited true k m n = or-false (leb k m)
limited false k m n = refl

grouped : (a b d e f g h i j v : Bool) → (a && (b && d && e) && (f && g && h) && (i && j) && v) ≡ (a && b && d && e && f && g && h && i && j && v)
grouped a b d e f g h i j v = simp and_assoc

-- the lengths, the halves, the walk, the grey list, then the levels
pub in_groups : (s : Store) (v : Bool) → v ≡ levels_in_range s.sessions
    → (eqb s.lengths.half0 (length s.memory.half0) && eqb s.lengths.half1 (length s.memory.half1)
    && eqb s.lengths.list (length s.list.words)
    && (half_allowed s.lengths.half0 && eqb s.lengths.half0 s.lengths.half1 && leb (s.lengths.half0 / header) s.lengths.list)
    && (leb s.current 1 && leb s.memory.frontier0 s.lengths.half0 && leb s.memory.frontier1 s.lengths.half0)
    && (leb s.phase last_phase
    && (((eqb s.phase at_root_mark || eqb s.phase at_root_flip) && leb s.walk.place global_count)
    || (not (eqb s.phase at_root_mark || eqb s.phase at_root_flip) && leb s.walk.place s.lengths.half0))
    && leb s.walk.field most_fields)
    && (leb s.list.head s.list.tail && leb s.list.tail s.lengths.list)
    && v) ≡ in_range s
unfolding in_range same_lengths lengths_allowed list_allowed walk_limit
in_groups s v e =
    rw (e, limited (eqb s.phase at_root_mark || eqb s.phase at_root_flip) s.walk.place global_count s.lengths.half0)
    (grouped (same_lengths s.lengths (lent s) && lengths_allowed s.lengths)
    (leb s.current 1) (leb s.memory.frontier0 s.lengths.half0) (leb s.memory.frontier1 s.lengths.half0)
    (leb s.phase last_phase) (leb s.walk.place (walk_limit s.phase s.lengths.half0)) (leb s.walk.field most_fields)
    (leb s.list.head s.list.tail) (leb s.list.tail s.lengths.list) (levels_in_range s.sessions))
