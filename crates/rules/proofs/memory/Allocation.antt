-- New records as the rules make them: one that an allocation places, and the shell of a record.
use Prim.Native.Nat.{ℕ, ◌+◌, ◌≤◌, ◌<◌}
use mathlib.Core.Path.{◌≡◌, refl}
use native.Mathlib.Omega.{arith}
use lib.ListN.{length}
use Rattle.rules.specs.Memory.{Memory, half, frontier, shape_word, refs_of, plains_of, size_of, word, append, birth_number, refs, plains, size, white, shape_at, most_count, black}
use Rattle.rules.specs.Barriers.{placed}
use Rattle.rules.specs.Collector.{shell_of}
use Rattle.rules.proofs.memory.Encoding.{refs-shape, plains-shape, shape_bound}
use Rattle.rules.proofs.memory.Records.{Start, Filled, size-fields}
use Rattle.rules.proofs.memory.Append.{Appendable, Appended, append-kept}

-- ---- a record of r and p fields, of colour c, with replica word v and birth number b

-- M has room for it in half h
pub record Placeable (M : Memory) (h r p c : ℕ) : Type 0 where
  pub filled : Filled M
  pub side : h < 2
  pub few-refs : r ≤ most_count
  pub few-plains : p ≤ most_count
  pub tint : c ≤ black
  pub room : frontier M h + size_of r p ≤ length (half M h)

module _ {M : Memory} {h r p c : ℕ} (a : Placeable M h r p c) where
  placeable : Appendable M h (shape_word r p) c (r + p)
  placeable = record {
    filled = a.filled;
    side = a.side;
    shape = shape_bound r p a.few-refs a.few-plains;
    tint = a.tint;
    fields = rw (refs-shape r p a.few-plains, plains-shape r p a.few-plains);
    room = let l = a.room in omega arith;
  }

  pub placed-kept : (v b : ℕ) → Appended M (placed M h r p c v b) h (shape_word r p) c v b (r + p)
  unfolding placed
  placed-kept v b = append-kept placeable v b

-- ---- the shell of a record: its word 0, white, its reference as replica word, its birth number

module _ {M : Memory} (f : Filled M) {v h : ℕ} (s : Start M v) (two : h < 2) (room : frontier M h + size M v ≤ length (half M h)) where
  fields_by_shape : refs M v + plains M v ≡ refs_of (word M v shape_at) + plains_of (word M v shape_at)
  unfolding refs plains
  fields_by_shape = refl

  shellable : Appendable M h (word M v shape_at) white (refs M v + plains M v)
  shellable = record {
    filled = f;
    side = two;
    shape = f.shapes s;
    tint = omega arith;
    fields = fields_by_shape;
    room = omega (arith, room, size-fields M v);
  }

  pub shell_kept : Appended M (append M h (shell_of M v)) h (word M v shape_at) white v (birth_number M v) (refs M v + plains M v)
  unfolding shell_of
  shell_kept = append-kept shellable v (birth_number M v)
