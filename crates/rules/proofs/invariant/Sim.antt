-- The invariant: a store s beside a collector-free store f, with the tracked place m of each reference.
use Prim.Native.Nat.{ℕ}
use mathlib.Core.Path.{◌≡◌}
use lib.ListN.{length}
use Rattle.rules.specs.Control.{Store}
use Rattle.rules.specs.Cycle.{stage}
use Rattle.rules.specs.Free.{Free}
use Rattle.rules.proofs.Ranges.{InRange}
use Rattle.rules.proofs.memory.Records.{Filled}
use Rattle.rules.proofs.invariant.Groups.{Identity, Values, Roots, Levels, RootHalves, FieldHalves, Pairs, Agreement}
use Rattle.rules.proofs.invariant.Marking.{Colours, GreyList, Cleaned, Walking, Kept}

pub record Sim (K : ℕ → Type 0) (m : ℕ → ℕ) (s : Store) (f : Free) : Type 0 where
  pub range : InRange s
  pub filled : Filled s.memory
  pub births : s.births ≡ length f.records
  pub identity : Identity s.memory m f.records
  pub values : Values s.memory m s.current f.records
  pub roots : Roots s.memory m s.sessions f.sessions s.globals f.globals
  pub levels : Levels s.phase s.sessions
  pub root_halves : RootHalves s.current (stage s.phase) s.walk.place s.sessions s.globals
  pub field_halves : FieldHalves s.memory s.current (stage s.phase)
  pub pairs : Pairs s.memory m s.current (stage s.phase)
  pub agreement : Agreement s.memory s.current (stage s.phase) s.walk.place s.walk.field
  pub colours : Colours s.memory s.current (stage s.phase) s.walk.place
  pub grey-list : GreyList s.memory s.current (stage s.phase) s.list.words s.list.head s.list.tail
  pub cleaned : Cleaned s.memory s.current (stage s.phase) s.walk.place s.walk.field s.list.words s.list.head s.list.tail s.sessions s.globals
  pub walking : Walking s.memory s.current (stage s.phase) s.walk.place s.walk.field s.list.head s.list.tail
  pub kept : Kept K s.memory m s.current (stage s.phase) f.records f.sessions f.globals
