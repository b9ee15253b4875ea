-- What is shown of a step: the unit of its phase passes its tests, keeps the invariant and counts in the bound on marking; and how it moves the
-- frontiers.
use Prim.Native.Nat.{ℕ, ◌≤◌}
use mathlib.Core.Path.{◌≡◌}
use native.Mathlib.Omega.{arith}
use Rattle.rules.specs.Refusals.{Tested, passed}
use Rattle.rules.specs.Memory.{frontier}
use Rattle.rules.specs.Control.{Store}
use Rattle.rules.specs.Collector.{walked}
use Rattle.rules.specs.Free.{Free}
use Rattle.rules.proofs.invariant.Sim.{Sim}
use Rattle.rules.proofs.invariant.Room.{Fronts, still}
use Rattle.rules.proofs.invariant.Spending.{Spends}
use Rattle.rules.proofs.relation.Tracks.{Tracks, tracks_stay}

-- a unit of collector work passes its tests and keeps the invariant
pub record Stepped (K : ℕ → Type 0) (m : ℕ → ℕ) (s : Store) (f : Free) (t : Tested Store) : Type 0 where
  pub after : Store
  pub passes : t ≡ passed after
  pub place : ℕ → ℕ
  pub sim : Sim K place after f
  pub tracks : Tracks (m (walked s)) m place s.memory after.memory
  pub spent : Spends s after
  pub fronts : Fronts s after

-- a unit of work that passes with a store of no higher frontiers
pub stepped : {K : ℕ → Type 0} {m : ℕ → ℕ} {s s' : Store} {f : Free} {t : Tested Store} → t ≡ passed s' → Sim K m s' f
    → frontier s'.memory 0 ≤ frontier s.memory 0 → frontier s'.memory 1 ≤ frontier s.memory 1 → Spends s s'
    → Stepped K m s f t
stepped {m = m} {s = s} {s' = s'} e k a b c =
    record { after = s'; passes = e; place = m; sim = k; tracks = tracks_stay _ m s.memory s'.memory a b; spent = c; fronts = still a b }

-- the same where the memory stays
pub stepped_same : {K : ℕ → Type 0} {m : ℕ → ℕ} {s s' : Store} {f : Free} {t : Tested Store} → t ≡ passed s' → Sim K m s' f
    → s'.memory ≡ s.memory → Spends s s' → Stepped K m s f t
stepped_same e k same c = stepped e k (rw same (omega arith)) (rw same (omega arith)) c
