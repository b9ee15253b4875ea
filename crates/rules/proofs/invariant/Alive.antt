-- What roots and the fields of marked records name is kept alive.
use Prim.Native.Nat.{ℕ, ◌≤◌, ◌<◌}
use mathlib.Core.Path.{◌≡◌, sym, ◌∙◌}
use mathlib.Core.Logic.{◌≢◌}
use native.Mathlib.Omega.{arith}
use lib.ListN.{get_or}
use Rattle.rules.specs.Memory.{null, white, colour, refs}
use Rattle.rules.specs.Control.{Store}
use Rattle.rules.specs.Cycle.{stage}
use Rattle.rules.specs.Free.{Free}
use Rattle.rules.proofs.invariant.Stages.{st_rest, st_stack_flip}
use Rattle.rules.proofs.invariant.Words.{In, Ok, ok_null, ok_start, field, reg}
use Rattle.rules.proofs.invariant.Sim.{Sim}

module _ {K : ℕ → Type 0} {m : ℕ → ℕ} {s : Store} {f : Free} (h : Sim K m s f) where
  -- the place of a word that names a record
  place_nonnull : {v : ℕ} → Ok s.memory v → v ≢ null → m v ≢ null
  place_nonnull (ok_null e) d = absurd (d e)
  place_nonnull {v} (ok_start t) d = omega (arith, h.identity.low v t)

  -- a word that stands for a place that is kept alive where it isn't null
  pub alive : {v q : ℕ} → Ok s.memory v → v ≢ null → q ≡ m v → (q ≢ null → K q) → K (m v)
  alive ok d e k = rw e at (k (λ z. place_nonnull ok d (sym e ∙ z)))

  -- a register
  pub register_alive : (n k : ℕ) → reg s.sessions n k ≢ null → K (m (reg s.sessions n k))
  register_alive n k d = alive (h.roots.reg_ok n k) d (h.roots.reg_is n k) (h.kept.registers n k)

  -- a global
  pub global_alive : (g : ℕ) → get_or s.globals g null ≢ null → K (m (get_or s.globals g null))
  global_alive g d = alive (h.roots.global_ok g) d (h.roots.global_is g) (h.kept.globals g)

  -- a field of a marked record
  pub field_alive : st_rest < stage s.phase → stage s.phase ≤ st_stack_flip → {v : ℕ} → In s.memory s.current v → colour s.memory v ≢ white
      → (i : ℕ) → i < refs s.memory v → field s.memory v i ≢ null → K (m (field s.memory v i))
  field_alive lo hi {v} t c i l d =
      alive (h.values.ok v i t l) d (h.values.ref v i t l) (h.kept.fields (m v) i (h.kept.marked lo hi v t c))
