-- A new record in a register.
use Prim.Native.Nat.{ℕ, ◌<◌}
use mathlib.Core.Path.{◌≡◌, refl, ◌∙◌}
use mathlib.Core.Logic.{◌≢◌}
use Rattle.rules.specs.Control.{register_count}
use Rattle.rules.specs.Free.{Free}
use Rattle.directory_rules.proofs.free.Session.{reg, set_reg, Ready, OnlyRegs, same_reg, ready_from}
use Rattle.directory_rules.proofs.free.Slots.{grow, new_place}
use Rattle.directory_rules.proofs.free.Registers.{reg_same, reg_other, set_only, ready_set}

module _ {f : Free} (ready : Ready f) (k r w : ℕ) where
  grow_ready : Ready (grow f r w)
  grow_ready = ready_from f (grow f r w) refl refl ready

  abbrev pub grown : Free
  grown = set_reg (grow f r w) k (new_place f)

  pub grown_only : (n : ℕ) → k < n → OnlyRegs n (grow f r w) grown
  grown_only = set_only (grow f r w) k (new_place f) grow_ready.shaped

  pub grown_ready : k < register_count → Ready grown
  grown_ready = ready_set grow_ready k (new_place f)

  pub grown-at : k < register_count → reg grown k ≡ new_place f
  grown-at = reg_same (grow f r w) k (new_place f) grow_ready.shaped

  pub grown_other : (j : ℕ) → j ≢ k → reg grown j ≡ reg f j
  grown_other j d = reg_other (grow f r w) k (new_place f) grow_ready.shaped j d ∙ same_reg f (grow f r w) refl j
