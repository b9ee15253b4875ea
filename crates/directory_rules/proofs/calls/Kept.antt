-- What is shown of a call on the collector-free store, and what holds within one.
use Prim.Native.Nat.{ℕ, ◌≤◌}
use mathlib.Core.Path.{◌≡◌, ◌∙◌}
use mathlib.Core.Bool.{true}
use native.Mathlib.Omega.{arith}
use Rattle.rules.specs.Memory.{null}
use Rattle.rules.specs.Refusals.{Tested}
use Rattle.rules.specs.Free.{Free, free_session}
use Rattle.directory_rules.specs.Table.{Request, Table, Given, table_next, table_given, table_after}
use Rattle.directory_rules.specs.Acts.{own_session, Performed}
use Rattle.directory_rules.specs.Directory.{program, given_of}
use Rattle.directory_rules.proofs.free.Perform.{free_perform}
use Rattle.directory_rules.proofs.free.Session.{reg, Ready, OnlyRegs}
use Rattle.directory_rules.proofs.chains.Core.{Layout, Core, Represents, Stays}
use Rattle.directory_rules.proofs.chains.Registers.{core_regs}

-- an act that answers what the table says, and leaves the table after it carried
pub record Kept (y : Layout) (q : Request) (t : Table) (next : Tested Table) (p : Performed Free Given) : Type 0 where
  pub given : given_of q p.result ≡ table_given q next
  pub layout : Layout
  pub stays : Stays y layout
  pub represents : Represents p.store layout (table_after t next)

-- such is a call; its allocation is fed the number that the table is fed
abbrev pub RequestKept : ℕ → ℕ → Free → Layout → Table → Request → Type 0
RequestKept half fed f y t q = Kept y q t (table_next t q fed) (free_perform fed f (program half q))

-- within a call that uses n registers: the table is carried, the session is attached, its other registers are null
pub record Within (n : ℕ) (f : Free) (y : Layout) (t : Table) : Type 0 where
  pub core : Core f y t
  pub attached : (free_session f own_session).attached ≡ true
  pub opened : t.opened ≡ true
  pub above : (k : ℕ) → n ≤ k → reg f k ≡ null

pub within_ready : {n : ℕ} {f : Free} {y : Layout} {t : Table} → Within n f y t → Ready f
within_ready h = record { shaped = h.core.store.shaped; attached = h.attached }

-- a change of those registers keeps it
pub within_regs : {m n : ℕ} {f g : Free} {y : Layout} {t : Table} → OnlyRegs m f g → m ≤ n → Within n f y t → Within n g y t
within_regs o l h = record {
  core = core_regs o h.core;
  attached = o.attached ∙ h.attached;
  opened = h.opened;
  above = λ k b. o.above k (omega arith) ∙ h.above k b;
}

-- at the start of a call, where the directory is open
pub within_start : {f : Free} {y : Layout} {t : Table} → Represents f y t → t.opened ≡ true → (n : ℕ) → Within n f y t
within_start r e n = record { core = r.core; attached = r.opened ∙ e; opened = e; above = λ k b. r.cleared k }
