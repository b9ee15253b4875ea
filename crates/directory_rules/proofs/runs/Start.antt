-- A new store carries the new table: no record, and all null.
use Prim.Native.Nat.{ℕ}
use mathlib.Core.Path.{◌≡◌, refl}
use mathlib.Core.List.Memᴰ
use mathlib.Core.List.{[]}
use lib.ListN.{get_or, length}
use Rattle.rules.specs.Memory.{null}
use Rattle.rules.specs.Control.{session_count, register_count, global_count}
use Rattle.rules.specs.Free.{FreeSession, new_free, free_nobody, free_absent, record_at, free_session, free_register}
use Rattle.rules.proofs.memory.Lists.{all_same, zeros}
use Rattle.directory_rules.specs.Table.{new_table}
use Rattle.directory_rules.specs.Acts.{own_session}
use Rattle.directory_rules.proofs.tables.Sound.{sound_new}
use Rattle.directory_rules.proofs.chains.Chain.{ends}
use Rattle.directory_rules.proofs.chains.Core.{Owned, Foreign, Layout, Core, Represents}
use Rattle.directory_rules.proofs.runs.Changes.{null_foreign}

-- no place is the directory's
abbrev pub empty_layout : Layout
empty_layout = record { groups = []; people = []; links = λ g. []; label = λ q. 0 }

registers-null : (n k : ℕ) → free_register (free_session new_free n) k ≡ null
unfolding new_free free_session free_register
registers-null n k =
    all_same (λ (x : FreeSession). get_or x.registers k null ≡ null) free_nobody free_absent (zeros register_count k) refl session_count n

own_new : Owned new_free empty_layout.label
own_new q ours = absurd (ours refl)

-- what is null may be held
null_held : {v : ℕ} → v ≡ null → Foreign (length new_free.records) empty_layout.label v
null_held e = rw e (null_foreign own_new)

core_empty : Core new_free empty_layout new_table
unfolding new_free free_session record_at
core_empty = record {
  store = record {
    shaped = record { sessions = refl; registers = refl; globals = refl };
    own = own_new;
    apart = record { registers = λ n k d. null_held (registers-null n k); globals = λ g d. null_held (zeros global_count g); fields = λ q i z d. null_held refl };
  };
  sound = sound_new;
  entries = ends refl;
  groups = refl;
  people = refl;
  linked = λ g i. absurd (Memᴰ.not-nil i);
}

pub start_represents : Represents new_free empty_layout new_table
unfolding new_free free_session free_register
start_represents = record { core = core_empty; opened = refl; cleared = registers-null own_session }
