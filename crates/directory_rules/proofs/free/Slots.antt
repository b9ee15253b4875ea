-- Where a reference stands: the directory's global, or a reference field of a record.
use Prim.Native.Nat.{ℕ, suc, ◌≤◌, ◌<◌}
use mathlib.Core.List.{List, [], ◌∷◌, ◌++◌}
use lib.ListN.{get_or, set, replicate, length}
use Rattle.rules.specs.Memory.{null}
use Rattle.rules.specs.Free.{Free, record_at, with_record}
use Rattle.directory_rules.specs.Acts.{own_global}
use Rattle.directory_rules.specs.Directory.{next_field, first_field, number_field, group_register, other_of}
use Rattle.directory_rules.specs.declared.Via.{Via}
use Rattle.directory_rules.specs.declared.Via.TheVariants.{Next, First, Top}
use Rattle.directory_rules.proofs.free.Session.{reg}

pub data Slot : Type 0 where
  top : Slot
  field : ℕ → ℕ → Slot

-- what it holds
abbrev pub held : Free → Slot → ℕ
held f top = get_or f.globals own_global null
held f (field q i) = get_or (record_at f q).refs i null

-- the store with v there
abbrev pub written : Free → Slot → ℕ → Free
written f top v = record { sessions = f.sessions; globals = set f.globals own_global v; records = f.records }
written f (field q i) v = with_record f q (record { refs = set (record_at f q).refs i v; plains = (record_at f q).plains })

-- the word of a record of the directory
abbrev pub number_at : Free → ℕ → ℕ
number_at f q = get_or (record_at f q).plains number_field 0

-- the slot that a walk has come to that began at a slot and passed some records
abbrev pub slot_after : Slot → List ℕ → Slot
slot_after sl [] = sl
slot_after sl (x ∷ xs) = slot_after (field x next_field) xs

-- the slot that names the record at hand, in register `at`
abbrev pub slot_of : Free → ℕ → Via → Slot
slot_of f at Next = field (reg f (other_of at)) next_field
slot_of f at First = field (reg f group_register) first_field
slot_of f at Top = top

-- the store with one record more: r null references, and a word
abbrev pub grow : Free → ℕ → ℕ → Free
grow f r w =
    record {
      sessions = f.sessions;
      globals = f.globals;
      records = f.records ++ (record { refs = replicate r null; plains = w ∷ [] } ∷ []);
    }

-- the place that it gets
abbrev pub new_place : Free → ℕ
new_place f = suc (length f.records)

-- a slot that is there: the global, or a field of a record
abbrev pub There : Free → Slot → Type 0
There f top = own_global < length f.globals
There f (field q i) = (1 ≤ q) × (q ≤ length f.records) × (i < length (record_at f q).refs)
