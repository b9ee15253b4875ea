-- The table as chains of records of the collector-free store.
use Prim.Native.Nat.{ℕ, suc, ◌+◌, ◌-◌, ◌≤◌}
use mathlib.Core.Path.{◌≡◌}
use mathlib.Core.Logic.{◌≢◌}
use mathlib.Core.List.{List, [], ◌∷◌, ◌++◌, map, Memᴰ}
use mathlib.Core.Bool.{cond}
use lib.Dec.{leb, eqb}
use lib.ListN.{get_or, length}
use Rattle.rules.specs.Memory.{null}
use Rattle.rules.specs.Free.{Free, record_at, free_session, free_register}
use Rattle.rules.specs.Tracking.{update}
use Rattle.directory_rules.specs.Table.{Table, Pair, members_of}
use Rattle.directory_rules.specs.Acts.{own_session, own_global}
use Rattle.directory_rules.specs.Directory.{group_mark, first_field}
use Rattle.directory_rules.proofs.tables.Sound.{SoundTable}
use Rattle.directory_rules.proofs.free.Session.{reg, Shaped}
use Rattle.directory_rules.proofs.free.Slots.{top, field, number_at}
use Rattle.directory_rules.proofs.chains.Chain.{Chain}

-- ---- labels

-- a record that isn't the directory's; an entry; a link of the group at place g
abbrev pub others_label : ℕ
others_label = 0

abbrev pub entry_label : ℕ
entry_label = 1

abbrev pub link_label : ℕ → ℕ
link_label g = suc g

-- how many reference fields the record with that word has: a group two, a person and a link one
abbrev pub refs_for : ℕ → ℕ
refs_for w = cond (leb group_mark w) 2 1

-- a record of the directory: there, with one plain field and its reference fields
pub record Good (f : Free) (q : ℕ) : Type 0 where
  pub some : 1 ≤ q
  pub within : q ≤ length f.records
  pub plain : length (record_at f q).plains ≡ 1
  pub refs : length (record_at f q).refs ≡ refs_for (number_at f q)

abbrev pub Owned : Free → (ℕ → ℕ) → Type 0
Owned f lab = (q : ℕ) → lab q ≢ others_label → Good f q

-- what the others may hold: null, or the place of a record that is there and isn't the directory's
pub record Foreign (size : ℕ) (lab : ℕ → ℕ) (v : ℕ) : Type 0 where
  pub label : lab v ≡ others_label
  pub within : v ≤ size

-- no other session, no other global and no record of theirs holds a record of the directory
pub record Apart (f : Free) (lab : ℕ → ℕ) : Type 0 where
  pub registers : (n k : ℕ) → n ≢ own_session → Foreign (length f.records) lab (free_register (free_session f n) k)
  pub globals : (g : ℕ) → g ≢ own_global → Foreign (length f.records) lab (get_or f.globals g null)
  pub fields : (q i : ℕ) → q ≢ null → lab q ≡ others_label → Foreign (length f.records) lab (get_or (record_at f q).refs i null)

-- the store as the directory's records need it, whatever their references name
pub record SoundStore (f : Free) (lab : ℕ → ℕ) : Type 0 where
  pub shaped : Shaped f
  pub own : Owned f lab
  pub apart : Apart f lab

-- ---- the chains

-- the places of groups and people in order, those of the links of each group, and the labels of all places
pub record Layout : Type 0 where
  pub groups : List ℕ
  pub people : List ℕ
  pub links : ℕ → List ℕ
  pub label : ℕ → ℕ

-- the links of the group at place g
pub record Linked (f : Free) (y : Layout) (pairs : List Pair) (g : ℕ) : Type 0 where
  pub chain : Chain f y.label (link_label g) (field g first_field) (y.links g)
  pub words : map (number_at f) (y.links g) ≡ members_of (number_at f g - group_mark) pairs

pub record Core (f : Free) (y : Layout) (t : Table) : Type 0 where
  pub store : SoundStore f y.label
  pub sound : SoundTable t
  pub entries : Chain f y.label entry_label top (y.groups ++ y.people)
  pub groups : map (number_at f) y.groups ≡ map (λ g. group_mark + g) t.groups
  pub people : map (number_at f) y.people ≡ t.people
  pub linked : (g : ℕ) → Memᴰ g y.groups → Linked f y t.pairs g

-- no chain is longer than a half has words
pub record Short (half : ℕ) (y : Layout) : Type 0 where
  pub entries : length (y.groups ++ y.people) ≤ half
  pub links : (g : ℕ) → Memᴰ g y.groups → length (y.links g) ≤ half

-- between two calls: the table is carried, the session is attached where it is open, its registers are null
pub record Represents (f : Free) (y : Layout) (t : Table) : Type 0 where
  pub core : Core f y t
  pub opened : (free_session f own_session).attached ≡ t.opened
  pub cleared : (k : ℕ) → reg f k ≡ null

-- every place that was the directory's still is
abbrev pub Stays : Layout → Layout → Type 0
Stays y z = (q : ℕ) → y.label q ≢ others_label → z.label q ≢ others_label

-- ---- the layouts that calls leave

abbrev pub update_list : (ℕ → List ℕ) → ℕ → List ℕ → ℕ → List ℕ
update_list m v qs u = cond (eqb u v) qs (m u)

-- a person more, at place q
abbrev pub with_person : Layout → ℕ → Layout
with_person y q = record { groups = y.groups; people = y.people ++ (q ∷ []); links = y.links; label = update y.label q entry_label }

-- a group more, with no link
abbrev pub with_group : Layout → ℕ → Layout
with_group y q =
    record { groups = y.groups ++ (q ∷ []); people = y.people; links = update_list y.links q []; label = update y.label q entry_label }

-- a link more, of the group at place g
abbrev pub with_link : Layout → ℕ → ℕ → Layout
with_link y g q =
    record {
      groups = y.groups;
      people = y.people;
      links = update_list y.links g (y.links g ++ (q ∷ []));
      label = update y.label q (link_label g);
    }

-- other links of the group at place g
abbrev pub with_links : Layout → ℕ → List ℕ → Layout
with_links y g ls = record { groups = y.groups; people = y.people; links = update_list y.links g ls; label = y.label }

-- other people
abbrev pub with_places : Layout → List ℕ → Layout
with_places y qs = record { groups = y.groups; people = qs; links = y.links; label = y.label }
