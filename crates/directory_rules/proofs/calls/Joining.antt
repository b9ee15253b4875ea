-- Join: a link more, behind the last of its group.
use Prim.Native.Nat.{ℕ, ◌≤◌, ◌<◌}
use mathlib.Core.Path.{◌≡◌, sym, ap, ◌∙◌}
use mathlib.Core.Bool.{not}
use mathlib.Core.List.{[], ◌∷◌, ◌++◌, append-nil}
use native.Mathlib.Omega.{arith}
use lib.Dec.{eqb}
use Rattle.rules.specs.Control.{register_count}
use Rattle.rules.specs.Refusals.{Tested, passed, check, ◌>>◌ as ◌>>>◌}
use Rattle.rules.specs.Free.{Free}
use Rattle.directory_rules.specs.Table.{Table, Join, paired, already, with_pairs, table_next}
use Rattle.directory_rules.specs.Acts.{◌>>◌}
use Rattle.directory_rules.specs.Directory.{absent, append, pairing, joining, plainly, group_registers, program, group_register, first_field}
use Rattle.directory_rules.specs.declared.Place.{Place}
use Rattle.directory_rules.proofs.tables.Pairs.{paired-members}
use Rattle.directory_rules.proofs.free.Slots.{field, slot_after, new_place}
use Rattle.directory_rules.proofs.free.Perform.{free_perform}
use Rattle.directory_rules.proofs.chains.Core.{link_label, Layout, Short, Represents}
use Rattle.directory_rules.proofs.chains.Entries.{links_there}
use Rattle.directory_rules.proofs.chains.New.{stays_new}
use Rattle.directory_rules.proofs.chains.Growing.{core_link}
use Rattle.directory_rules.proofs.calls.Kept.{RequestKept, Within}
use Rattle.directory_rules.proofs.calls.Alike.{alike_then, alike_absent}
use Rattle.directory_rules.proofs.calls.Around.{Carries, alike_plainly, around}
use Rattle.directory_rules.proofs.calls.Members.{member_paired}
use Rattle.directory_rules.proofs.calls.Pairing.{Paired, pair_tests, pairing_alike, known-first}
use Rattle.directory_rules.proofs.calls.Append.{append_ends}

-- the table's tests and what they leave
abbrev joined : Table → ℕ → ℕ → ℕ → Tested Table
joined t n g k = check (not (paired n g t.pairs)) already >>> (check (eqb k 0) k >>> passed (with_pairs t (t.pairs ++ (record { person = n; group = g } ∷ []))))

module _ {m : ℕ} (fed : ℕ) (many : group_register < m) (few : m ≤ register_count) {y : Layout} {t : Table} (n g : ℕ) where
  behind_members : (h : Free) (x : Place) (u : Unit {0}) → Paired m y t n g h x u → Carries m y t (free_perform fed h (absent x already >> append x n)) (joined t n g fed)
  behind_members h x u r =
      let c = r.within.core in
      let links = y.links r.group in
      let found : x.found ≡ paired n g t.pairs = member_paired n g r.within r.member r.number r.at in
      alike_absent fed r.within x (paired n g t.pairs) already found (append x n)
      (λ e. append_ends r.within (omega arith) few x.at x.via n r.at.low
      (r.at.slot ∙ ap (slot_after (field r.group first_field)) (r.at.absent e)) (links_there c r.member links [] (sym (append-nil links)))
      (stays_new y.label (new_place h) (link_label r.group) (λ z. omega arith)) r.within.opened
      (core_link c n g r.group r.small r.member r.number (sym (paired-members n g t.pairs) ∙ sym found ∙ e)) fed x.found x.left)

  joining_alike : {half : ℕ} {f : Free} → Short half y → Within m f y t → Carries m y t (free_perform fed f (joining half n g)) (pair_tests t n g >>> joined t n g fed)
  unfolding joining
  joining_alike {half} {f} short within =
      alike_then fed f (pairing half n g) (λ w. absent w already >> append w n) (pairing_alike fed many few short within n g) behind_members

pub joining-kept : {half : ℕ} (fed : ℕ) {f : Free} {y : Layout} {t : Table} → Represents f y t → Short half y → (n g : ℕ)
    → RequestKept half fed f y t (Join n g)
unfolding program table_next
joining-kept {half} fed {f} {y} {t} r short n g =
    rw (known-first t n g (joined t n g fed))
    (around {n = group_registers} fed f (Join n g) (omega arith) (plainly (joining half n g)) r
    (λ h. alike_plainly fed f (joining half n g) (joining_alike fed (omega arith) (omega arith) n g short h)))
