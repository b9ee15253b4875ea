-- Add: a person more, behind the last.
use Prim.Native.Nat.{ℕ, ◌-◌, ◌≤◌}
use mathlib.Core.Path.{◌≡◌, sym, ap, ◌∙◌}
use mathlib.Core.Bool.{not}
use mathlib.Core.List.{[], ◌∷◌, ◌++◌, append-nil}
use native.Mathlib.Omega.{arith}
use lib.Dec.{eqb}
use lib.ListN.{length}
use borrow.Author.Tests.{leb-true}
use Rattle.rules.specs.Control.{register_count}
use Rattle.rules.specs.Refusals.{passed, check, ◌>>◌ as ◌>>>◌}
use Rattle.rules.specs.Free.{Free}
use Rattle.directory_rules.specs.Table.{Table, Add, among, is_number, last_number, unknown, already, with_people, table_next}
use Rattle.directory_rules.specs.Acts.{◌>>=◌, ◌>>◌}
use Rattle.directory_rules.specs.Directory.{entries, absent, append, adding, plainly, walk_registers, program}
use Rattle.directory_rules.proofs.free.Slots.{top, slot_of, slot_after, new_place}
use Rattle.directory_rules.proofs.free.Registers.{only_there}
use Rattle.directory_rules.proofs.free.Perform.{free_perform}
use Rattle.directory_rules.proofs.free.Sequence.{then_passed}
use Rattle.directory_rules.proofs.chains.Core.{entry_label, Layout, Short, Represents}
use Rattle.directory_rules.proofs.chains.Entries.{entries_there, group-high}
use Rattle.directory_rules.proofs.chains.New.{stays_new}
use Rattle.directory_rules.proofs.chains.Growing.{core_person}
use Rattle.directory_rules.proofs.walks.Walked.{Walked, place_of}
use Rattle.directory_rules.proofs.calls.Kept.{RequestKept, Within, within_regs}
use Rattle.directory_rules.proofs.calls.Alike.{alike_demand, alike_absent}
use Rattle.directory_rules.proofs.calls.Around.{Carries, alike_plainly, around}
use Rattle.directory_rules.proofs.calls.Found.{entries-walked, passed-all, person-found}
use Rattle.directory_rules.proofs.calls.Append.{append_ends}

module _ {m half : ℕ} (fed : ℕ) {f : Free} {y : Layout} {t : Table} (two : 2 ≤ m) (few : m ≤ register_count) (short : Short half y)
    (within : Within m f y t) (n : ℕ) where
  -- behind the walk over all entries
  behind_entries : Walked f top (y.groups ++ y.people) n 0 half (free_perform fed f (entries half n 0)) → n ≤ last_number
      → Carries m y t (free_perform fed f (entries half n 0 >>= λ w. absent w already >> append w n))
      (check (not (among n t.people)) already >>> (check (eqb fed 0) fed >>> passed (with_people t (t.people ++ (n ∷ [])))))
  behind_entries w small =
      let c = within.core in
      let h : Within m w.after y t = within_regs w.regs two within in
      let all = y.groups ++ y.people in
      let found : w.found ≡ among n t.people = person-found c y.groups (λ q i. group-high c i) small w in
      rw (then_passed fed f (entries half n 0) (λ w. absent w already >> append w n) w.ended)
      (alike_absent fed h (place_of w) (among n t.people) already found (append (place_of w) n)
      (λ e.
      let s : slot_of w.after w.at w.via ≡ slot_after top all = w.slot ∙ ap (slot_after top) (passed-all w e) in
      append_ends h two few w.at w.via n w.low s (only_there w.regs (slot_after top all) (entries_there c all [] (sym (append-nil all))))
      (stays_new y.label (new_place w.after) entry_label (λ z. omega arith)) within.opened (core_person h.core n small (sym found ∙ e)) fed w.found (half - length w.xs)))

  adding_alike : Carries m y t (free_perform fed f (adding half n))
      (check (is_number n) unknown >>> (check (not (among n t.people)) already >>> (check (eqb fed 0) fed >>> passed (with_people t (t.people ++ (n ∷ []))))))
  unfolding adding
  adding_alike = alike_demand fed within (is_number n) unknown (entries half n 0 >>= λ w. absent w already >> append w n)
      (λ e. behind_entries (entries-walked fed within short n 0) (leb-true n last_number e))

pub adding-kept : {half : ℕ} (fed : ℕ) {f : Free} {y : Layout} {t : Table} → Represents f y t → Short half y → (n : ℕ)
    → RequestKept half fed f y t (Add n)
unfolding program table_next
adding-kept {half} fed {f} r short n =
    around {n = walk_registers} fed f (Add n) (omega arith) (plainly (adding half n)) r (λ h. alike_plainly fed f (adding half n) (adding_alike fed (omega arith) (omega arith) short h n))
