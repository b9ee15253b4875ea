-- Remove: a person out of all groups, and then out of the entries.
use Prim.Native.Nat.{ℕ, ◌≤◌, ◌<◌}
use mathlib.Core.Path.{◌≡◌, refl, sym, ap, ◌∙◌}
use mathlib.Core.List.Memᴰ
use mathlib.Core.List.{List, ◌∷◌, ◌++◌, append_assoc}
use native.Mathlib.Omega.{arith}
use borrow.Author.Tests.{leb-true}
use Rattle.rules.specs.Control.{register_count}
use Rattle.rules.specs.Refusals.{passed, check, ◌>>◌ as ◌>>>◌}
use Rattle.rules.specs.Free.{Free}
use Rattle.directory_rules.specs.Table.{Table, Remove, among, is_number, last_number, unknown, without, without_person, with_people, with_pairs, table_next}
use Rattle.directory_rules.specs.Acts.{Act, move, get, load, must, ◌>>=◌, ◌>>◌}
use Rattle.directory_rules.specs.Directory.{entries, present, before_register, keep_before, leaving_all, link_person, removing, plainly, remove_registers, program, next_field, group_register, person_register}
use Rattle.directory_rules.specs.declared.Via.{Via}
use Rattle.directory_rules.specs.declared.Place.{Place}
use Rattle.directory_rules.proofs.Lists.{mem_cut}
use Rattle.directory_rules.proofs.tables.Pairs.{unpair-all}
use Rattle.directory_rules.proofs.free.Session.{reg}
use Rattle.directory_rules.proofs.free.Slots.{Slot, top, field, held, written, number_at, slot_after, slot_of}
use Rattle.directory_rules.proofs.free.Registers.{only_number}
use Rattle.directory_rules.proofs.free.Commute.{written_reg, written_ready}
use Rattle.directory_rules.proofs.free.Perform.{free_perform}
use Rattle.directory_rules.proofs.free.Sequence.{then_passed}
use Rattle.directory_rules.proofs.chains.Laws.{chain_first, chain_rest}
use Rattle.directory_rules.proofs.chains.Core.{Layout, Core, Short, Represents, with_places}
use Rattle.directory_rules.proofs.chains.Entries.{entry_good, entries_there, group-high}
use Rattle.directory_rules.proofs.chains.Registers.{core_regs}
use Rattle.directory_rules.proofs.chains.Cutting.{core_unperson}
use Rattle.directory_rules.proofs.walks.Walked.{Walked, place_of}
use Rattle.directory_rules.proofs.calls.Kept.{RequestKept, Within, within_ready, within_regs}
use Rattle.directory_rules.proofs.calls.Alike.{pass, alike_demand, alike_present}
use Rattle.directory_rules.proofs.calls.Around.{Carries, alike_plainly, around}
use Rattle.directory_rules.proofs.calls.Found.{entries-walked, there, person-found, person_there}
use Rattle.directory_rules.proofs.calls.Gone.{with_all_links, Gone}
use Rattle.directory_rules.proofs.calls.LeavingAll.{leaving_all_lem}
use Rattle.directory_rules.proofs.calls.Unnamed.{Writes, Before, before_same, begun, person_unnamed}

-- the table without the person
abbrev removed : Table → ℕ → Table
removed t n = with_pairs (with_people t (without n t.people)) (without_person n t.pairs)

-- the act once the person is out of all groups
abbrev last : Via → Act (Unit {0})
last via = must (load person_register person_register next_field) >> link_person via

-- and once the person is found
abbrev dropping : ℕ → ℕ → ℕ → Via → Act (Unit {0})
dropping half n at via =
    keep_before at via >> (must (move person_register at) >> (must (get group_register) >> (leaving_all half half n >> last via)))

-- the person is out of all groups: it leaves the entries
module _ {r half n : ℕ} {f g : Free} {y : Layout} {t : Table} (fed : ℕ) (many : person_register < r) (within : Within r f y t) (gone : Gone r 3 half n t.groups f y t g)
    (q : ℕ) (xs ys : List ℕ) (split : y.people ≡ xs ++ (q ∷ ys)) (number : number_at f q ≡ n) where
  abbrev slot : Slot
  slot = slot_after top (y.groups ++ xs)

  abbrev next : ℕ
  next = held g (field q next_field)

  last_core : Core (written g slot next) (with_places (with_all_links y gone.links) (xs ++ ys)) (removed t n)
  last_core =
      rw (unpair-all n t.groups t.pairs within.core.sound.unknown) at
      (core_unperson gone.within.core n q xs ys split (gone.numbers q ∙ number))

  module _ {via : Via} (person : reg f person_register ≡ q) (before : Before f slot via) where
    last_writes : Writes r g slot next (free_perform fed g (last via))
    last_writes = person_unnamed fed many (within_ready gone.within) (gone.kept person_register (omega arith) ∙ person)
        (entry_good gone.within.core (Memᴰ.append_right y.groups (mem_cut xs q ys split)))
        (before_same (gone.kept before_register (omega arith)) before)
        (entries_there gone.within.core (y.groups ++ xs) (q ∷ ys) (ap (λ (l : List ℕ). y.groups ++ l) split ∙ sym (append_assoc y.groups xs (q ∷ ys))))

    last_alike : {u : Table} → Carries r y u (free_perform fed g (last via)) (passed (removed t n))
    last_alike =
        let h = last_writes in
        pass h.ended (record {
          is = refl;
          layout = with_places (with_all_links y gone.links) (xs ++ ys);
          stays = λ p o. o;
          within = record {
            core = core_regs h.regs last_core;
            attached = h.regs.attached ∙ (written_ready g slot next (within_ready gone.within)).attached;
            opened = within.opened;
            above = λ k l. h.regs.above k l ∙ written_reg g slot next k ∙ gone.within.above k l;
          };
        })

-- the person at hand, at place q
module _ {r half n : ℕ} {f : Free} {y : Layout} {t : Table} (fed : ℕ) (many : person_register < r) (few : r ≤ register_count) (short : Short half y) (within : Within r f y t)
    (q : ℕ) (xs ys : List ℕ) (split : y.people ≡ xs ++ (q ∷ ys)) (number : number_at f q ≡ n) (at : ℕ) (via : Via) (low : at ≤ 1)
    (slot : slot_of f at via ≡ slot_after top (y.groups ++ xs)) (person : reg f at ≡ q) where
  drops : Carries r y t (free_perform fed f (dropping half n at via)) (passed (removed t n))
  drops =
      let b = begun fed many (within_ready within) at via low (y.groups ++ xs) slot in
      let h : Within r b.after y t = within_regs b.regs (omega arith) within in
      let l = leaving_all_lem fed half n (omega arith) few h short b.group in
      rw (b.steps (leaving_all half half n >> last via) ∙ then_passed fed b.after (leaving_all half half n) (λ x. last via) l.ended)
      (last_alike fed many h l.gone q xs ys split (only_number b.regs q ∙ number) (b.person ∙ person) b.before)

module _ {r half : ℕ} (fed : ℕ) (many : person_register < r) (few : r ≤ register_count) {f : Free} {y : Layout} {t : Table} (short : Short half y) (within : Within r f y t) (n : ℕ) where
  abbrev behind : Place → Act (Unit {0})
  behind w = present w unknown >> dropping half n w.at w.via

  -- behind the walk over all entries
  behind_entries : Walked f top (y.groups ++ y.people) n 0 half (free_perform fed f (entries half n 0)) → n ≤ last_number
      → Carries r y t (free_perform fed f (entries half n 0 >>= behind)) (check (among n t.people) unknown >>> passed (removed t n))
  behind_entries w small =
      let c = within.core in
      let h : Within r w.after y t = within_regs w.regs (omega arith) within in
      rw (then_passed fed f (entries half n 0) behind w.ended)
      (alike_present fed h (place_of w) (among n t.people) unknown (person-found c y.groups (λ q i. group-high c i) small w) (dropping half n w.at w.via)
      (λ e.
      let x = there w e in
      let p = person_there c y.groups (λ q i. group-high c i) small w e in
      drops fed many few short h x.record_at p.before x.rest p.back (only_number w.regs x.record_at ∙ x.number) w.at w.via w.low
      (w.slot ∙ ap (slot_after top) p.front)
      (w.here ∙ chain_first (chain_rest w.xs (x.record_at ∷ x.rest) (rw x.split at c.entries)))))

  removing_alike : Carries r y t (free_perform fed f (removing half n)) (check (is_number n) unknown >>> (check (among n t.people) unknown >>> passed (removed t n)))
  unfolding removing
  removing_alike = alike_demand fed within (is_number n) unknown (entries half n 0 >>= behind)
      (λ e. behind_entries (entries-walked fed within short n 0) (leb-true n last_number e))

pub removing-kept : {half : ℕ} (fed : ℕ) {f : Free} {y : Layout} {t : Table} → Represents f y t → Short half y → (n : ℕ)
    → RequestKept half fed f y t (Remove n)
unfolding program table_next
removing-kept {half} fed {f} r short n =
    around {n = remove_registers} fed f (Remove n) (omega arith) (plainly (removing half n)) r
    (λ h. alike_plainly fed f (removing half n) (removing_alike fed (omega arith) (omega arith) short h n))
