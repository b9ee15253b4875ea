-- Make: a group more, behind the last group and before the first person.
use Prim.Native.Nat.{ℕ, ◌+◌, ◌≤◌, ◌<◌}
use mathlib.Core.Path.{◌≡◌, refl, sym, ap, ◌∙◌}
use mathlib.Core.Logic.{◌≢◌}
use mathlib.Core.Bool.{false, not}
use mathlib.Core.List.{[], ◌∷◌, ◌++◌}
use native.Mathlib.Omega.{arith}
use lib.Dec.{eqb}
use borrow.Author.Tests.{ne_eqb}
use Rattle.rules.specs.Control.{register_count}
use Rattle.rules.specs.Refusals.{passed, check, answer, ◌>>◌ as ◌>>>◌}
use Rattle.rules.specs.Free.{Free}
use Rattle.rules.proofs.memory.Cases.{eq_or}
use Rattle.rules.specs.Answers.{Done}
use Rattle.directory_rules.specs.Table.{Table, Make, among, is_number, unknown, already, with_groups, table_next}
use Rattle.directory_rules.specs.Acts.{Act, store, must, ◌>>=◌, ◌>>◌}
use Rattle.directory_rules.specs.Directory.{group_entry, absent, fresh, link, making, plainly, group_registers, program, group_mark, group_register, next_field, other_of}
use Rattle.directory_rules.specs.declared.Place.{Place}
use Rattle.directory_rules.specs.declared.Via.{Via}
use Rattle.directory_rules.proofs.free.Session.{reg, Ready, OnlyRegs}
use Rattle.directory_rules.proofs.free.Slots.{Slot, top, field, held, slot_of, slot_after, written, grow, new_place, There}
use Rattle.directory_rules.proofs.free.Registers.{only_held, only_there}
use Rattle.directory_rules.proofs.free.Held.{grow_there, written_there}
use Rattle.directory_rules.proofs.free.Commute.{only_written, written_reg, written_ready}
use Rattle.directory_rules.proofs.free.Grown.{grown, grown_only, grown_ready, grown-at, grown_other}
use Rattle.directory_rules.proofs.free.Perform.{free_ask, free_perform}
use Rattle.directory_rules.proofs.free.Must.{must-done}
use Rattle.directory_rules.proofs.free.Steps.{store_step, link-step, fresh_grows, fresh-refused}
use Rattle.directory_rules.proofs.free.Sequence.{then_passed, then_refused}
use Rattle.directory_rules.proofs.chains.Core.{entry_label, Layout, Short, Represents, with_group}
use Rattle.directory_rules.proofs.chains.Entries.{entries_there}
use Rattle.directory_rules.proofs.chains.Registers.{core_regs}
use Rattle.directory_rules.proofs.chains.New.{new_grow, new_there, stays_new}
use Rattle.directory_rules.proofs.chains.Growing.{core_group}
use Rattle.directory_rules.proofs.walks.Walked.{Walked, place_of}
use Rattle.directory_rules.proofs.walks.Slots.{entry_slot}
use Rattle.directory_rules.proofs.calls.Kept.{RequestKept, Within, within_ready, within_regs}
use Rattle.directory_rules.proofs.calls.Alike.{refuse, pass, alike_demand, alike_absent}
use Rattle.directory_rules.proofs.calls.Around.{Carries, alike_plainly, around}
use Rattle.directory_rules.proofs.calls.Found.{entries-walked, group-found, groups-passed}

-- the act behind the walk: a new group that names what comes after it, and is named by what comes before it
abbrev naming : ℕ → Via → Act (Unit {0})
naming at via = must (store group_register next_field at) >> link at via group_register

abbrev new_group : ℕ → ℕ → Via → Act (Unit {0})
new_group g at via = fresh group_register 2 (group_mark + g) >> naming at via

-- behind a walk that stopped behind the last group
module _ {m : ℕ} (many : group_register < m) (few : m ≤ register_count) {f : Free} {y : Layout} {t : Table} (within : Within m f y t) (g at : ℕ) (via : Via) (low : at ≤ 1)
    (new : among g t.groups ≡ false) (slot : slot_of f at via ≡ slot_after top y.groups) (next : reg f at ≡ held f (slot_after top y.groups)) where
  abbrev word : ℕ
  word = group_mark + g

  abbrev end : Slot
  end = slot_after top y.groups

  abbrev own : Slot
  own = field (new_place f) next_field

  ready : Ready f
  ready = within_ready within

  -- the stores after each store call
  abbrev first : Free
  first = grown ready group_register 2 word

  abbrev second : Free
  second = written first own (held f end)

  abbrev third : Free
  third = written second end (new_place f)

  first_only : OnlyRegs m (grow f 2 word) first
  first_only = grown_only ready group_register 2 word m many

  first_ready : Ready first
  first_ready = grown_ready ready group_register 2 word (omega arith)

  first_other : (k : ℕ) → k ≢ group_register → reg first k ≡ reg f k
  first_other = grown_other ready group_register 2 word

  own_there : There first own
  own_there = only_there first_only own (new_there (new_grow f 2 word) next_field (omega arith))

  end_there : There second end
  end_there = written_there first own (held f end) end (only_there first_only end (grow_there f 2 word end (entries_there within.core y.groups y.people refl)))

  second_reg : (k : ℕ) → reg second k ≡ reg first k
  second_reg = written_reg first own (held f end)

  named : free_ask 0 first (store group_register next_field at) ≡ record { store = second; reply = answer Done }
  named = store_step 0 first_ready group_register next_field at (omega arith) (omega arith) (grown-at ready group_register 2 word (omega arith)) own_there
      ∙ rw (first_other at (λ e. omega arith), next)

  linked : free_perform 0 second (link at via group_register) ≡ record { store = third; result = passed tt }
  linked = link-step 0 (written_ready first own (held f end) first_ready) at via group_register low (omega arith)
      (entry_slot f second at via y.groups slot (second_reg (other_of at) ∙ first_other (other_of at) (λ e. omega arith)))
      (second_reg group_register ∙ grown-at ready group_register 2 word (omega arith)) end_there

  ends : Within m third (with_group y (new_place f)) (with_groups t (t.groups ++ (g ∷ [])))
  ends = record {
    core = core_regs (only_written (only_written first_only own (held f end)) end (new_place f)) (core_group within.core g new);
    attached = (written_ready second end (new_place f) (written_ready first own (held f end) first_ready)).attached;
    opened = within.opened;
    above = λ k l. written_reg second end (new_place f) k ∙ second_reg k ∙ first_other k (λ e. omega arith) ∙ within.above k l;
  }

  group_ends : (fed : ℕ)
      → Carries m y t (free_perform fed f (new_group g at via)) (check (eqb fed 0) fed >>> passed (with_groups t (t.groups ++ (g ∷ []))))
  group_ends fed = eq_or fed 0
      (λ e. rw e (pass
      (then_passed 0 f (fresh group_register 2 word) (λ x. naming at via) (fresh_grows ready group_register 2 word (omega arith) (omega arith))
      ∙ must-done 0 first (store group_register next_field at) (λ x. link at via group_register) named ∙ linked)
      (record { is = refl; layout = with_group y (new_place f); stays = stays_new y.label (new_place f) entry_label (λ z. omega arith); within = ends })))
      (λ d. rw (ne_eqb fed 0 d)
      (refuse (then_refused fed f (fresh group_register 2 word) (λ x. naming at via) (fresh-refused d ready group_register 2 word (omega arith) (omega arith))) within))

module _ {m half : ℕ} (fed : ℕ) {f : Free} {y : Layout} {t : Table} (many : group_register < m) (few : m ≤ register_count) (short : Short half y)
    (within : Within m f y t) (g : ℕ) where
  abbrev behind : Place → Act (Unit {0})
  behind w = absent w already >> new_group g w.at w.via

  -- behind the walk over the groups
  behind_groups : Walked f top (y.groups ++ y.people) (group_mark + g) group_mark half (free_perform fed f (group_entry half g))
      → Carries m y t (free_perform fed f (group_entry half g >>= behind))
      (check (not (among g t.groups)) already >>> (check (eqb fed 0) fed >>> passed (with_groups t (t.groups ++ (g ∷ [])))))
  behind_groups w =
      let h : Within m w.after y t = within_regs w.regs (omega arith) within in
      let found : w.found ≡ among g t.groups = group-found within.core g w in
      rw (then_passed fed f (group_entry half g) behind w.ended)
      (alike_absent fed h (place_of w) (among g t.groups) already found (new_group g w.at w.via)
      (λ e.
      let s : slot_after top w.xs ≡ slot_after top y.groups = ap (slot_after top) (groups-passed within.core g w e) in
      group_ends many few h g w.at w.via w.low (sym found ∙ e) (w.slot ∙ s)
      (w.here ∙ ap (held f) s ∙ sym (only_held w.regs (slot_after top y.groups))) fed))

  making_alike : Carries m y t (free_perform fed f (making half g))
      (check (is_number g) unknown >>> (check (not (among g t.groups)) already >>> (check (eqb fed 0) fed >>> passed (with_groups t (t.groups ++ (g ∷ []))))))
  unfolding making
  making_alike = alike_demand fed within (is_number g) unknown (group_entry half g >>= behind)
      (λ e. behind_groups (entries-walked fed within short (group_mark + g) group_mark))

pub making-kept : {half : ℕ} (fed : ℕ) {f : Free} {y : Layout} {t : Table} → Represents f y t → Short half y → (g : ℕ)
    → RequestKept half fed f y t (Make g)
unfolding program table_next
making-kept {half} fed {f} r short g =
    around {n = group_registers} fed f (Make g) (omega arith) (plainly (making half g)) r
    (λ h. alike_plainly fed f (making half g) (making_alike fed (omega arith) (omega arith) short h g))
