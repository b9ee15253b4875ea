-- The person whom remove found: what named it is kept while it leaves its groups, and then names the one after it.
use Prim.Native.Nat.{ℕ, ◌≤◌, ◌<◌}
use mathlib.Core.Path.{◌≡◌, refl, ap, ◌∙◌}
use mathlib.Core.List.{List}
use native.Mathlib.Omega.{arith}
use Rattle.rules.specs.Refusals.{passed}
use Rattle.rules.specs.Free.{Free}
use Rattle.directory_rules.specs.Acts.{Act, move, get, load, store, put, must, ◌>>◌, Performed}
use Rattle.directory_rules.specs.Directory.{keep_before, link_person, other_of, next_field, group_register, before_register, person_register}
use Rattle.directory_rules.specs.declared.Via.{Via}
use Rattle.directory_rules.specs.declared.Via.TheVariants.{Next, First, Top}
use Rattle.directory_rules.proofs.free.Perform.{free_perform}
use Rattle.directory_rules.proofs.free.Session.{reg, set_reg, Ready, OnlyRegs}
use Rattle.directory_rules.proofs.free.Registers.{reg_same, reg_held, reg_other, set_only, only_same, only_more, only_then, only_ready, only_there}
use Rattle.directory_rules.proofs.free.Must.{must-done, must_last}
use Rattle.directory_rules.proofs.free.Sequence.{then_passed}
use Rattle.directory_rules.proofs.free.Steps.{move_step, get-step, store_step, put_step}
use Rattle.directory_rules.proofs.free.Slots.{Slot, top, field, held, written, slot_after, slot_of, There}
use Rattle.directory_rules.proofs.chains.Core.{Good}
use Rattle.directory_rules.proofs.walks.Reading.{loads_next}
use Rattle.directory_rules.proofs.free.Commute.{only_written}
use Rattle.directory_rules.proofs.walks.Slots.{never_first}

-- what names the person: the next field of the entry before it, in its register, or the global
pub data Before (f : Free) (sl : Slot) : Via → Type 0 where
  by_next : field (reg f before_register) next_field ≡ sl → Before f sl Next
  by_top : top ≡ sl → Before f sl Top

pub before_same : {f g : Free} {sl : Slot} {via : Via} → reg g before_register ≡ reg f before_register → Before f sl via → Before g sl via
before_same i (by_next e) = by_next (ap (λ (q : ℕ). field q next_field) i ∙ e)
before_same i (by_top e) = by_top e

-- ---- before the groups

record KeptBefore (f : Free) (sl : Slot) (at : ℕ) (via : Via) (p : Performed Free (Unit {0})) : Type 0 where
  after : Free
  ended : p ≡ record { store = after; result = passed tt }
  regs : OnlyRegs 4 f after
  here : reg after at ≡ reg f at
  before : Before after sl via

keeps_before : (fed : ℕ) {f : Free} → Ready f → (at : ℕ) (via : Via) → at ≤ 1 → (xs : List ℕ) → slot_of f at via ≡ slot_after top xs
    → KeptBefore f (slot_after top xs) at via (free_perform fed f (keep_before at via))
keeps_before fed {f} ready at Next low xs slot =
    let v = reg f (other_of at) in
    record {
      after = set_reg f before_register v;
      ended = must_last fed f (move before_register (other_of at)) (move_step fed ready before_register (other_of at) (omega arith) (omega arith));
      regs = set_only f before_register v ready.shaped 4 (omega arith);
      here = reg_other f before_register v ready.shaped at (λ e. omega arith);
      before = by_next (ap (λ (q : ℕ). field q next_field) (reg_same f before_register v ready.shaped (omega arith)) ∙ slot);
    }
keeps_before fed {f} ready at First low xs slot = absurd (never_first (reg f group_register) xs slot)
keeps_before fed {f} ready at Top low xs slot = record { after = f; ended = refl; regs = only_same 4 f; here = refl; before = by_top slot }

-- the person at hand and what names it kept, and the first entry in the group's register
pub record Begun (fed : ℕ) (r : ℕ) (f : Free) (sl : Slot) (at : ℕ) (via : Via) : Type 0 where
  pub after : Free
  pub steps : (b : Act (Unit {0}))
      → free_perform fed f (keep_before at via >> (must (move person_register at) >> (must (get group_register) >> b))) ≡ free_perform fed after b
  pub regs : OnlyRegs r f after
  pub group : reg after group_register ≡ held after top
  pub person : reg after person_register ≡ reg f at
  pub before : Before after sl via

pub begun : (fed : ℕ) {r : ℕ} → person_register < r → {f : Free} → Ready f → (at : ℕ) (via : Via) → at ≤ 1 → (xs : List ℕ) → slot_of f at via ≡ slot_after top xs
    → Begun fed r f (slot_after top xs) at via
begun fed {r} many {f} ready at via low xs slot =
    let k = keeps_before fed ready at via low xs slot in
    let g = k.after in
    let rg : Ready g = only_ready k.regs ready in
    let v = reg g at in
    let h = set_reg g person_register v in
    let oh : OnlyRegs r g h = set_only g person_register v rg.shaped r many in
    let rh : Ready h = only_ready oh rg in
    let u = held h top in
    let j = set_reg h group_register u in
    let oj : OnlyRegs r h j = set_only h group_register u rh.shaped r (omega arith) in
    record {
      after = j;
      steps = λ b. then_passed fed f (keep_before at via) (λ x. must (move person_register at) >> (must (get group_register) >> b)) k.ended
          ∙ must-done fed g (move person_register at) (λ x. must (get group_register) >> b) (move_step fed rg person_register at (omega arith) (omega arith))
          ∙ must-done fed h (get group_register) (λ x. b) (get-step fed rh group_register (omega arith));
      regs = only_then (only_more (omega arith) k.regs) (only_then oh oj);
      group = reg_held rh.shaped group_register top (omega arith);
      person = reg_other h group_register u rh.shaped person_register (λ e. omega arith) ∙ reg_same g person_register v rg.shaped (omega arith) ∙ k.here;
      before = before_same (reg_other h group_register u rh.shaped before_register (λ e. omega arith) ∙ reg_other g person_register v rg.shaped before_register (λ e. omega arith)) k.before;
    }

-- ---- after the groups

person_links : (fed : ℕ) {f : Free} → Ready f → {sl : Slot} {via : Via} → Before f sl via → There f sl
    → free_perform fed f (link_person via) ≡ record { store = written f sl (reg f person_register); result = passed tt }
person_links fed {f} ready (by_next e) w =
    must_last fed f (store before_register next_field person_register)
    (store_step fed ready before_register next_field person_register (omega arith) (omega arith) refl (rw (← e) at w))
    ∙ ap (λ (sl : Slot). record { store = written f sl (reg f person_register); result = passed tt }) e
person_links fed {f} ready (by_top e) w =
    must_last fed f (put person_register) (put_step fed ready person_register (omega arith))
    ∙ ap (λ (sl : Slot). record { store = written f sl (reg f person_register); result = passed tt }) e

-- an act that wrote v to a slot; the first r registers may differ too
pub record Writes (r : ℕ) (f : Free) (sl : Slot) (v : ℕ) (p : Performed Free (Unit {0})) : Type 0 where
  pub after : Free
  pub ended : p ≡ record { store = after; result = passed tt }
  pub regs : OnlyRegs r (written f sl v) after

pub person_unnamed : (fed : ℕ) {r : ℕ} → person_register < r → {f : Free} → Ready f → {q : ℕ} → reg f person_register ≡ q → Good f q → {sl : Slot} {via : Via} → Before f sl via → There f sl
    → Writes r f sl (held f (field q next_field)) (free_perform fed f (must (load person_register person_register next_field) >> link_person via))
person_unnamed fed {r} many {f} ready {q} person good {sl} {via} before there =
    let v = held f (field q next_field) in
    let g = set_reg f person_register v in
    let o : OnlyRegs r f g = set_only f person_register v ready.shaped r many in
    record {
      after = written g sl v;
      ended = loads_next fed ready person_register (omega arith) person good person_register (λ x. link_person via) (omega arith)
          ∙ person_links fed (only_ready o ready) (before_same (reg_other f person_register v ready.shaped before_register (λ e. omega arith)) before) (only_there o sl there)
          ∙ ap (λ (x : ℕ). record { store = written g sl x; result = passed tt }) (reg_same f person_register v ready.shaped (omega arith));
      regs = only_written o sl v;
    }
