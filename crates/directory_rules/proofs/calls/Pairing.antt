-- The group of a call in its register, and where the person stands among its members: shared by join, leave and list.
use Prim.Native.Nat.{ℕ, ◌+◌, ◌-◌, ◌≤◌, ◌<◌}
use mathlib.Core.Path.{◌≡◌, refl, sym, ap, ◌∙◌}
use mathlib.Core.Logic.{◌≢◌}
use mathlib.Core.Bool.{Bool, true, false, ◌&&◌}
use mathlib.Core.List.Memᴰ
use mathlib.Core.List.{List, ◌∷◌, ◌++◌, Memᴰ, append_assoc}
use native.Mathlib.Omega.{arith}
use lib.ListN.{length, length-append}
use borrow.Author.Tests.{leb-true}
use Rattle.rules.specs.Control.{register_count}
use Rattle.rules.specs.Refusals.{Tested, check, ◌>>◌ as ◌>>>◌}
use Rattle.rules.specs.Free.{Free}
use Rattle.rules.proofs.Ranges.{both}
use Rattle.directory_rules.specs.Table.{Table, among, is_number, last_number, unknown, known, not_open}
use Rattle.directory_rules.specs.Acts.{Act, give, move, must, ◌>>=◌, ◌>>◌}
use Rattle.directory_rules.specs.Directory.{seek, group_entry, members, present, grouping, pairing, group_mark, group_register, other_of}
use Rattle.directory_rules.specs.declared.Place.{Place}
use Rattle.directory_rules.proofs.free.Session.{reg, set_reg, OnlyRegs}
use Rattle.directory_rules.proofs.free.Slots.{top, held, number_at, slot_of, slot_after}
use Rattle.directory_rules.proofs.free.Registers.{reg_same, reg_other, only_set, only_more, only_held, only_number}
use Rattle.directory_rules.proofs.free.Perform.{free_perform}
use Rattle.directory_rules.proofs.free.Must.{must-done}
use Rattle.directory_rules.proofs.free.Steps.{move_step}
use Rattle.directory_rules.proofs.free.Sequence.{then_passed}
use Rattle.directory_rules.proofs.chains.Chain.{Chain}
use Rattle.directory_rules.proofs.chains.Laws.{chain_first, chain_rest}
use Rattle.directory_rules.proofs.chains.Core.{Layout, Core, Short, entry_label}
use Rattle.directory_rules.proofs.chains.Entries.{group-high}
use Rattle.directory_rules.proofs.walks.Walked.{Walked, place_of}
use Rattle.directory_rules.proofs.walks.Slots.{entry_slot}
use Rattle.directory_rules.proofs.walks.Seek.{seek_walks}
use Rattle.directory_rules.proofs.calls.Kept.{Within, within_ready, within_regs}
use Rattle.directory_rules.proofs.calls.Alike.{Alike, pass, alike_then, alike_demand, alike_present, alike_last}
use Rattle.directory_rules.proofs.calls.Found.{FoundAt, found_in, entries-walked, group-found, group_there, person-found}
use Rattle.directory_rules.proofs.calls.Members.{MemberAt, members-sought}

-- ---- the group

-- it is in its register, and the walk over the entries stands there
pub record Grouped (m half : ℕ) (y : Layout) (t : Table) (g : ℕ) (h : Free) (x : Place) (u : Unit {0}) : Type 0 where
  pub before : List ℕ
  pub group : FoundAt h (group_mark + g) y.groups before
  pub within : Within m h y t
  pub own : reg h group_register ≡ group.record_at
  pub low : x.at ≤ 1
  pub slot : slot_of h x.at x.via ≡ slot_after top before
  pub at_hand : reg h x.at ≡ held h (slot_after top before)
  pub left : x.left ≡ half - length before

-- the chain from a group on
entries_from : {f : Free} {y : Layout} {t : Table} {key : ℕ} {before : List ℕ} → Core f y t → (x : FoundAt f key y.groups before)
    → Chain f y.label entry_label (slot_after top before) (x.record_at ∷ (x.rest ++ y.people))
entries_from {y = y} {before = before} c x = chain_rest before (x.record_at ∷ (x.rest ++ y.people)) (rw (x.split, append_assoc) at c.entries)

module _ {m half : ℕ} (fed : ℕ) (many : group_register < m) (few : m ≤ register_count) {f : Free} {y : Layout} {t : Table} (short : Short half y) (within : Within m f y t) (g : ℕ) where
  abbrev keeping : Place → Act Place
  keeping w = present w unknown >> (must (move group_register w.at) >> give w)

  module _ (w : Walked f top (y.groups ++ y.people) (group_mark + g) group_mark half (free_perform fed f (group_entry half g))) where
    abbrev kept : Free
    kept = set_reg w.after group_register (reg w.after w.at)

    after-within : Within m w.after y t
    after-within = within_regs w.regs (omega arith) within

    kept_only : OnlyRegs m f kept
    kept_only = only_set (only_more (omega arith) w.regs) after-within.core.store.shaped group_register (reg w.after w.at) many

    kept_other : (k : ℕ) → k ≢ group_register → reg kept k ≡ reg w.after k
    kept_other = reg_other w.after group_register (reg w.after w.at) after-within.core.store.shaped

    kept-group : FoundAt f (group_mark + g) y.groups w.xs → Grouped m half y t g kept (place_of w) tt
    kept-group r = record {
      before = w.xs;
      group = record { record_at = r.record_at; rest = r.rest; split = r.split; number = only_number kept_only r.record_at ∙ r.number };
      within = within_regs kept_only (omega arith) within;
      own = reg_same w.after group_register (reg w.after w.at) after-within.core.store.shaped (omega arith)
          ∙ w.here ∙ chain_first (entries_from within.core r);
      low = w.low;
      slot = entry_slot w.after kept w.at w.via w.xs w.slot (kept_other (other_of w.at) (λ e. omega (arith, w.low)));
      at_hand = kept_other w.at (λ e. omega (arith, w.low)) ∙ w.here ∙ sym (only_held kept_only (slot_after top w.xs));
      left = refl;
    }

    behind_groups : Alike m y t (Grouped m half y t g) (free_perform fed f (group_entry half g >>= keeping)) (check (among g t.groups) unknown)
    behind_groups =
        rw (then_passed fed f (group_entry half g) keeping w.ended)
        (alike_last (among g t.groups) unknown
        (alike_present fed after-within (place_of w) (among g t.groups) unknown (group-found within.core g w) (must (move group_register w.at) >> give (place_of w))
        (λ e. pass
        (must-done fed w.after (move group_register w.at) (λ u. give (place_of w))
        (move_step fed (within_ready after-within) group_register w.at (omega arith) (omega (arith, w.low))))
        (kept-group (group_there within.core g w e)))))

  pub grouping_alike : Alike m y t (Grouped m half y t g) (free_perform fed f (grouping half g)) (check (among g t.groups) unknown)
  unfolding grouping
  grouping_alike = behind_groups (entries-walked fed within short (group_mark + g) group_mark)

-- ---- the person

-- the walk over the members of the group stands at the person's link, or at their end
pub record Paired (m : ℕ) (y : Layout) (t : Table) (n g : ℕ) (h : Free) (x : Place) (u : Unit {0}) : Type 0 where
  pub group : ℕ
  pub member : Memᴰ group y.groups
  pub number : number_at h group ≡ group_mark + g
  pub small : n ≤ last_number
  pub within : Within m h y t
  pub at : MemberAt h n group (y.links group) x

abbrev in_group : ℕ → ℕ → Place → Act Place
in_group half n v = present v unknown >> members half n

abbrev going : ℕ → ℕ → Place → Act Place
going half n w = seek w.left w.at w.via n 0 >>= in_group half n

left-from : {gs : List ℕ} {half : ℕ} (ps before rest : List ℕ) (q : ℕ) → gs ≡ before ++ (q ∷ rest) → length (gs ++ ps) ≤ half → length (q ∷ (rest ++ ps)) ≤ half - length before
left-from {gs} ps before rest q e l = omega (arith, length-append gs ps, length-append before (q ∷ rest), length-append rest ps, ap length e)

module _ {m half : ℕ} (fed : ℕ) (many : group_register < m) {y : Layout} {t : Table} (short : Short half y) (n g : ℕ) (small : n ≤ last_number)
    (h : Free) (x : Place) (u : Unit {0}) (r : Grouped m half y t g h x u) where
  abbrev ahead : List ℕ
  ahead = r.group.record_at ∷ r.group.rest

  ahead_high : (q : ℕ) → Memᴰ q ahead → group_mark ≤ number_at h q
  ahead_high q i = group-high r.within.core (rw r.group.split (Memᴰ.append_right r.before i))

  behind_people : Walked h (slot_of h x.at x.via) (ahead ++ y.people) n 0 x.left (free_perform fed h (seek x.left x.at x.via n 0))
      → Alike m y t (Paired m y t n g) (free_perform fed h (going half n x)) (check (among n t.people) unknown)
  behind_people w =
      let q = r.group.record_at in
      let k : Within m w.after y t = within_regs w.regs (omega arith) r.within in
      let s = members-sought k (omega arith) fed short n q (found_in r.group) (w.regs.above group_register (omega arith) ∙ r.own) in
      rw (then_passed fed h (seek x.left x.at x.via n 0) (in_group half n) w.ended)
      (alike_last (among n t.people) unknown
      (alike_present fed k (place_of w) (among n t.people) unknown (person-found r.within.core ahead ahead_high small w) (members half n)
      (λ e. pass s.ended
      (record {
        group = q;
        member = found_in r.group;
        number = only_number s.regs q ∙ only_number w.regs q ∙ r.group.number;
        small = small;
        within = s.within;
        at = s.at;
      }))))

  behind_group : Alike m y t (Paired m y t n g) (free_perform fed h (going half n x)) (check (among n t.people) unknown)
  behind_group = behind_people
      (seek_walks fed (within_ready r.within) r.within.core.store.own {l = entry_label} (λ z. omega arith) {qs = ahead ++ y.people} x.left x.at x.via n 0 r.low
      (rw r.slot (entries_from r.within.core r.group))
      (rw r.slot r.at_hand)
      (rw r.left (left-from y.people r.before r.group.rest r.group.record_at r.group.split short.entries)))

-- the table's tests of a pair, but for that of an open directory
abbrev pub pair_tests : Table → ℕ → ℕ → Tested (Unit {0})
pair_tests t n g = check (is_number n && is_number g) unknown >>> (check (among g t.groups) unknown >>> check (among n t.people) unknown)

module _ {m half : ℕ} (fed : ℕ) (many : group_register < m) (few : m ≤ register_count) {f : Free} {y : Layout} {t : Table} (short : Short half y) (within : Within m f y t) (n g : ℕ) where
  pub pairing_alike : Alike m y t (Paired m y t n g) (free_perform fed f (pairing half n g)) (pair_tests t n g)
  unfolding pairing
  pairing_alike = alike_demand fed within (is_number n && is_number g) unknown (grouping half g >>= going half n)
      (λ e. alike_then fed f (grouping half g) (going half n) (grouping_alike fed many few short within g)
      (behind_group fed many short n g (leb-true n last_number (both (is_number n) (is_number g) e).0)))

-- that test first
pub known-first : {B : Type 0} (t : Table) (n g : ℕ) (u : Tested B) → (known t n g >>> u) ≡ (check t.opened not_open >>> (pair_tests t n g >>> u))
unfolding known
known-first {B} t n g u = go t.opened
  where
    go : (b : Bool) → ((check b not_open >>> pair_tests t n g) >>> u) ≡ (check b not_open >>> (pair_tests t n g >>> u))
    go true = refl
    go false = refl
