-- List: the members of a group are counted, and as many as fit are written.
use Prim.Native.Nat.{ℕ, zero, suc, ◌≤◌, ◌<◌}
use mathlib.Core.Path.{◌≡◌, refl, ap, ◌∙◌}
use mathlib.Core.Bool.{Bool, true, false, cond}
use mathlib.Core.List.{List, ◌++◌, map, Memᴰ}
use native.Mathlib.Nat.{zero-add}
use native.Mathlib.Omega.{arith}
use lib.Dec.{leb}
use lib.ListN.{length, take, drop, length-map, drop_of_length-le}
use lib.Seq.{take_all, take-length, drop-length, length-take-le}
use borrow.Author.Tests.{leb-true, leb-false}
use Rattle.rules.specs.Control.{register_count}
use Rattle.rules.specs.Refusals.{passed, check, ◌>>◌ as ◌>>>◌}
use Rattle.rules.specs.Free.{Free}
use Rattle.directory_rules.specs.Table.{Table, Given, Members, among, members_of, is_number, unknown, listed, given_by, table_next}
use Rattle.directory_rules.specs.Acts.{Act, give, load, must, ◌>>=◌, ◌>>◌}
use Rattle.directory_rules.specs.Directory.{grouping, counting, taking, taking_first, least, listing, group_registers, program, group_register, first_field}
use Rattle.directory_rules.specs.declared.Place.{Place}
use Rattle.directory_rules.proofs.Lists.{map_same, map-take}
use Rattle.directory_rules.proofs.free.Perform.{free_perform}
use Rattle.directory_rules.proofs.free.Session.{reg, set_reg, OnlyRegs}
use Rattle.directory_rules.proofs.free.Registers.{reg_held, set_only, only_same, only_then, only_number}
use Rattle.directory_rules.proofs.free.Must.{must-done}
use Rattle.directory_rules.proofs.free.Steps.{load_step}
use Rattle.directory_rules.proofs.free.Sequence.{then_passed}
use Rattle.directory_rules.proofs.free.Slots.{field, held, number_at}
use Rattle.directory_rules.proofs.chains.Core.{Layout, Short, Represents, link_label}
use Rattle.directory_rules.proofs.chains.Entries.{first_there, group_words}
use Rattle.directory_rules.proofs.walks.Count.{Gave, counting-counts, taking_takes}
use Rattle.directory_rules.proofs.calls.Kept.{RequestKept, Within, within_ready, within_regs}
use Rattle.directory_rules.proofs.calls.Alike.{Alike, pass, alike_then, alike_demand}
use Rattle.directory_rules.proofs.calls.Around.{Result, around}
use Rattle.directory_rules.proofs.calls.Found.{found_in}
use Rattle.directory_rules.proofs.calls.Pairing.{Grouped, grouping_alike}

-- ---- what is written

-- the first of some numbers, as many as there is room for
abbrev given_with : ℕ → List ℕ → List ℕ → Given
given_with k xs out = record { number = 0; count = k; words = xs ++ drop (length xs) out }

given-listed : (ms out : List ℕ) → given_with (length ms) (take (least (length ms) (length out)) ms) out ≡ listed ms out
given-listed ms out = go (leb (length ms) (length out)) refl
  where
    go : (b : Bool) → leb (length ms) (length out) ≡ b → given_with (length ms) (take (cond b (length ms) (length out)) ms) out ≡ listed ms out
    go true e =
        let l : length ms ≤ length out = leb-true (length ms) (length out) e in
        rw (take-length ms, take_all (length out) ms l)
    go false e =
        let l : length out ≤ length ms = let b = leb-false (length ms) (length out) e in omega arith in
        rw (length-take-le (length out) ms l, drop-length out, drop_of_length-le out l)

given-words : (h : ℕ → ℕ) (qs ms out : List ℕ) → map h qs ≡ ms
    → given_with (length qs) (map h (take (least (length qs) (length out)) qs)) out ≡ listed ms out
given-words h qs ms out e = rw (map-take, ← (length-map qs h), e) (given-listed ms out)

least_first : (a b : ℕ) → least a b ≤ a
least_first a b = go (leb a b) refl
  where
    go : (c : Bool) → leb a b ≡ c → cond c a b ≤ a
    go true e = omega arith
    go false e = let l = leb-false a b e in omega arith

-- ---- the walks

-- the first link of the group at place q in register 0
abbrev with_first : ℕ → Free → Free
with_first q f = set_reg f 0 (held f (field q first_field))

module _ {m half : ℕ} (fed : ℕ) (many : group_register < m) {y : Layout} {t : Table} (short : Short half y) (q : ℕ) (member : Memᴰ q y.groups)
    {f : Free} (within : Within m f y t) (own : reg f group_register ≡ q) where
  first_only : OnlyRegs 1 f (with_first q f)
  first_only = set_only f 0 (held f (field q first_field)) within.core.store.shaped 1 (omega arith)

  first-within : Within m (with_first q f) y t
  first-within = within_regs first_only (omega arith) within

  first-here : reg (with_first q f) 0 ≡ held (with_first q f) (field q first_field)
  first-here = reg_held within.core.store.shaped 0 (field q first_field) (omega arith)

  at_first : {B : Type 0} (k : Unit {0} → Act B) → free_perform fed f (must (load 0 group_register first_field) >>= k) ≡ free_perform fed (with_first q f) (k tt)
  at_first k = must-done fed f (load 0 group_register first_field) k
      (load_step fed (within_ready within) 0 group_register first_field (omega arith) (omega arith) own (first_there within.core member))

  counted : Gave (with_first q f) (length (y.links q)) (free_perform fed (with_first q f) (counting half 0))
  counted =
      let h = first-within in
      rw zero-add at (counting-counts fed (within_ready h) h.core.store.own {l = link_label q} (λ z. omega arith) (h.core.linked q member).chain first-here half 0 (short.links q member))

  first_taken : (k : ℕ) → k ≤ length (y.links q) → Gave f (map (number_at f) (take k (y.links q))) (free_perform fed f (taking_first k))
  first_taken zero enough = record { after = f; ended = refl; regs = only_same 1 f }
  first_taken (suc k) enough =
      let h = first-within in
      let w = taking_takes fed (within_ready h) h.core.store.own {l = link_label q} (λ z. omega arith) (h.core.linked q member).chain first-here (suc k) enough in
      record {
        after = w.after;
        ended = at_first (λ u. taking (suc k)) ∙ w.ended
            ∙ ap (λ (l : List ℕ). record { store = w.after; result = passed l }) (map_same (take (suc k) (y.links q)) (λ x m. only_number first_only x));
        regs = only_then first_only w.regs;
      }

abbrev taking_for : List ℕ → ℕ → Act Given
taking_for out k = taking_first (least k (length out)) >>= λ xs. give (given_with k xs out)

abbrev listing_for : ℕ → List ℕ → Act Given
listing_for half out = must (load 0 group_register first_field) >> (counting half 0 >>= taking_for out)

module _ {m half : ℕ} (fed : ℕ) (many : group_register < m) {y : Layout} {t : Table} (short : Short half y) (g : ℕ) (out : List ℕ)
    (h : Free) (x : Place) (u : Unit {0}) (r : Grouped m half y t g h x u) where
  abbrev q : ℕ
  q = r.group.record_at

  abbrev size : ℕ
  size = length (y.links q)

  member : Memᴰ q y.groups
  member = found_in r.group

  all_listed : (c : Gave (with_first q h) size (free_perform fed (with_first q h) (counting half 0)))
      → Alike m y t (Result y (given_by (Members g out)) m) (free_perform fed h (listing_for half out)) (passed t)
  all_listed c =
      let o : OnlyRegs 1 h c.after = only_then (first_only fed many short q member r.within r.own) c.regs in
      let k : Within m c.after y t = within_regs o (omega arith) r.within in
      let w = first_taken fed many short q member k (o.above group_register (omega arith) ∙ r.own) (least size (length out)) (least_first size (length out)) in
      pass
      (at_first fed many short q member r.within r.own (λ u. counting half 0 >>= taking_for out)
      ∙ then_passed fed (with_first q h) (counting half 0) (taking_for out) c.ended
      ∙ then_passed fed c.after (taking_first (least size (length out))) (λ xs. give (given_with size xs out)) w.ended)
      (record {
        is = given-words (number_at c.after) (y.links q) (members_of g t.pairs) out (group_words k.core member g (only_number o q ∙ r.group.number));
        layout = y;
        stays = λ q o. o;
        within = within_regs w.regs (omega arith) k;
      })

  behind_group : Alike m y t (Result y (given_by (Members g out)) m) (free_perform fed h (listing_for half out)) (passed t)
  behind_group = all_listed (counted fed many short q member r.within r.own)

listing_alike : {m half : ℕ} (fed : ℕ) → group_register < m → m ≤ register_count → {f : Free} {y : Layout} {t : Table} → Short half y → Within m f y t → (g : ℕ) (out : List ℕ)
    → Alike m y t (Result y (given_by (Members g out)) m) (free_perform fed f (listing half g out))
    (check (is_number g) unknown >>> (check (among g t.groups) unknown >>> passed t))
unfolding listing
listing_alike {half = half} fed many few {f} short within g out =
    alike_demand fed within (is_number g) unknown (grouping half g >>= λ w. listing_for half out)
    (λ e. alike_then fed f (grouping half g) (λ w. listing_for half out) (grouping_alike fed many few short within g) (behind_group fed many short g out))

pub listing-kept : {half : ℕ} (fed : ℕ) {f : Free} {y : Layout} {t : Table} → Represents f y t → Short half y → (g : ℕ) (out : List ℕ)
    → RequestKept half fed f y t (Members g out)
unfolding program table_next
listing-kept {half} fed {f} r short g out =
    around {n = group_registers} fed f (Members g out) (omega arith) (listing half g out) r (λ h. listing_alike fed (omega arith) (omega arith) short h g out)
