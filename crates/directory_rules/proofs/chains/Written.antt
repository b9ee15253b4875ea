-- A write to a slot of a chain: what stays of the others, and the table that the written chain then carries.
use Prim.Native.Nat.{ℕ, ◌+◌, ◌-◌}
use mathlib.Core.Path.{◌≡◌, refl, sym, ap, ◌∙◌}
use mathlib.Core.Logic.{◌≢◌}
use mathlib.Core.List.{List, ◌∷◌, ◌++◌, map, Memᴰ}
use native.Mathlib.Omega.{arith}
use borrow.Author.Tests.{eq-eqb, ne_eqb}
use lib.ListN.{get_or}
use Rattle.rules.specs.Free.{Free}
use Rattle.rules.proofs.memory.Cases.{eq_or}
use Rattle.directory_rules.specs.Table.{Table, Pair, members_of, with_pairs}
use Rattle.directory_rules.specs.Directory.{group_mark, next_field, first_field, number_field}
use Rattle.directory_rules.proofs.Lists.{map_same}
use Rattle.directory_rules.proofs.free.Slots.{Slot, top, field, held, written, number_at, slot_after, There}
use Rattle.directory_rules.proofs.free.Held.{Placed, written_plains, held_other, held_same}
use Rattle.directory_rules.proofs.chains.Chain.{Chain}
use Rattle.directory_rules.proofs.chains.Laws.{chain_label, chain_real, chain_frame, chain_insert, chain_cut}
use Rattle.directory_rules.proofs.chains.Core.{entry_label, link_label, SoundStore, Layout, Linked, Core, update_list, with_links}
use Rattle.directory_rules.proofs.chains.Labels.{Root, entries_root, Of, at_begin, at_place, of_after, own-placed, root_place, root_own, away}
use Rattle.directory_rules.proofs.tables.Sound.{SoundTable}
use Rattle.directory_rules.proofs.chains.SoundStore.{sound_written}
use Rattle.directory_rules.proofs.chains.Entries.{of_there, group_links, group_root, group-high, group_one}

-- other entries and links, with the same labels
abbrev pub arranged : Layout → List ℕ → List ℕ → (ℕ → List ℕ) → Layout
arranged y gs ps ls = record { groups = gs; people = ps; links = ls; label = y.label }

-- ---- slot w of the chain from sl with label l now has v

module _ {f : Free} {y : Layout} {t : Table} (c : Core f y t) {sl w : Slot} {l : ℕ} (r : Root y.label sl l) (o : Of y.label sl l w) (v : ℕ) where
  written_sound : SoundStore (written f w v) y.label
  written_sound = sound_written c.store w (root_own r o) v

  pub written_kept : (s : Slot) → Placed s → s ≢ w → held (written f w v) s ≡ held f s
  written_kept = held_other f w v (own-placed c.store.own w (root_own r o))

  written_number : (q : ℕ) → number_at (written f w v) q ≡ number_at f q
  written_number q = ap (λ x. get_or x number_field 0) (written_plains f w v q)

  written_words : (qs : List ℕ) → map (number_at (written f w v)) qs ≡ map (number_at f) qs
  written_words qs = map_same qs (λ q m. written_number q)

  -- a chain with another label
  written_chain : {s : Slot} {k : ℕ} {qs : List ℕ} → Root y.label s k → k ≢ l → Chain f y.label k s qs → Chain (written f w v) y.label k s qs
  written_chain {s} a d h =
      chain_frame h (written_kept s (own-placed c.store.own s (root_own a at_begin)) (away a r d at_begin o))
      (λ q m. written_kept (field q next_field) (chain_real h m) (away a r d (at_place (chain_label h m)) o))
      (λ q m. chain_label h m)

  -- the links of a group
  pub written_linked : {gs ps : List ℕ} {ls : ℕ → List ℕ} (pairs : List Pair) (q : ℕ) (qs : List ℕ) → ls q ≡ qs
      → Chain (written f w v) y.label (link_label q) (field q first_field) qs
      → map (number_at f) qs ≡ members_of (number_at f q - group_mark) pairs → Linked (written f w v) (arranged y gs ps ls) pairs q
  written_linked pairs q qs e chain words =
      record { chain = rw e chain; words = rw (e, written_number q) (written_words qs ∙ words) }

  -- those of a group whose chain isn't written
  pub written_old : {gs ps : List ℕ} {ls : ℕ → List ℕ} (pairs : List Pair) (q : ℕ) → Memᴰ q y.groups → link_label q ≢ l → ls q ≡ y.links q
      → members_of (number_at f q - group_mark) pairs ≡ members_of (number_at f q - group_mark) t.pairs → Linked (written f w v) (arranged y gs ps ls) pairs q
  written_old pairs q m d e s =
      let h = c.linked q m in
      written_linked pairs q (y.links q) e (written_chain (group_root c m) d h.chain) (h.words ∙ sym s)

-- ---- the written chain

module _ {f : Free} {y : Layout} {t : Table} (c : Core f y t) {sl : Slot} {l : ℕ} (r : Root y.label sl l) (h : There f sl) where
  begin_placed : Placed sl
  begin_placed = own-placed c.store.own sl (root_own r at_begin)

  -- with a place more
  pub written_insert : (xs ys : List ℕ) (p : ℕ) → Chain f y.label l sl (xs ++ ys) → y.label p ≡ l → field p next_field ≢ slot_after sl xs
      → held f (field p next_field) ≡ held f (slot_after sl xs) → Chain (written f (slot_after sl xs) p) y.label l sl (xs ++ (p ∷ ys))
  written_insert xs ys p d b n e =
      let w = slot_after sl xs in
      let o = of_after xs ys d in
      chain_insert w (written_kept c r o p) xs ys begin_placed d refl (own-placed c.store.own (field p next_field) (root_place r p b)) b n e
      (held_same f w p (of_there c r h o))

  -- with a place less
  pub written_cut : (xs : List ℕ) (q : ℕ) (ys : List ℕ) → Chain f y.label l sl (xs ++ (q ∷ ys))
      → Chain (written f (slot_after sl xs) (held f (field q next_field))) y.label l sl (xs ++ ys)
  written_cut xs q ys d =
      let w = slot_after sl xs in
      let v = held f (field q next_field) in
      let o = of_after xs (q ∷ ys) d in
      chain_cut w (written_kept c r o v) xs q ys begin_placed d refl (held_same f w v (of_there c r h o))

-- ---- the entries written

pub core_entries : {f : Free} {y : Layout} {t : Table} → Core f y t → {w : Slot} → Of y.label top entry_label w → (v : ℕ)
    → {gs ps : List ℕ} {ls : ℕ → List ℕ} {u : Table} → SoundTable u → Chain (written f w v) y.label entry_label top (gs ++ ps)
    → map (number_at f) gs ≡ map (λ g. group_mark + g) u.groups → map (number_at f) ps ≡ u.people
    → ((q : ℕ) → Memᴰ q gs → Linked (written f w v) (arranged y gs ps ls) u.pairs q)
    → Core (written f w v) (arranged y gs ps ls) u
core_entries c o v {gs} {ps} s chain groups people linked =
    record {
      store = written_sound c entries_root o v;
      sound = s;
      entries = chain;
      groups = written_words c entries_root o v gs ∙ groups;
      people = written_words c entries_root o v ps ∙ people;
      linked = linked;
    }

-- ---- the links of the group at place q written

pub update-at : (m : ℕ → List ℕ) (q : ℕ) (qs : List ℕ) → update_list m q qs q ≡ qs
update-at m q qs = rw (eq-eqb q q refl)

pub update_else : (m : ℕ → List ℕ) (q x : ℕ) (qs : List ℕ) → x ≢ q → update_list m q qs x ≡ m x
update_else m q x qs d = rw (ne_eqb x q d)

pub core_links : {f : Free} {y : Layout} {t : Table} → Core f y t → {q : ℕ} → Memᴰ q y.groups → {w : Slot} → Of y.label (field q first_field) (link_label q) w → (v : ℕ)
    → {qs : List ℕ} (pairs : List Pair) → SoundTable (with_pairs t pairs) → Chain (written f w v) y.label (link_label q) (field q first_field) qs
    → map (number_at f) qs ≡ members_of (number_at f q - group_mark) pairs
    → ((g : ℕ) → g ≢ number_at f q - group_mark → members_of g pairs ≡ members_of g t.pairs)
    → Core (written f w v) (with_links y q qs) (with_pairs t pairs)
core_links {f} {y} {t} c {q} i {w} o v {qs} pairs s chain words others =
    let r = group_root c i in
    record {
      store = written_sound c r o v;
      sound = s;
      entries = written_chain c r o v entries_root (λ e. group_links c i (sym e)) c.entries;
      groups = written_words c r o v y.groups ∙ c.groups;
      people = written_words c r o v y.people ∙ c.people;
      linked = λ x m. eq_or x q
          (λ e. rw e (written_linked c r o v pairs q qs (update-at y.links q qs) chain words))
          (λ d. written_old c r o v pairs x m (λ e. d (omega arith)) (update_else y.links q x qs d) (others (number_at f x - group_mark) (λ e. d (same-group x m e))));
    }
  where
    same-group : (x : ℕ) → Memᴰ x y.groups → number_at f x - group_mark ≡ number_at f q - group_mark → x ≡ q
    same-group x m e = group_one c i m (omega (arith, group-high c m, group-high c i))
