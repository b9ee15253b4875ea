-- What the chains say of the entries: labels, places and numbers of groups and people, and that all slots are there.
use Prim.Native.Nat.{ℕ, ◌+◌, ◌-◌, ◌≤◌}
use mathlib.Core.Path.{◌≡◌, refl, ap, ◌∙◌}
use mathlib.Core.Logic.{◌≢◌}
use mathlib.Core.List.Memᴰ
use mathlib.Core.List.{List, ◌++◌, map, Memᴰ}
use native.Mathlib.Omega.{arith}
use Rattle.rules.specs.Memory.{null}
use Rattle.rules.specs.Free.{Free}
use Rattle.directory_rules.specs.Table.{Table, among, members_of, last_number}
use Rattle.directory_rules.specs.Directory.{group_mark, first_field}
use Rattle.directory_rules.proofs.tables.Numbers.{among-map, place_of, among_raised, distinct_raised, raised_least}
use Rattle.directory_rules.proofs.free.Slots.{Slot, top, field, number_at, slot_after, There}
use Rattle.directory_rules.proofs.chains.Laws.{chain_label, chain_real}
use Rattle.directory_rules.proofs.chains.Core.{others_label, entry_label, link_label, Good, Layout, Core}
use Rattle.directory_rules.proofs.chains.Labels.{Root, entries_root, links_root, Of, at_begin, at_place, of_after, root_place}
use Rattle.directory_rules.proofs.chains.SoundStore.{refs-group, good_there}

module _ {f : Free} {y : Layout} {t : Table} (c : Core f y t) where
  pub entry-own : {q : ℕ} → Memᴰ q (y.groups ++ y.people) → y.label q ≢ others_label
  entry-own {q} m = root_place {lab = y.label} entries_root q (chain_label c.entries m)

  pub person-low : {q : ℕ} → Memᴰ q y.people → number_at f q ≤ last_number
  person-low {q} m = c.sound.small (number_at f q) (rw (← c.people) (among-map (number_at f) m refl))

  pub groups-among : (g : ℕ) → among (group_mark + g) (map (number_at f) y.groups) ≡ among g t.groups
  groups-among g = ap (among (group_mark + g)) c.groups ∙ among_raised group_mark g t.groups

  pub entry_good : {q : ℕ} → Memᴰ q (y.groups ++ y.people) → Good f q
  entry_good {q} m = c.store.own q (entry-own m)

  -- ---- slots

  -- those of a chain are there
  pub of_there : {sl w : Slot} {l : ℕ} → Root y.label sl l → There f sl → Of y.label sl l w → There f w
  of_there r h at_begin = h
  of_there r h (at_place {q = q} d) = good_there (c.store.own q (root_place r q d))

  pub top_there : There f top
  top_there = let n = c.store.shaped.globals in omega arith

  pub entries_there : (xs ys : List ℕ) → y.groups ++ y.people ≡ xs ++ ys → There f (slot_after top xs)
  entries_there xs ys e = of_there entries_root top_there (of_after xs ys (rw e at c.entries))

  -- ---- a group

  module _ {q : ℕ} (i : Memᴰ q y.groups) where
    pub group-own : y.label q ≢ others_label
    group-own = entry-own (Memᴰ.append_left y.people i)

    pub group_real : q ≢ null
    group_real = chain_real c.entries (Memᴰ.append_left y.people i)

    -- its links aren't entries
    pub group_links : link_label q ≢ entry_label
    group_links e = group_real (omega arith)

    pub group_root : Root y.label (field q first_field) (link_label q)
    group_root = links_root group_real group-own

    pub group-high : group_mark ≤ number_at f q
    group-high = raised_least group_mark (number_at f) y.groups t.groups c.groups i

    -- no other group has its number
    pub group_one : {x : ℕ} → Memᴰ x y.groups → number_at f x ≡ number_at f q → x ≡ q
    group_one m e = place_of (number_at f) y.groups (rw c.groups (distinct_raised group_mark c.sound.groups)) m i e

    -- the words of its links are the numbers of its members
    pub group_words : (g : ℕ) → number_at f q ≡ group_mark + g → map (number_at f) (y.links q) ≡ members_of g t.pairs
    group_words g e = let z : number_at f q - group_mark ≡ g = omega arith in rw z at (c.linked q i).words

    pub first_there : There f (field q first_field)
    first_there =
        let h = c.store.own q group-own in
        let two = h.refs ∙ refs-group group-high in
        (h.some, h.within, omega arith)

    pub links_there : (xs ys : List ℕ) → y.links q ≡ xs ++ ys → There f (slot_after (field q first_field) xs)
    links_there xs ys e = of_there group_root first_there (of_after xs ys (rw e at (c.linked q i).chain))

    pub link_good : {x : ℕ} → Memᴰ x (y.links q) → Good f x
    link_good {x} m = c.store.own x (root_place group_root x (chain_label (c.linked q i).chain m))
