-- A person, a group or a link more: a new record, and the end of its chain naming it.
use Prim.Native.Nat.{ℕ, ◌+◌, ◌-◌, ◌≤◌}
use mathlib.Core.Path.{◌≡◌, refl, sym, ap, ◌∙◌}
use mathlib.Core.Logic.{◌≢◌}
use mathlib.Core.Bool.{false}
use mathlib.Core.List.Memᴰ
use mathlib.Core.List.{List, [], ◌∷◌, ◌++◌, map, map-append, append-nil, append_assoc, Memᴰ}
use native.Mathlib.Omega.{arith}
use lib.ListN.{get_or}
use lib.Seq.{append_snoc}
use Rattle.rules.specs.Memory.{null}
use Rattle.rules.specs.Free.{Free}
use Rattle.rules.specs.Tracking.{update}
use Rattle.rules.proofs.memory.Cases.{either}
use Rattle.directory_rules.specs.Table.{Table, among, members_of, last_number, with_people, with_groups, with_pairs}
use Rattle.directory_rules.specs.Directory.{group_mark, next_field, first_field}
use Rattle.directory_rules.proofs.tables.Numbers.{among-map}
use Rattle.directory_rules.proofs.tables.Members.{members_pair, members_pair_other}
use Rattle.directory_rules.proofs.tables.Sound.{sound-person, sound-group, sound_pair}
use Rattle.directory_rules.proofs.free.Slots.{Slot, top, field, held, written, number_at, slot_after, grow, new_place, There}
use Rattle.directory_rules.proofs.free.Held.{held_same, held_other, grow_new}
use Rattle.directory_rules.proofs.chains.Chain.{Chain, ends}
use Rattle.directory_rules.proofs.chains.Laws.{chain_end, chain_rest}
use Rattle.directory_rules.proofs.chains.Core.{others_label, entry_label, link_label, Layout, Core, with_person, with_group, with_link}
use Rattle.directory_rules.proofs.chains.Labels.{Root, entries_root, of_after, of_end, root_own}
use Rattle.directory_rules.proofs.chains.SoundStore.{refs-low, refs-group}
use Rattle.directory_rules.proofs.chains.Entries.{top_there, first_there, group-own, group_links, group_root, groups-among}
use Rattle.directory_rules.proofs.chains.Frame.{relabelled}
use Rattle.directory_rules.proofs.chains.New.{New, new_grow, new_field, update_new, core_new, new_word, new_there, new_number, new_away, new_held}
use Rattle.directory_rules.proofs.chains.Written.{written_kept, written_insert, written_linked, written_old, core_entries, update-at, update_else, core_links}

module _ {f : Free} {y : Layout} {t : Table} (c : Core f y t) where
  -- ---- a person or a link, at the end of a chain

  module _ (n l : ℕ) (small : n ≤ last_number) (d : l ≢ others_label) where
    core_grown : Core (grow f 1 n) (relabelled y (update y.label (new_place f) l)) t
    core_grown = core_new c (new_grow f 1 n) (sym (refs-low small)) l d

    appended : {sl : Slot} → Root y.label sl l → Root (update y.label (new_place f) l) sl l → There (grow f 1 n) sl → (xs : List ℕ)
        → Chain f y.label l sl xs → Chain (grow f 1 n) (update y.label (new_place f) l) l sl xs
        → Chain (written (grow f 1 n) (slot_after sl xs) (new_place f)) (update y.label (new_place f) l) l sl (xs ++ (new_place f ∷ []))
    appended {sl} r₀ r h xs e₀ e =
        let p = new_place f in
        let whole : Chain (grow f 1 n) (update y.label p l) l sl (xs ++ []) = rw append-nil e in
        written_insert core_grown r h xs [] p whole (update_new y.label p l) (new_away c (new_grow f 1 n) (slot_after sl xs) (root_own r₀ (of_end xs e₀)) next_field)
        (ap (λ x. get_or x.refs next_field null) (grow_new f 1 n) ∙ sym (chain_end (chain_rest xs [] whole)))

  pub core_person : (n : ℕ) → n ≤ last_number → among n t.people ≡ false
      → Core (written (grow f 1 n) (slot_after top (y.groups ++ y.people)) (new_place f)) (with_person y (new_place f)) (with_people t (t.people ++ (n ∷ [])))
  core_person n small new =
      let p = new_place f in
      let d : entry_label ≢ others_label = λ e. omega arith in
      let c₁ = core_grown n entry_label small d in
      let o = of_end (y.groups ++ y.people) c₁.entries in
      core_entries c₁ o p (sound-person c.sound n small new)
      (rw append_assoc at (appended n entry_label small d entries_root entries_root (top_there c₁) (y.groups ++ y.people) c.entries c₁.entries))
      c₁.groups
      (rw (map-append (number_at (grow f 1 n)) y.people (p ∷ []), c₁.people, new_word (new_grow f 1 n)))
      (λ x m. written_old c₁ entries_root o p t.pairs x m (group_links c m) refl refl)

  pub core_link : (n g q : ℕ) → n ≤ last_number → Memᴰ q y.groups → number_at f q ≡ group_mark + g → among n (members_of g t.pairs) ≡ false
      → Core (written (grow f 1 n) (slot_after (field q first_field) (y.links q)) (new_place f)) (with_link y q (new_place f))
      (with_pairs t (t.pairs ++ (record { person = n; group = g } ∷ [])))
  core_link n g q small i e new =
      let p = new_place f in
      let d : link_label q ≢ others_label = λ z. omega arith in
      let c₁ = core_grown n (link_label q) small d in
      let h = c₁.linked q i in
      let same : number_at (grow f 1 n) q ≡ number_at f q = new_number c (new_grow f 1 n) q (group-own c i) in
      let is : number_at (grow f 1 n) q - group_mark ≡ g = omega arith in
      let words : map (number_at (grow f 1 n)) (y.links q) ≡ members_of g t.pairs = rw is at h.words in
      core_links c₁ i (of_end (y.links q) h.chain) p (t.pairs ++ (record { person = n; group = g } ∷ []))
      (sound_pair c.sound n g small (sym (groups-among c g) ∙ among-map (number_at f) i e) new)
      (appended n (link_label q) small d (group_root c i) (group_root c₁ i) (first_there c₁ i) (y.links q) (c.linked q i).chain h.chain)
      (rw (is, map-append (number_at (grow f 1 n)) (y.links q) (p ∷ []), words, new_word (new_grow f 1 n), members_pair n g t.pairs))
      (λ k z. members_pair_other n g t.pairs k (λ a. z (a ∙ sym is)))

  -- ---- a group, between the groups and the people

  module _ (g : ℕ) where
    abbrev made : Free
    made = written (grow f 2 (group_mark + g)) (field (new_place f) next_field) (held f (slot_after top y.groups))

    made_new : New f made 2 (group_mark + g)
    made_new = new_field (new_grow f 2 (group_mark + g)) next_field (held f (slot_after top y.groups))

    made_next : held made (field (new_place f) next_field) ≡ held f (slot_after top y.groups)
    made_next = held_same (grow f 2 (group_mark + g)) (field (new_place f) next_field) _ (new_there (new_grow f 2 (group_mark + g)) next_field (omega arith))

    made_first : held made (field (new_place f) first_field) ≡ null
    made_first =
        held_other (grow f 2 (group_mark + g)) (field (new_place f) next_field) _ (λ e. omega arith) (field (new_place f) first_field) (λ e. omega arith)
        (λ e. let z : first_field ≡ next_field = cc in omega arith)
        ∙ ap (λ x. get_or x.refs first_field null) (grow_new f 2 (group_mark + g))

  pub core_group : (g : ℕ) → among g t.groups ≡ false
      → Core
      (written (written (grow f 2 (group_mark + g)) (field (new_place f) next_field) (held f (slot_after top y.groups))) (slot_after top y.groups) (new_place f))
      (with_group y (new_place f)) (with_groups t (t.groups ++ (g ∷ [])))
  core_group g new =
      let p = new_place f in
      let w = slot_after top y.groups in
      let c₁ : Core (made g) (relabelled y (update y.label p entry_label)) t = core_new c (made_new g) (sym (refs-group {w = group_mark + g} (omega arith))) entry_label (λ e. omega arith) in
      let own = root_own {lab = y.label} entries_root (of_after y.groups y.people c.entries) in
      let o = of_after y.groups y.people c₁.entries in
      let number : number_at (made g) p ≡ group_mark + g = new_word (made_new g) in
      let is : number_at (made g) p - group_mark ≡ g = omega arith in
      core_entries c₁ o p (sound-group c.sound g new)
      (rw append_snoc (written_insert c₁ entries_root (top_there c₁) y.groups y.people p c₁.entries (update_new y.label p entry_label)
      (new_away c (made_new g) w own next_field) (made_next g ∙ sym (new_held c (made_new g) w own))))
      (rw (map-append (number_at (made g)) y.groups (p ∷ []), map-append (λ x. group_mark + x) t.groups (g ∷ []), c₁.groups, number))
      c₁.people
      (λ x m. either (Memᴰ.append_cases y.groups m)
      (λ a. written_old c₁ entries_root o p t.pairs x a (group_links c a)
      (update_else y.links p x [] (λ e. new_away c (made_new g) (field x 0) (group-own c a) 0 (ap (λ z. field z 0) (sym e)))) refl)
      (λ a. rw (Memᴰ.eq_of_singleton a) (written_linked c₁ entries_root o p t.pairs p [] (update-at y.links p [])
      (ends (written_kept c₁ entries_root o p (field p first_field) (λ e. omega arith) (new_away c (made_new g) w own first_field) ∙ made_first g))
      (rw is (sym (c.sound.unknown g new))))))
