-- A link or a person less: what named it names the one after it.
use Prim.Native.Nat.{ℕ, ◌+◌, ◌-◌}
use mathlib.Core.Path.{◌≡◌, refl, sym, ◌∙◌}
use mathlib.Core.List.{List, ◌∷◌, ◌++◌, map, append_assoc, Memᴰ}
use native.Mathlib.Omega.{arith}
use Rattle.rules.specs.Free.{Free}
use Rattle.directory_rules.specs.Table.{Table, without, unpair, members_of, with_people, with_pairs}
use Rattle.directory_rules.specs.Directory.{group_mark, next_field, first_field}
use Rattle.directory_rules.proofs.tables.Numbers.{without-place}
use Rattle.directory_rules.proofs.tables.Members.{members-unpair, members-unpair_other}
use Rattle.directory_rules.proofs.tables.Sound.{sound-unpair, sound_unperson}
use Rattle.directory_rules.proofs.free.Slots.{top, field, held, written, number_at, slot_after}
use Rattle.directory_rules.proofs.chains.Chain.{Chain}
use Rattle.directory_rules.proofs.chains.Core.{entry_label, Layout, Core, with_links, with_places}
use Rattle.directory_rules.proofs.chains.Labels.{entries_root, of_after}
use Rattle.directory_rules.proofs.chains.Entries.{top_there, first_there, group_links, group_root, group_words}
use Rattle.directory_rules.proofs.chains.Written.{written_cut, written_old, core_entries, core_links}

module _ {f : Free} {y : Layout} {t : Table} (c : Core f y t) where
  pub core_unlink : (n g q l : ℕ) (xs ys : List ℕ) → Memᴰ q y.groups → number_at f q ≡ group_mark + g
      → y.links q ≡ xs ++ (l ∷ ys) → number_at f l ≡ n
      → Core (written f (slot_after (field q first_field) xs) (held f (field l next_field))) (with_links y q (xs ++ ys)) (with_pairs t (unpair n g t.pairs))
  core_unlink n g q l xs ys i e split number =
      let h = c.linked q i in
      let is : number_at f q - group_mark ≡ g = omega arith in
      let chain = rw split at h.chain in
      let words : map (number_at f) (xs ++ (l ∷ ys)) ≡ members_of g t.pairs = rw split at (group_words c i g e) in
      core_links c i (of_after xs (l ∷ ys) chain) (held f (field l next_field)) (unpair n g t.pairs) (sound-unpair c.sound n g)
      (written_cut c (group_root c i) (first_there c i) xs l ys chain)
      (rw is (without-place (number_at f) n l xs ys (members_of g t.pairs) words number (c.sound.members g) ∙ sym (members-unpair n g t.pairs)))
      (λ k d. members-unpair_other n g k t.pairs (λ z. d (z ∙ sym is)))

  pub core_unperson : (n q : ℕ) (xs ys : List ℕ) → y.people ≡ xs ++ (q ∷ ys) → number_at f q ≡ n
      → Core (written f (slot_after top (y.groups ++ xs)) (held f (field q next_field))) (with_places y (xs ++ ys)) (with_people t (without n t.people))
  core_unperson n q xs ys split number =
      let chain : Chain f y.label entry_label top ((y.groups ++ xs) ++ (q ∷ ys)) = rw append_assoc (rw split at c.entries) in
      let o = of_after (y.groups ++ xs) (q ∷ ys) chain in
      let v = held f (field q next_field) in
      core_entries c o v (sound_unperson c.sound n)
      (rw append_assoc at (written_cut c entries_root (top_there c) (y.groups ++ xs) q ys chain))
      c.groups
      (without-place (number_at f) n q xs ys t.people (rw split at c.people) number c.sound.people)
      (λ x m. written_old c entries_root o v t.pairs x m (group_links c m) refl refl)
