-- All records of the chains: they are what the directory reaches, each is there once, and how many words they have.
use Prim.Native.Nat.{ℕ, zero, suc, ◌+◌, ◌-◌, ◌*◌, ◌≤◌}
use mathlib.Core.Path.{◌≡◌, refl, sym, ap, ◌∙◌}
use mathlib.Core.Logic.{◌≢◌}
use mathlib.Core.List.Memᴰ
use mathlib.Core.List.{List, [], ◌∷◌, ◌++◌, map, Memᴰ}
use native.Mathlib.Omega.{arith}
use lib.ListN.{get_or, length, length-append, length-map, get_or-eq_default}
use Rattle.rules.specs.Memory.{null, size_of}
use Rattle.rules.specs.Free.{Free, record_at}
use Rattle.rules.specs.Tracking.{words_at}
use Rattle.rules.proofs.memory.Cases.{either}
use Rattle.rules.proofs.runs.LiveFits.{Once}
use Rattle.directory_rules.specs.Table.{Table, members_of, last_number}
use Rattle.directory_rules.specs.Directory.{group_mark, next_field, first_field}
use Rattle.directory_rules.specs.Holding.{OwnReached, by_register, by_global, by_field, person_words, group_words, link_words, Holds}
use Rattle.directory_rules.proofs.Lists.{once_both}
use Rattle.directory_rules.proofs.tables.Numbers.{Distinct, one_more, true-false, among-map, distinct_raised, lowered}
use Rattle.directory_rules.proofs.tables.Pairs.{member_count, members_total}
use Rattle.directory_rules.proofs.free.Slots.{Slot, field, held, number_at}
use Rattle.directory_rules.proofs.chains.Chain.{Chain, ends, goes}
use Rattle.directory_rules.proofs.chains.Laws.{chain_once, chain_label}
use Rattle.directory_rules.proofs.chains.Core.{others_label, link_label, Layout, Core, Represents}
use Rattle.directory_rules.proofs.chains.Labels.{root_place}
use Rattle.directory_rules.proofs.chains.SoundStore.{refs-low, refs-group}
use Rattle.directory_rules.proofs.chains.Entries.{entry-own, entry_good, person-low, group-high, group_links, group_root, link_good}

-- the links of some groups, one group after the other
abbrev pub all_links : (ℕ → List ℕ) → List ℕ → List ℕ
all_links ls [] = []
all_links ls (g ∷ gs) = ls g ++ all_links ls gs

abbrev pub all_places : Layout → List ℕ
all_places y = (y.groups ++ y.people) ++ all_links y.links y.groups

-- a link, by its group
links_of : (ls : ℕ → List ℕ) (gs : List ℕ) {q : ℕ} → Memᴰ q (all_links ls gs) → {C : Type 0} → ((g : ℕ) → Memᴰ g gs → Memᴰ q (ls g) → C) → C
links_of ls [] m k = absurd (Memᴰ.not-nil m)
links_of ls (g ∷ gs) m k = either (Memᴰ.append_cases (ls g) m) (k g (Memᴰ.head refl)) (λ n. links_of ls gs n (λ h i. k h (Memᴰ.tail i)))

links_in : (ls : ℕ → List ℕ) (gs : List ℕ) {g q : ℕ} → Memᴰ g gs → Memᴰ q (ls g) → Memᴰ q (all_links ls gs)
links_in ls [] i m = absurd (Memᴰ.not-nil i)
links_in ls (h ∷ gs) i m = either (Memᴰ.cases_cons i)
    (λ e. Memᴰ.append_left (all_links ls gs) (rw e at m))
    (λ j. Memᴰ.append_right (ls h) (links_in ls gs j m))

-- ---- along a chain

module _ {f : Free} {lab : ℕ → ℕ} {l : ℕ} where
  -- what its slot names, and what one of its places names, is a place of it
  chain_begin : {sl : Slot} {qs : List ℕ} → Chain f lab l sl qs → held f sl ≢ null → Memᴰ (held f sl) qs
  chain_begin (ends h) some = absurd (some h)
  chain_begin (goes h n b r) some = Memᴰ.head h

  chain_next : {sl : Slot} {qs : List ℕ} → Chain f lab l sl qs → {q : ℕ} → Memᴰ q qs → held f (field q next_field) ≢ null → Memᴰ (held f (field q next_field)) qs
  chain_next (ends h) m some = absurd (Memᴰ.not-nil m)
  chain_next (goes h n b r) m some = Memᴰ.tail (either (Memᴰ.cases_cons m)
      (λ e. rw e (chain_begin r (rw e at some)))
      (λ k. chain_next r k some))

  -- where the directory reaches what its slot names, it reaches all its places
  chain_reached : {sl : Slot} {qs : List ℕ} → Chain f lab l sl qs → (held f sl ≢ null → OwnReached f (held f sl)) → {q : ℕ} → Memᴰ q qs → OwnReached f q
  chain_reached (ends e) r m = absurd (Memᴰ.not-nil m)
  chain_reached (goes {q = p} e n b c) r m =
      let here : OwnReached f p = rw e at (r (λ z. n (sym e ∙ z))) in
      either (Memᴰ.cases_cons m) (λ z. rw z here) (chain_reached c (by_field p next_field here))

-- ---- words

words_both : (f : Free) (xs ys : List ℕ) → words_at f (xs ++ ys) ≡ words_at f xs + words_at f ys
words_both f [] ys = omega arith
words_both f (x ∷ xs) ys = omega (arith, words_both f xs ys)

words_each : (f : Free) (w : ℕ) (qs : List ℕ) → ((q : ℕ) → Memᴰ q qs → size_of (length (record_at f q).refs) (length (record_at f q).plains) ≡ w)
    → words_at f qs ≡ w * length qs
words_each f w [] e = omega arith
words_each f w (q ∷ qs) e = omega (arith, e q (Memᴰ.head refl), words_each f w qs (λ p m. e p (Memᴰ.tail m)))

-- ---- the records of the directory

module _ {f : Free} {y : Layout} {t : Table} (c : Core f y t) where
  -- those of people and links have one reference field, those of groups two
  person-refs : {q : ℕ} → Memᴰ q y.people → length (record_at f q).refs ≡ 1
  person-refs m = (entry_good c (Memᴰ.append_right y.groups m)).refs ∙ refs-low (person-low c m)

  group-refs : {q : ℕ} → Memᴰ q y.groups → length (record_at f q).refs ≡ 2
  group-refs m = (entry_good c (Memᴰ.append_left y.people m)).refs ∙ refs-group (group-high c m)

  link-refs : {g q : ℕ} → Memᴰ g y.groups → Memᴰ q (y.links g) → length (record_at f q).refs ≡ 1
  link-refs {g} {q} i m =
      let n = number_at f g - group_mark in
      let small : number_at f q ≤ last_number = c.sound.low n (number_at f q) (rw (← (c.linked g i).words) (among-map (number_at f) m refl)) in
      (link_good c i m).refs ∙ refs-low small

  -- a field past the last holds nothing
  past : (q i : ℕ) → length (record_at f q).refs ≤ i → get_or (record_at f q).refs i null ≢ null → ⊥
  past q i l some = some (get_or-eq_default (record_at f q).refs null l)

  -- ---- what they name is among them

  in_entries : {q : ℕ} → Memᴰ q (y.groups ++ y.people) → Memᴰ q (all_places y)
  in_entries m = Memᴰ.append_left (all_links y.links y.groups) m

  in_links : {g q : ℕ} → Memᴰ g y.groups → Memᴰ q (y.links g) → Memᴰ q (all_places y)
  in_links i m = Memᴰ.append_right (y.groups ++ y.people) (links_in y.links y.groups i m)

  entry_names : (q i : ℕ) → Memᴰ q (y.groups ++ y.people) → get_or (record_at f q).refs i null ≢ null → Memᴰ (get_or (record_at f q).refs i null) (all_places y)
  entry_names q zero m some = in_entries (chain_next c.entries m some)
  entry_names q (suc zero) m some = either (Memᴰ.append_cases y.groups m)
      (λ g. in_links g (chain_begin (c.linked q g).chain some))
      (λ p. absurd (past q 1 (omega (arith, person-refs p)) some))
  entry_names q (suc (suc i)) m some = either (Memᴰ.append_cases y.groups m)
      (λ g. absurd (past q (suc (suc i)) (omega (arith, group-refs g)) some))
      (λ p. absurd (past q (suc (suc i)) (omega (arith, person-refs p)) some))

  link_names : (g q i : ℕ) → Memᴰ g y.groups → Memᴰ q (y.links g) → get_or (record_at f q).refs i null ≢ null
      → Memᴰ (get_or (record_at f q).refs i null) (all_places y)
  link_names g q zero j m some = in_links j (chain_next (c.linked g j).chain m some)
  link_names g q (suc i) j m some = absurd (past q (suc i) (omega (arith, link-refs j m)) some)

  place_names : (q i : ℕ) → Memᴰ q (all_places y) → get_or (record_at f q).refs i null ≢ null → Memᴰ (get_or (record_at f q).refs i null) (all_places y)
  place_names q i m some = either (Memᴰ.append_cases (y.groups ++ y.people) m)
      (λ e. entry_names q i e some)
      (λ l. links_of y.links y.groups l (λ g j n. link_names g q i j n some))

  -- ---- the directory reaches them

  pub entry-reached : {q : ℕ} → Memᴰ q (y.groups ++ y.people) → OwnReached f q
  entry-reached m = chain_reached c.entries by_global m

  pub link-reached : {g q : ℕ} → Memᴰ g y.groups → Memᴰ q (y.links g) → OwnReached f q
  link-reached {g} i m = chain_reached (c.linked g i).chain (by_field g first_field (entry-reached (Memᴰ.append_left y.people i))) m

  -- ---- labels tell them apart

  link_label_lem : {g q : ℕ} → Memᴰ g y.groups → Memᴰ q (y.links g) → y.label q ≡ link_label g
  link_label_lem {g} i m = chain_label (c.linked g i).chain m

  pub place-own : {q : ℕ} → Memᴰ q (all_places y) → y.label q ≢ others_label
  place-own {q} m = either (Memᴰ.append_cases (y.groups ++ y.people) m)
      (entry-own c)
      (λ l. links_of y.links y.groups l (λ g j n. root_place (group_root c j) q (link_label_lem j n)))

  links_once : (gs : List ℕ) → ((g : ℕ) → Memᴰ g gs → Memᴰ g y.groups) → Distinct (map (number_at f) gs) → Once (all_links y.links gs)
  links_once [] i d = λ a b l k e. absurd (omega arith)
  links_once (g ∷ gs) i (one_more new d) =
      let mine = i g (Memᴰ.head refl) in
      once_both (y.links g) (all_links y.links gs) (chain_once (c.linked g mine).chain) (links_once gs (λ h m. i h (Memᴰ.tail m)) d)
      (λ q a b. links_of y.links gs b (λ h m n.
      let same : link_label g ≡ link_label h = sym (link_label_lem mine a) ∙ link_label_lem (i h (Memᴰ.tail m)) n in
      true-false new (among-map (number_at f) m (ap (number_at f) (let z : h ≡ g = omega arith in z)))))

  groups_distinct : Distinct (map (number_at f) y.groups)
  groups_distinct = rw c.groups (distinct_raised group_mark c.sound.groups)

  places-once : Once (all_places y)
  places-once = once_both (y.groups ++ y.people) (all_links y.links y.groups) (chain_once c.entries) (links_once y.groups (λ g m. m) groups_distinct)
      (λ q a b. links_of y.links y.groups b (λ g m n. group_links c m (sym (link_label_lem m n) ∙ chain_label c.entries a)))

  -- ---- how many they are, and their words

  links_count : (gs : List ℕ) → ((g : ℕ) → Memᴰ g gs → Memᴰ g y.groups)
      → length (all_links y.links gs) ≡ member_count (map (λ q. number_at f q - group_mark) gs) t.pairs
  links_count [] i = refl
  links_count (g ∷ gs) i =
      let here : length (y.links g) ≡ length (members_of (number_at f g - group_mark) t.pairs) =
      sym (length-map (y.links g) (number_at f)) ∙ ap length (c.linked g (i g (Memᴰ.head refl))).words in
      omega (arith, here, length-append (y.links g) (all_links y.links gs), links_count gs (λ h m. i h (Memᴰ.tail m)))

  link-places : length (all_links y.links y.groups) ≡ length t.pairs
  link-places = links_count y.groups (λ g m. m)
      ∙ ap (λ gs. member_count gs t.pairs) (lowered group_mark (number_at f) y.groups t.groups c.groups)
      ∙ members_total t.groups t.pairs c.sound.groups c.sound.unknown

  group-places : length y.groups ≡ length t.groups
  group-places = sym (length-map y.groups (number_at f)) ∙ ap length c.groups ∙ length-map t.groups (λ g. group_mark + g)

  person-places : length y.people ≡ length t.people
  person-places = sym (length-map y.people (number_at f)) ∙ ap length c.people

  places-words : words_at f (all_places y) ≡ person_words * length y.people + group_words * length y.groups + link_words * length (all_links y.links y.groups)
  places-words =
      let people = words_each f person_words y.people (λ q m. omega (arith, person-refs m, (entry_good c (Memᴰ.append_right y.groups m)).plain)) in
      let groups = words_each f group_words y.groups (λ q m. omega (arith, group-refs m, (entry_good c (Memᴰ.append_left y.people m)).plain)) in
      let links = words_each f link_words (all_links y.links y.groups)
      (λ q m. links_of y.links y.groups m (λ g i n. omega (arith, link-refs i n, (link_good c i n).plain))) in
      omega (arith, people, groups, links, words_both f y.groups y.people, words_both f (y.groups ++ y.people) (all_links y.links y.groups))

-- between two calls the registers hold nothing
module _ {f : Free} {y : Layout} {t : Table} (r : Represents f y t) where
  pub reached-place : {q : ℕ} → OwnReached f q → Memᴰ q (all_places y)
  reached-place (by_register k some) = absurd (some (r.cleared k))
  reached-place (by_global some) = in_entries r.core (chain_begin r.core.entries some)
  reached-place (by_field q i h some) = place_names r.core q i (reached-place h) some

  pub holds : Holds f t
  holds =
      let c = r.core in
      record {
        places = all_places y;
        reached = λ q h. reached-place h;
        reaches = λ q m. either (Memᴰ.append_cases (y.groups ++ y.people) m) (entry-reached c)
            (λ l. links_of y.links y.groups l (λ g i n. link-reached c i n));
        once = places-once c;
        count = omega (arith, length-append (y.groups ++ y.people) (all_links y.links y.groups), length-append y.groups y.people, person-places c, group-places c, link-places c);
        words = omega (arith, places-words c, person-places c, group-places c, link-places c);
      }
