-- A person leaves all groups, one after another along the entries.
use Prim.Native.Nat.{ℕ, zero, suc, ◌-◌, ◌≤◌, ◌<◌}
use mathlib.Core.Path.{◌≡◌, refl, sym, ap, ◌∙◌}
use mathlib.Core.List.{List, [], ◌∷◌, ◌++◌, map, append_assoc, append-nil, Memᴰ}
use native.Mathlib.Omega.{arith}
use lib.ListN.{length}
use borrow.Author.Tests.{lt-ltb, le-ltb}
use Rattle.rules.specs.Control.{register_count}
use Rattle.rules.specs.Refusals.{passed}
use Rattle.rules.specs.Free.{Free}
use Rattle.directory_rules.specs.Table.{Table}
use Rattle.directory_rules.specs.Acts.{Act, Found, load, must, ◌>>=◌, ◌>>◌}
use Rattle.directory_rules.specs.Directory.{members, cut_found, no_group_left, each_group, leaving_all, group_mark, group_register, next_field}
use Rattle.directory_rules.proofs.Lists.{mem_cut}
use Rattle.directory_rules.proofs.tables.Numbers.{lowered}
use Rattle.directory_rules.proofs.free.Session.{reg, Ready}
use Rattle.directory_rules.proofs.free.Slots.{Slot, top, held, number_at, slot_after}
use Rattle.directory_rules.proofs.free.Registers.{only_same}
use Rattle.directory_rules.proofs.free.Perform.{free_perform}
use Rattle.directory_rules.proofs.chains.Chain.{Chain, ends, goes}
use Rattle.directory_rules.proofs.chains.Laws.{chain_first, chain_rest}
use Rattle.directory_rules.proofs.chains.Core.{Layout, Owned, Short, entry_label}
use Rattle.directory_rules.proofs.chains.SoundStore.{good_at}
use Rattle.directory_rules.proofs.chains.Entries.{entry_good, group-high, person-low}
use Rattle.directory_rules.proofs.walks.Slots.{slot_snoc}
use Rattle.directory_rules.proofs.walks.Reading.{reads_end, reads_word}
use Rattle.directory_rules.proofs.calls.Kept.{Within, within_ready}
use Rattle.directory_rules.proofs.calls.Gone.{gone_same, Leaves, leaves_then, leaves_one}

module _ (fed : ℕ) (half n : ℕ) where
  -- what is done for the word of an entry
  abbrev each : ℕ → Found → Act (Unit {0})
  each left = each_group (members half n >>= λ w. cut_found w >> must (load group_register group_register next_field) >> leaving_all left half n)

  -- behind the last group: no entry, or the first person
  groups-end : {f : Free} {lab : ℕ → ℕ} {sl : Slot} {qs : List ℕ} → Ready f → Owned f lab → Chain f lab entry_label sl qs
      → ((q : ℕ) → Memᴰ q qs → number_at f q < group_mark) → reg f group_register ≡ held f sl → (left : ℕ) → length qs ≤ left
      → free_perform fed f (leaving_all left half n) ≡ record { store = f; result = passed tt }
  groups-end ready own (ends none) low here zero short = reads_end fed ready group_register (omega arith) no_group_left (here ∙ none)
  groups-end ready own (goes e some mine c) low here zero short = absurd (omega arith)
  groups-end ready own (ends none) low here (suc left) short = reads_end fed ready group_register (omega arith) (each left) (here ∙ none)
  groups-end {f} ready own (goes {q = q} e some mine c) low here (suc left) short =
      reads_word fed ready group_register (omega arith) (here ∙ e) (good_at own (λ z. omega arith) mine) (each left)
      ∙ rw (lt-ltb (number_at f q) group_mark (low q (mathlib.Core.List.Memᴰ.head refl)))

  module _ {r : ℕ} (many : group_register < r) (few : r ≤ register_count) where
    -- the groups gs are passed, those of hs are ahead
    groups-left : (number : ℕ → ℕ) (left : ℕ) {f : Free} {y : Layout} {t : Table} (gs hs : List ℕ) → Within r f y t → Short half y → y.groups ≡ gs ++ hs
        → reg f group_register ≡ held f (slot_after top gs) → ((q : ℕ) → number_at f q ≡ number q) → length (hs ++ y.people) ≤ left
        → Leaves r 3 half n (map (λ q. number q - group_mark) hs) f y t (free_perform fed f (leaving_all left half n))
    groups-left number left {f} {y} gs [] within short split at_hand same enough =
        let c = within.core in
        let rest : Chain f y.label entry_label (slot_after top gs) y.people = chain_rest gs y.people (rw (split, append-nil gs) at c.entries) in
        record {
          after = f;
          ended = groups-end (within_ready within) c.store.own rest (λ q m. let l = person-low c m in omega arith) at_hand left enough;
          gone = gone_same [] refl within short (only_same 3 f);
        }
    groups-left number zero gs (q ∷ hs) within short split at_hand same enough = absurd (omega arith)
    groups-left number (suc left) {f} {y} gs (q ∷ hs) within short split at_hand same enough =
        let c = within.core in
        let ahead = hs ++ y.people in
        let rest : Chain f y.label entry_label (slot_after top gs) (q ∷ ahead) =
        chain_rest gs (q ∷ ahead) (rw (split, append_assoc gs (q ∷ hs) y.people) at c.entries) in
        let here : reg f group_register ≡ q = at_hand ∙ chain_first rest in
        let mine : Memᴰ q y.groups = mem_cut gs q hs split in
        let high : group_mark ≤ number_at f q = group-high c mine in
        let i : number_at f q ≡ number q = same q in
        let k = leaves_one fed many few n within short mine (number q - group_mark) (omega arith) here in
        leaves_then k.gone
        (reads_word fed (within_ready within) group_register (omega arith) here (entry_good c (mathlib.Core.List.Memᴰ.append_left y.people mine)) (each left)
        ∙ rw (le-ltb (number_at f q) group_mark high) (k.steps (leaving_all left half n)))
        (groups-left number left (gs ++ (q ∷ [])) hs k.gone.within k.gone.short (split ∙ sym (append_assoc gs (q ∷ []) hs))
        (k.next ∙ ap (held k.after) (sym (slot_snoc top gs q))) (λ u. k.gone.numbers u ∙ same u) (omega arith))

    -- from the first entry on
    pub leaving_all_lem : {f : Free} {y : Layout} {t : Table} → Within r f y t → Short half y → reg f group_register ≡ held f top
        → Leaves r 3 half n t.groups f y t (free_perform fed f (leaving_all half half n))
    leaving_all_lem {f} {y} {t} within short at_hand =
        rw (lowered group_mark (number_at f) y.groups t.groups within.core.groups) at
        (groups-left (number_at f) half [] y.groups within short refl at_hand (λ q. refl) short.entries)
