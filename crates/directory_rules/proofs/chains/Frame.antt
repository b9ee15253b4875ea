-- The same chains in another store, where the directory's records and its global are the same.
use Prim.Native.Nat.{ℕ}
use mathlib.Core.Path.{◌≡◌, ap, ◌∙◌}
use mathlib.Core.Logic.{◌≢◌}
use mathlib.Core.List.Memᴰ
use mathlib.Core.List.{List, Memᴰ}
use lib.ListN.{get_or}
use Rattle.rules.specs.Memory.{null}
use Rattle.rules.specs.Free.{Free, record_at}
use Rattle.directory_rules.specs.Table.{Table}
use Rattle.directory_rules.specs.Directory.{next_field, number_field}
use Rattle.directory_rules.proofs.Lists.{map_same}
use Rattle.directory_rules.proofs.free.Slots.{Slot, top, field, held, number_at}
use Rattle.directory_rules.proofs.chains.Chain.{Chain}
use Rattle.directory_rules.proofs.chains.Laws.{chain_label, chain_frame}
use Rattle.directory_rules.proofs.chains.Core.{others_label, SoundStore, Layout, Linked, Core}
use Rattle.directory_rules.proofs.chains.Labels.{Root, entries_root, at_begin, Own, root_own, root_place}
use Rattle.directory_rules.proofs.chains.Entries.{entry-own, group-own, group_root}

abbrev pub relabelled : Layout → (ℕ → ℕ) → Layout
relabelled y lab = record { groups = y.groups; people = y.people; links = y.links; label = lab }

module _ {f : Free} {y : Layout} {t : Table} (c : Core f y t)
    {g : Free} {lab : ℕ → ℕ} (sound : SoundStore g lab) (begin : held g top ≡ held f top)
    (kept : (q : ℕ) → y.label q ≢ others_label → record_at g q ≡ record_at f q)
    (labels : (q : ℕ) → y.label q ≢ others_label → lab q ≡ y.label q) where
  slot_kept : (s : Slot) → Own y.label s → held g s ≡ held f s
  slot_kept top o = begin
  slot_kept (field q i) o = ap (λ x. get_or x.refs i null) (kept q o)

  chain_kept : {sl : Slot} {l : ℕ} {qs : List ℕ} → Root y.label sl l → Chain f y.label l sl qs → Chain g lab l sl qs
  chain_kept {sl} r d =
      chain_frame d (slot_kept sl (root_own r at_begin))
      (λ q m. slot_kept (field q next_field) (root_place r q (chain_label d m)))
      (λ q m. labels q (root_place r q (chain_label d m)) ∙ chain_label d m)

  number-kept : (q : ℕ) → y.label q ≢ others_label → number_at g q ≡ number_at f q
  number-kept q o = ap (λ x. get_or x.plains number_field 0) (kept q o)

  linked-kept : (q : ℕ) → Memᴰ q y.groups → Linked g (relabelled y lab) t.pairs q
  linked-kept q m =
      let h = c.linked q m in
      let o = group-own c m in
      let r = group_root c m in
      record {
        chain = chain_kept r h.chain;
        words = map_same (y.links q) (λ x i. number-kept x (root_place r x (chain_label h.chain i))) ∙ rw (number-kept q o) h.words;
      }

  pub core_frame : Core g (relabelled y lab) t
  core_frame =
      record {
        store = sound;
        sound = c.sound;
        entries = chain_kept entries_root c.entries;
        groups = map_same y.groups (λ q m. number-kept q (group-own c m)) ∙ c.groups;
        people = map_same y.people (λ q m. number-kept q (entry-own c (Memᴰ.append_right y.groups m))) ∙ c.people;
        linked = linked-kept;
      }
