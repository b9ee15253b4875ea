-- A walk that looks for a record: over a chain, over the entries, over the members of a group.
use Prim.Native.Nat.{ℕ, zero, suc, ◌≤◌}
use mathlib.Core.Path.{◌≡◌, refl, ap, ◌∙◌}
use mathlib.Core.Logic.{◌≢◌}
use mathlib.Core.List.{List}
use native.Mathlib.Omega.{arith}
use lib.Dec.{eqb, ltb}
use borrow.Author.Tests.{eqb-true, eqb-false, ltb-true, ltb-false}
use lib.ListN.{length}
use Rattle.rules.specs.Free.{Free}
use Rattle.rules.proofs.memory.Cases.{bool_or}
use Rattle.directory_rules.specs.Acts.{load, get, Act, ◌>>◌, must, word}
use Rattle.directory_rules.specs.Directory.{none_left, judged, seek, entries, members, other_of, group_register, next_field, first_field}
use Rattle.directory_rules.specs.declared.Via.{Via}
use Rattle.directory_rules.specs.declared.Via.TheVariants.{Next, First, Top}
use Rattle.directory_rules.specs.declared.Place.{Place}
use Rattle.directory_rules.proofs.free.Perform.{free_perform}
use Rattle.directory_rules.proofs.free.Session.{reg, set_reg, Ready, OnlyRegs}
use Rattle.directory_rules.proofs.free.Registers.{reg_held, reg_other, set_only, only_ready}
use Rattle.directory_rules.proofs.free.Must.{must-done}
use Rattle.directory_rules.proofs.free.Steps.{load_step, get-step}
use Rattle.directory_rules.proofs.free.Slots.{Slot, top, field, held, number_at, slot_of, There}
use Rattle.directory_rules.proofs.chains.Chain.{Chain, ends, goes}
use Rattle.directory_rules.proofs.chains.Core.{Good, Owned, others_label}
use Rattle.directory_rules.proofs.chains.SoundStore.{good_at}
use Rattle.directory_rules.proofs.chains.Registers.{only_owned, only_chain}
use Rattle.directory_rules.proofs.walks.Reading.{reads_end, reads_word, loads_next}
use Rattle.directory_rules.proofs.walks.Walked.{Walked, at_key, at_low, at-end, walked_here, walked_on, walked_from}

-- the walk past the record at hand
abbrev onward : ℕ → ℕ → ℕ → ℕ → Act Place
onward left at key least = must (load (other_of at) at next_field) >> seek left (other_of at) Next key least

-- the walk from a slot on that names the record at hand
module _ (fed : ℕ) {lab : ℕ → ℕ} {l : ℕ} (ours : l ≢ others_label) (key least : ℕ) where
  seek_on : {f : Free} {sl : Slot} {qs : List ℕ} → Ready f → Owned f lab → Chain f lab l sl qs
      → (left at : ℕ) (via : Via) → at ≤ 1 → slot_of f at via ≡ sl → reg f at ≡ held f sl → length qs ≤ left
      → Walked f sl qs key least left (free_perform fed f (seek left at via key least))
  seek_on ready own (ends none) zero at via low slot here short =
      walked_here {via = via} low slot here at-end (reads_end fed ready at (omega arith) (none_left at via) (here ∙ none))
  seek_on ready own (goes e some mine c) zero at via low slot here short = absurd (omega arith)
  seek_on ready own (ends none) (suc left) at via low slot here short =
      walked_here {via = via} low slot here at-end
      (reads_end fed ready at (omega arith) (judged at via key least (suc left) (onward left at key least)) (here ∙ none))
  seek_on {f} ready own (goes {sl} {q} {qs} e some mine c) (suc left) at via low slot here short =
      let w = number_at f q in
      let good : Good f q = good_at own ours mine in
      let seen : free_perform fed f (seek (suc left) at via key least) ≡ free_perform fed f (judged at via key least (suc left) (onward left at key least) (word w)) =
      reads_word fed ready at (omega arith) (here ∙ e) good (judged at via key least (suc left) (onward left at key least)) in
      let v = held f (field q next_field) in
      let g = set_reg f (other_of at) v in
      let o : OnlyRegs 2 f g = set_only f (other_of at) v ready.shaped 2 (omega arith) in
      let back : other_of (other_of at) ≡ at = omega arith in
      bool_or (eqb w key)
      (λ t. walked_here {via = via} low slot here (at_key (eqb-true w key t)) (seen ∙ rw t))
      (λ t. bool_or (ltb w least)
      (λ u. walked_here {via = via} low slot here (at_low (eqb-false w key t) (ltb-true w least u)) (seen ∙ rw (t, u)))
      (λ u. walked_on (eqb-false w key t) (ltb-false w least u)
      (walked_from o
      (seen ∙ rw (t, u) (loads_next fed ready at (omega arith) (here ∙ e) good (other_of at) (λ x. seek left (other_of at) Next key least) (omega arith)))
      (seek_on {f = g} (only_ready o ready) (only_owned o own) (only_chain o c) left (other_of at) Next (omega arith)
      (ap (λ (x : ℕ). field x next_field) (ap (reg g) back ∙ reg_other f (other_of at) v ready.shaped at (omega arith) ∙ here ∙ e))
      (reg_held ready.shaped (other_of at) (field q next_field) (omega arith))
      (omega arith)))))

module _ (fed : ℕ) {f : Free} (ready : Ready f) {lab : ℕ → ℕ} (own : Owned f lab) {l : ℕ} (ours : l ≢ others_label) {qs : List ℕ} where
  pub seek_walks : (left at : ℕ) (via : Via) (key least : ℕ) → at ≤ 1 → Chain f lab l (slot_of f at via) qs → reg f at ≡ held f (slot_of f at via)
      → length qs ≤ left → Walked f (slot_of f at via) qs key least left (free_perform fed f (seek left at via key least))
  seek_walks left at via key least low chain here short = seek_on fed ours key least ready own chain left at via low refl here short

  pub entries_walks : (half key least : ℕ) → Chain f lab l top qs → length qs ≤ half
      → Walked f top qs key least half (free_perform fed f (entries half key least))
  unfolding entries
  entries_walks half key least chain short =
      let v = held f top in
      let o : OnlyRegs 2 f (set_reg f 0 v) = set_only f 0 v ready.shaped 2 (omega arith) in
      walked_from o (must-done fed f (get 0) (λ x. seek half 0 Top key least) (get-step fed ready 0 (omega arith)))
      (seek_on fed ours key least (only_ready o ready) (only_owned o own) (only_chain o chain) half 0 Top (omega arith) refl
      (reg_held ready.shaped 0 top (omega arith)) short)

  pub members_walks : (half n : ℕ) {q : ℕ} → reg f group_register ≡ q → There f (field q first_field) → Chain f lab l (field q first_field) qs → length qs ≤ half
      → Walked f (field q first_field) qs n 0 half (free_perform fed f (members half n))
  unfolding members
  members_walks half n {q} at_hand two chain short =
      let sl = field q first_field in
      let v = held f sl in
      let o : OnlyRegs 2 f (set_reg f 0 v) = set_only f 0 v ready.shaped 2 (omega arith) in
      walked_from o (must-done fed f (load 0 group_register first_field) (λ x. seek half 0 First n 0) (load_step fed ready 0 group_register first_field (omega arith) (omega arith) at_hand two))
      (seek_on fed ours n 0 (only_ready o ready) (only_owned o own) (only_chain o chain) half 0 First (omega arith)
      (ap (λ (x : ℕ). field x first_field) (o.above group_register (omega arith) ∙ at_hand))
      (reg_held ready.shaped 0 sl (omega arith)) short)
