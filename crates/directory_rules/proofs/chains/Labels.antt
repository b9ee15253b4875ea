-- Labels keep the chains apart: no slot of one is a slot of another.
use Prim.Native.Nat.{ℕ, suc}
use mathlib.Core.Path.{◌≡◌, refl, sym, ap, ◌∙◌}
use mathlib.Core.Logic.{◌≢◌}
use mathlib.Core.List.{List, [], ◌∷◌, ◌++◌, append-nil}
use native.Mathlib.Omega.{arith}
use Rattle.rules.specs.Memory.{null}
use Rattle.rules.specs.Free.{Free}
use Rattle.directory_rules.specs.Directory.{next_field, first_field}
use Rattle.directory_rules.proofs.free.Slots.{Slot, top, field, slot_after}
use Rattle.directory_rules.proofs.free.Held.{Placed}
use Rattle.directory_rules.proofs.chains.Chain.{Chain, goes}
use Rattle.directory_rules.proofs.chains.Core.{others_label, entry_label, link_label, Owned}

-- where a chain begins, and its label
pub data Root (lab : ℕ → ℕ) : Slot → ℕ → Type 0 where
  entries_root : Root lab top entry_label
  links_root : {g : ℕ} → g ≢ null → lab g ≢ others_label → Root lab (field g first_field) (link_label g)

-- the slots of a chain
pub data Of (lab : ℕ → ℕ) (sl : Slot) (l : ℕ) : Slot → Type 0 where
  at_begin : Of lab sl l sl
  at_place : {q : ℕ} → lab q ≡ l → Of lab sl l (field q next_field)

pub of_after : {f : Free} {lab : ℕ → ℕ} {l : ℕ} (xs ys : List ℕ) {sl : Slot} → Chain f lab l sl (xs ++ ys) → Of lab sl l (slot_after sl xs)
of_after [] ys c = at_begin
of_after {lab = lab} {l = l} (x ∷ xs) ys {sl} (goes h n b r) = moved (of_after xs ys r)
  where
    moved : {s : Slot} → Of lab (field x next_field) l s → Of lab sl l s
    moved at_begin = at_place b
    moved (at_place d) = at_place d

pub of_end : {f : Free} {lab : ℕ → ℕ} {l : ℕ} (xs : List ℕ) {sl : Slot} → Chain f lab l sl xs → Of lab sl l (slot_after sl xs)
of_end {f} {lab} {l} xs {sl} c = let whole : Chain f lab l sl (xs ++ []) = rw append-nil c in of_after xs [] whole

-- a slot of the directory
abbrev pub Own : (ℕ → ℕ) → Slot → Type 0
Own lab top = Unit {0}
Own lab (field q i) = lab q ≢ others_label

pub own-placed : {f : Free} {lab : ℕ → ℕ} → Owned f lab → (s : Slot) → Own lab s → Placed s
own-placed o top p = tt
own-placed o (field q i) p = λ e. let some = (o q p).some in omega arith

root_label : {lab : ℕ → ℕ} {sl : Slot} {l : ℕ} → Root lab sl l → l ≢ others_label
root_label entries_root e = omega arith
root_label (links_root n b) e = omega arith

pub root_place : {lab : ℕ → ℕ} {sl : Slot} {l : ℕ} → Root lab sl l → (q : ℕ) → lab q ≡ l → lab q ≢ others_label
root_place r q d e = root_label r (sym d ∙ e)

pub root_own : {lab : ℕ → ℕ} {sl s : Slot} {l : ℕ} → Root lab sl l → Of lab sl l s → Own lab s
root_own entries_root at_begin = tt
root_own (links_root n b) at_begin = b
root_own r (at_place {q = q} d) = root_place r q d

-- a chain begins at no field that names the next record
root_first : {lab : ℕ → ℕ} {sl : Slot} {l : ℕ} → Root lab sl l → (q : ℕ) → sl ≢ field q next_field
root_first entries_root q e = let z : ◌≡◌ {A = ℕ} 0 1 = cc in omega arith
root_first (links_root n b) q e = let z : first_field ≡ next_field = cc in omega arith

roots_differ : {lab : ℕ → ℕ} {sl sl' : Slot} {l l' : ℕ} → Root lab sl l → Root lab sl' l' → l ≢ l' → sl ≢ sl'
roots_differ entries_root entries_root d e = d refl
roots_differ entries_root (links_root n b) d e = let z : ◌≡◌ {A = ℕ} 0 1 = cc in omega arith
roots_differ (links_root n b) entries_root d e = let z : ◌≡◌ {A = ℕ} 0 1 = cc in omega arith
roots_differ (links_root {g = g} n b) (links_root {g = g'} m c) d e = let z : g ≡ g' = cc in d (ap suc z)

pub away : {lab : ℕ → ℕ} {sl sl' s w : Slot} {l l' : ℕ} → Root lab sl l → Root lab sl' l' → l ≢ l' → Of lab sl l s → Of lab sl' l' w → s ≢ w
away r t d at_begin at_begin e = roots_differ r t d e
away r t d at_begin (at_place {q = q} b) e = root_first r q e
away r t d (at_place {q = q} a) at_begin e = root_first t q (sym e)
away {lab} r t d (at_place {q = q} a) (at_place {q = x} b) e = let z : q ≡ x = cc in d (sym a ∙ ap lab z ∙ b)
