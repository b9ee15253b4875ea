-- The slot that a walk has come to, after other calls.
use Prim.Native.Nat.{ℕ}
use mathlib.Core.Path.{◌≡◌, refl, ap, ◌∙◌}
use mathlib.Core.Logic.{◌≢◌}
use mathlib.Core.List.{List, [], ◌∷◌, ◌++◌}
use native.Mathlib.Omega.{arith}
use Rattle.rules.specs.Free.{Free}
use Rattle.directory_rules.specs.Directory.{next_field, first_field, group_register, other_of}
use Rattle.directory_rules.specs.declared.Via.{Via}
use Rattle.directory_rules.specs.declared.Via.TheVariants.{Next, First, Top}
use Rattle.directory_rules.proofs.free.Session.{reg}
use Rattle.directory_rules.proofs.free.Slots.{Slot, top, field, slot_after, slot_of}

pub slot_snoc : (sl : Slot) (xs : List ℕ) (q : ℕ) → slot_after sl (xs ++ (q ∷ [])) ≡ field q next_field
slot_snoc sl [] q = refl
slot_snoc sl (x ∷ xs) q = slot_snoc (field x next_field) xs q

-- it goes by two registers
pub slot_same : (f g : Free) (at : ℕ) (via : Via) → reg g (other_of at) ≡ reg f (other_of at) → reg g group_register ≡ reg f group_register
    → slot_of g at via ≡ slot_of f at via
slot_same f g at Next a b = rw a
slot_same f g at First a b = rw b
slot_same f g at Top a b = refl

-- ---- a walk over the entries never comes to a group's first link

abbrev field_of : Slot → ℕ
field_of top = next_field
field_of (field q i) = i

next-after : (sl : Slot) → field_of sl ≡ next_field → (xs : List ℕ) → field_of (slot_after sl xs) ≡ next_field
next-after sl e [] = e
next-after sl e (x ∷ xs) = next-after (field x next_field) refl xs

pub never_first : (q : ℕ) (xs : List ℕ) → field q first_field ≢ slot_after top xs
never_first q xs e = let z : first_field ≡ next_field = ap field_of e ∙ next-after top refl xs in omega arith

-- so it goes by one
pub entry_slot : (f g : Free) (at : ℕ) (via : Via) (xs : List ℕ) → slot_of f at via ≡ slot_after top xs → reg g (other_of at) ≡ reg f (other_of at)
    → slot_of g at via ≡ slot_after top xs
entry_slot f g at Next xs e a = rw a e
entry_slot f g at First xs e a = absurd (never_first (reg f group_register) xs e)
entry_slot f g at Top xs e a = e
