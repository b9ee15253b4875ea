-- The members of a group with pairs more or less.
use Prim.Native.Nat.{ℕ}
use mathlib.Core.Path.{◌≡◌, refl, sym, ap, ◌∙◌}
use mathlib.Core.Logic.{◌≢◌}
use mathlib.Core.Bool.{Bool, true, false, cond}
use mathlib.Core.List.{List, [], ◌∷◌, ◌++◌, append-nil}
use lib.Dec.{eqb}
use borrow.Author.Tests.{eqb-true, eq-eqb, ne_eqb}
use Rattle.rules.proofs.Ranges.{both}
use Rattle.rules.proofs.memory.Cases.{bool_or}
use Rattle.directory_rules.specs.Table.{Pair, is_pair, unpair, without, members_of}

members-append : (g : ℕ) (ps qs : List Pair) → members_of g (ps ++ qs) ≡ members_of g ps ++ members_of g qs
members-append g [] qs = refl
members-append g (x ∷ xs) qs = rw (members-append g xs qs) (one (eqb g x.group))
  where
    one : (b : Bool) → cond b (x.person ∷ (members_of g xs ++ members_of g qs)) (members_of g xs ++ members_of g qs) ≡ cond b (x.person ∷ members_of g xs) (members_of g xs) ++ members_of g qs
    one true = refl
    one false = refl

-- a pair more
module _ (n g : ℕ) (ps : List Pair) where
  pub members_pair : members_of g (ps ++ (record { person = n; group = g } ∷ [])) ≡ members_of g ps ++ (n ∷ [])
  members_pair = members-append g ps _ ∙ rw (eq-eqb g g refl)

  pub members_pair_other : (g' : ℕ) → g' ≢ g → members_of g' (ps ++ (record { person = n; group = g } ∷ [])) ≡ members_of g' ps
  members_pair_other g' d = members-append g' ps _ ∙ rw (ne_eqb g' g d) (append-nil (members_of g' ps))

-- a pair less
pub members-unpair : (n g : ℕ) (ps : List Pair) → members_of g (unpair n g ps) ≡ without n (members_of g ps)
members-unpair n g [] = refl
members-unpair n g (x ∷ xs) =
    bool_or (eqb n x.person)
    (λ a. bool_or (eqb g x.group) (λ b. simp (a, b) (members-unpair n g xs)) (λ b. simp (a, b) (members-unpair n g xs)))
    (λ a. bool_or (eqb g x.group) (λ b. simp (a, b) (ap (x.person ∷◌) (members-unpair n g xs))) (λ b. simp (a, b) (members-unpair n g xs)))

pub members-unpair_other : (n g g' : ℕ) (ps : List Pair) → g' ≢ g → members_of g' (unpair n g ps) ≡ members_of g' ps
members-unpair_other n g g' [] d = refl
members-unpair_other n g g' (x ∷ xs) d =
    bool_or (is_pair n g x)
    (λ b. let e : g ≡ x.group = eqb-true g x.group (both (eqb n x.person) (eqb g x.group) b).1 in
    rw (b, ne_eqb g' x.group (λ z. d (z ∙ sym e))) (members-unpair_other n g g' xs d))
    (λ b. rw (b, members-unpair_other n g g' xs d))
