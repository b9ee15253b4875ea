-- Listing: the members counted, then the first of them taken to the lent words.
use Prim.Native.Nat.{ℕ, ◌≤◌, ◌<◌, min}
use mathlib.Core.Path.{◌≡◌, sym, ◌∙◌}
use mathlib.Core.List.{List, ◌++◌}
use lib.Dec.{leb}
use lib.ListN.{length, drop}
use native.Mathlib.Omega.{arith}
use borrow.Author.Tests.{leb-true, leb-false}
use Rattle.std.specs.Prelude.{Result, Ok, Err}
use Rattle.rules.specs.Refusals.{passed}
use Rattle.rules.specs.Control.{Store}
use Rattle.rules.proofs.memory.Cases.{bool_or}
use Rattle.directory_rules.specs.Table.{Given, is_number, unknown}
use Rattle.directory_rules.specs.Acts.{Act, give, ◌>>=◌, demand, must, load, perform}
use Rattle.directory_rules.specs.Directory.{group_register, first_field, grouping, counting, taking_first, least, listing}
use Rattle.directory.specs.declared.Refusal.{Refusal}
use Rattle.directory.specs.View.{left_in}
use Rattle.directory.specs.Taking.{taken_to}
use Rattle.directory.specs.Parts.{counting_members}
use Rattle.directory.proofs.acts.Sequence.{after, regroup, alike_then}
use Rattle.directory.proofs.acts.Again.{again}

-- what listing gives, of the count
abbrev pub first_of : List ℕ → ℕ → Act Given
first_of out k = taking_first (least k (length out)) >>= λ xs. give (record { number = 0; count = k; words = xs ++ drop (length xs) out })

-- the same acts, taken together otherwise
pub listing_as : (s : Store) (half g : ℕ) (out : List ℕ)
    → perform s (listing half g out) ≡ perform s (demand (is_number g) unknown >>= λ x. grouping half g >>= λ w. counting_members half >>= first_of out)
unfolding listing counting_members
listing_as s half g out =
    alike_then s (demand (is_number g) unknown) _ _
    (λ t x. alike_then t (grouping half g) _ _ (λ u w. sym (regroup u (must (load 0 group_register first_field)) (λ y. counting half 0) (first_of out))))

-- words taken after a count are never refused
pub never_refused : (s t u : Store) (half k m : ℕ) (r : Result (Unit {0}) Refusal) (ws : List ℕ) (e : Refusal)
    → left_in t (Ok k) ≡ perform s (counting_members half) → m ≤ k → left_in u (taken_to r ws) ≡ perform t (taking_first m) → r ≡ Err e → ⊥
never_refused s t u half k m r ws e c h f g = rw (← f, g) at (again s t half k m (sym c) h)

min_of : (a b : ℕ) → least a b ≡ min a b
min_of a b = bool_or (leb a b) (λ e. rw e (let h : a ≤ b = leb-true a b e in omega arith)) (λ e. rw e (let h : b < a = leb-false a b e in omega arith))

-- the first of them taken
pub listed : (t u : Store) (k m : ℕ) (old ws : List ℕ) → m ≡ min k (length old) → length ws ≡ m → left_in u (Ok ws) ≡ perform t (taking_first m)
    → perform t (first_of old k) ≡ record { store = u; result = passed (record { number = 0; count = k; words = ws ++ drop m old }) }
listed t u k m old ws e l f =
    let at : least k (length old) ≡ m = min_of k (length old) ∙ sym e in
    rw (at, after {B = Given} t (taking_first m) (λ xs. give (record { number = 0; count = k; words = xs ++ drop (length xs) old })), ← f, l)
