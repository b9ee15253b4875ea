-- Which inputs ask for a load.
use Prim.Native.Nat.{ℕ, ◌≤◌, ◌<◌}
use mathlib.Core.Path.{◌≡◌}
use mathlib.Core.Logic.{◌≢◌, ◌⊎◌, inl, inr}
use mathlib.Core.Bool.{true, false}
use mathlib.Core.List.{List}
use borrow.Author.Tests.{eq-eqb, ne_eqb, le-leb, lt-leb}
use lib.ListN.{length}
use Rattle.workload.specs.Load.{seed_in, count_in, most_entries, accepted}

module _ (bs : List ℕ) where
  pub other_length : length bs ≢ 8 → accepted bs ≡ false
  unfolding accepted
  other_length ne = rw (ne_eqb _ 8 ne)

  pub refused : length bs ≡ 8 → (seed_in bs ≡ 0) ⊎ ((seed_in bs ≢ 0) × (most_entries < count_in bs)) → accepted bs ≡ false
  unfolding accepted
  refused size (inl none) = rw (eq-eqb _ 8 size, eq-eqb _ 0 none)
  refused size (inr many) = rw (eq-eqb _ 8 size, ne_eqb _ 0 many.0, lt-leb _ _ many.1)

  pub given : length bs ≡ 8 → seed_in bs ≢ 0 → count_in bs ≤ most_entries → accepted bs ≡ true
  unfolding accepted
  given size some few = rw (eq-eqb _ 8 size, ne_eqb _ 0 some, le-leb _ _ few)
