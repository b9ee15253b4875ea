-- The call for several links: single stores, each of which keeps the invariant.
use Prim.Native.Nat.{ℕ}
use mathlib.Core.Path.{refl}
use mathlib.Core.List.{List, [], ◌∷◌}
use lib.ListN.{take}
use Rattle.rules.specs.Control.{Store}
use Rattle.rules.specs.Calls.{store_each, store_links, is_count}
use Rattle.rules.specs.Free.{Free, free_store_each, free_store_links}
use Rattle.rules.specs.declared.Link.{Link}
use Rattle.rules.proofs.invariant.Sim.{Sim}
use Rattle.rules.proofs.relation.Alike.{Both, Unmoved, Alike, passed_both, both_check, both_then, both_map, unmoved_left, unmoved_then, unmoved_done}
use Rattle.rules.proofs.relation.Tests.{both_session}
use Rattle.rules.proofs.fields.Storing.{store_unmoved}

module _ {K : ℕ → Type 0} {m : ℕ → ℕ} where
  each_unmoved : {s : Store} {f : Free} → Sim K m s f → (n k : ℕ) (xs : List Link) → Both (Unmoved K m s) (store_each s n k xs) (free_store_each f n k xs)
  each_unmoved h n k [] = passed_both (unmoved_done h refl refl refl (λ i c. c))
  each_unmoved h n k (x ∷ xs) = both_then _ _ (store_unmoved h n k x.field x.from) (λ o p w. both_map (λ u v. unmoved_then w) (each_unmoved w.sim n k xs))

  pub store_links_alike : {s : Store} {f : Free} → Sim K m s f → (n k count : ℕ) (xs : List Link) (q : ℕ)
      → Alike K q m s (store_links s n k count xs) (free_store_links f n k count xs)
  unfolding store_links free_store_links
  store_links_alike h n k count xs q =
      both_session h n _ _ (λ a. both_check (is_count count) 10 tt (λ e. both_map (λ o p. unmoved_left) (each_unmoved h n k (take count xs))))
