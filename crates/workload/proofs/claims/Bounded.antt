-- How long a load is: nine bytes for each of its entries at the most, after the version byte.
use Prim.Native.Nat.{ℕ, ◌≤◌}
use mathlib.Core.Bool.{true, not, ◌&&◌}
use mathlib.Core.Path.{◌≡◌}
use mathlib.Core.List.{List}
use native.Mathlib.Omega.{arith}
use borrow.Author.Tests.{leb-true}
use lib.Dec.{leb, eqb}
use lib.ListN.{length}
use Rattle.rules.proofs.Ranges.{both}
use Rattle.rules.proofs.memory.Cases.{bool_or}
use Rattle.workload.specs.Load.{xorshift32, load_of, seed_in, count_in, most_entries, accepted, generate}
use Rattle.workload.specs.Claims.{Bounded}
use Rattle.workload.proofs.Sizes.{entries-sized}

-- an input that is accepted asks for 100,000 entries at the most
pub accepted-count : (bs : List ℕ) → accepted bs ≡ true → count_in bs ≤ most_entries
unfolding accepted
accepted-count bs e =
    leb-true (count_in bs) most_entries (both (eqb (length bs) 8 && not (eqb (seed_in bs) 0)) (leb (count_in bs) most_entries) e).1

pub bounded : Bounded
unfolding Bounded generate load_of
bounded bs =
    bool_or
    (accepted bs)
    (λ e. rw e (omega (arith, accepted-count bs e, entries-sized (count_in bs) (xorshift32 (seed_in bs)))))
    (λ e. rw e (omega arith))
