-- The store's claims, of runs with directory calls: such a run is a run of store calls.
use Rattle.std.specs.Prelude.{ℕ, ◌+◌, ◌≤◌, ◌≡◌, ◌≢◌, List, ◌∷◌, ◌++◌, take}
use Rattle.rules.specs.Refusals.{answer}
use Rattle.rules.specs.Cycle.{at_rest, at_reclaim}
use Rattle.rules.specs.Control.{Store}
use Rattle.rules.specs.Runs.{Call, Allocate, Step, apply, after, spent}
use Rattle.rules.specs.Claims.{Made, FreedBetween, left_in, scans_and_move, EndsReclaim, used_words, all_shares, SharesKept}
use Rattle.rules.specs.Answers.{Refused}
use Rattle.directory_rules.specs.Runs.{Item, call, after_items, calls_of, beside_items}

-- the items leave what their store calls leave, one after another. So the store's claims are about every such run, whatever its calls name
unfoldable pub ItemsAreCalls : Type 0
ItemsAreCalls = (s : Store) (xs : List Item) → after_items s xs ≡ after s (calls_of s xs)

-- `NoDamage`: no store call is refused with 4 or 12
unfoldable pub ItemsNoDamage : Type 0
ItemsNoDamage =
    (s : Store) → Made s → (xs : List Item) (c : Call)
    → ((apply (after_items s xs) c).reply ≢ answer (Refused 4)) × ((apply (after_items s xs) c).reply ≢ answer (Refused 12))

-- `Freed`: what was unreachable when a collection began takes up no word when it has ended
unfoldable pub ItemsFreed : Type 0
ItemsFreed =
    (s : Store) → Made s → (xs ys : List Item)
    → (after_items s xs).phase ≡ at_rest → (after_items s (xs ++ (call Step ∷ ys))).phase ≡ at_rest
    → FreedBetween (beside_items s xs) (beside_items s (xs ++ (call Step ∷ ys))) (left_in (beside_items s (xs ++ (call Step ∷ ys))))

-- `MarkingEnds`: collector steps spent in phase 4
unfoldable pub ItemsMarkingEnds : Type 0
ItemsMarkingEnds = (s : Store) → Made s → (xs : List Item) → spent 0 s (calls_of s xs) ≤ used_words (after_items s xs) + scans_and_move

-- `ShareAfterReclaim`: no allocation meets 14 where the shares fit and stay, the directory's among them
unfoldable pub ItemsShareAfterReclaim : Type 0
ItemsShareAfterReclaim =
    (s : Store) → Made s → (xs : List Item) → EndsReclaim (after_items s xs)
    → let t = (apply (after_items s xs) Step).store in
    used_words t + all_shares t.sessions ≤ t.lengths.half0
    → (ys : List Item) → SharesKept t (calls_of t ys) → ((i : ℕ) → (after t (take i (calls_of t ys))).phase ≢ at_reclaim)
    → (n k r p : ℕ) → (apply (after_items t ys) (Allocate n k r p)).reply ≢ answer (Refused 14)
