-- A person is removed and a collection made, computed by the checker: then the half holds one record for each person, group and membership that
-- is left, 6 words for the person, 7 for the group and 6 for the membership.
use Prim.Native.Nat.{ℕ}
use mathlib.Core.Path.{◌≡◌, refl}
use mathlib.Core.List.{List, [], ◌∷◌, ◌++◌, map}
use lib.ListN.{replicate}
use Rattle.rules.specs.Control.{Store, new_store}
use Rattle.rules.specs.Cycle.{at_rest}
use Rattle.rules.specs.Runs.{Step}
use Rattle.rules.specs.Script.{script_share}
use Rattle.rules.specs.Claims.{used_words}
use Rattle.directory_rules.specs.Table.{Open, Add, Remove, Make, Join}
use Rattle.directory_rules.specs.Runs.{Item, call, request, after_items}
use Rattle.directory_rules.proofs.Examples.{directory}

-- halves of 32 words
small : Store
small = new_store (record { half0 = 32; half1 = 32; list = 8 }) (replicate 32 0) (replicate 32 0) (replicate 8 0)

-- two people in one group; then one of them is removed
before : List Item
before = map request (Open script_share ∷ Make 2 ∷ Add 7 ∷ Add 8 ∷ Join 7 2 ∷ Join 8 2 ∷ Remove 7 ∷ [])

-- n steps, and then a directory call, for its safe point
turn : ℕ → List Item
turn n = replicate n (call Step) ++ (request (Add 100000000) ∷ [])

collection : List Item
collection = turn 1 ++ turn 1 ++ turn 43 ++ turn 6 ++ turn 14 ++ turn 1 ++ turn 36 ++ replicate 4 (call Step)

-- the used words before the removal's collection begins and when it has ended
full : used_words (after_items small before) ≡ 31
unfolding directory small before
full = refl

gone : used_words (after_items small (before ++ collection)) ∷ (after_items small (before ++ collection)).phase ∷ [] ≡ 19 ∷ at_rest ∷ []
unfolding directory small before turn collection
gone = refl
