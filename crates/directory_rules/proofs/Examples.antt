-- A run of every directory call, collector steps between them, computed by the checker: what the calls answer, and that the table
-- answers the same; one in which the birth numbers run out, and one with a small share.
use Prim.Native.Nat.{ℕ}
use mathlib.Core.Path.{◌≡◌, refl}
use mathlib.Core.List.{List, [], ◌∷◌, ◌++◌, map}
use lib.ListN.{replicate}
use Rattle.rules.specs.Control.{Store, new_store, with_births}
use Rattle.rules.specs.Runs.{Step}
use Rattle.rules.specs.Script.{script_share}
use Rattle.rules.proofs.Examples.{rules}
use Rattle.directory_rules.specs.Table.{Request, Open, Add, Remove, Make, Join, Leave, Members, Given, new_table, table_next, known}
use Rattle.directory_rules.specs.Directory.{directory_call, fed_number, program, append, adding, making, grouping, pairing, joining, leaving, removing, listing, entries, members}
use Rattle.directory_rules.specs.Runs.{Item, call, request, directory_run, table_run, feeds_of}

-- halves of 76 words
box : Store
box = new_store (record { half0 = 76; half1 = 76; list = 19 }) (replicate 76 0) (replicate 76 0) (replicate 19 0)

requests : List Request
requests =
    Add 7 ∷ Open script_share ∷ Open script_share ∷ Add 7 ∷ Add 3 ∷ Add 100000000 ∷ Add 3 ∷ Make 7 ∷ Make 2 ∷ Make 7 ∷ Join 3 7 ∷ Join 7 7 ∷ Join 7 2 ∷ Join 5 7
    ∷ Leave 3 2 ∷ Leave 3 7 ∷ Join 3 7 ∷ Members 7 (1 ∷ 1 ∷ 1 ∷ []) ∷ Members 7 (1 ∷ []) ∷ Remove 7 ∷ Members 7 (1 ∷ []) ∷ Remove 7
    ∷ Add 8 ∷ Add 9 ∷ Add 10 ∷ Add 11 ∷ Add 12 ∷ []

-- a step after each
items : List Request → List Item
items [] = []
items (q ∷ qs) = request q ∷ call Step ∷ items qs

-- what they answer: a number and nothing else, or members
only : ℕ → Given
only n = record { number = n; count = 0; words = [] }

listed : ℕ → List ℕ → Given
listed k ws = record { number = 0; count = k; words = ws }

answers : List Given
answers =
    map only (6 ∷ 0 ∷ 7 ∷ 0 ∷ 0 ∷ 23 ∷ 24 ∷ 0 ∷ 0 ∷ 24 ∷ 0 ∷ 0 ∷ 0 ∷ 23 ∷ 25 ∷ 0 ∷ 0 ∷ [])
    ++ (listed 2 (7 ∷ 3 ∷ 1 ∷ []) ∷ listed 2 (7 ∷ []) ∷ only 0 ∷ listed 1 (3 ∷ []) ∷ [])
    ++ map only (23 ∷ 0 ∷ 0 ∷ 0 ∷ 0 ∷ 14 ∷ [])

-- opens every definition that a closed run of the directory computes with
unfoldable pub directory : Unit {0}
unfolding rules directory_call fed_number program append adding making grouping pairing joining leaving removing listing entries members table_next known
directory = tt

directory_example : directory_run box (items requests) ≡ answers
unfolding directory box requests items only listed answers
directory_example = refl

table_example : table_run new_table (feeds_of box (items requests)) ≡ answers
unfolding directory box requests items only listed answers
table_example = refl

-- ---- one birth number left: the store's 16 passes through, and the table is as before

last_of : Store
last_of = with_births box 4294967294

fewer : List Request
fewer = Open script_share ∷ Add 7 ∷ Add 3 ∷ Make 2 ∷ Add 7 ∷ Remove 3 ∷ Remove 7 ∷ Add 7 ∷ []

refusals : List Given
refusals = map only (0 ∷ 0 ∷ 16 ∷ 16 ∷ 24 ∷ 23 ∷ 0 ∷ 16 ∷ [])

directory_numbers : directory_run last_of (items fewer) ≡ refusals
unfolding directory box items only last_of fewer refusals
directory_numbers = refl

table-numbers : table_run new_table (feeds_of last_of (items fewer)) ≡ refusals
unfolding directory box items only last_of fewer refusals
table-numbers = refl

-- ---- a share of 19 words, three records: the store's 17 passes through, and the table is as before

narrow : List Request
narrow = Open 19 ∷ Open script_share ∷ Add 7 ∷ Make 2 ∷ Join 7 2 ∷ Add 3 ∷ Make 5 ∷ Join 7 2 ∷ Leave 7 2 ∷ Join 7 2 ∷ Add 7 ∷ []

narrowed : List Given
narrowed = map only (0 ∷ 7 ∷ 0 ∷ 0 ∷ 0 ∷ 17 ∷ 17 ∷ 24 ∷ 0 ∷ 17 ∷ 24 ∷ [])

directory_shares : directory_run box (items narrow) ≡ narrowed
unfolding directory box items only narrow narrowed
directory_shares = refl

table_shares : table_run new_table (feeds_of box (items narrow)) ≡ narrowed
unfolding directory box items only narrow narrowed
table_shares = refl
