-- Runs of the code with directory calls: calls of the store's methods and of the directory's functions one after another, each on
-- the control record and the words that the one before left; and what is claimed of them.
use Rattle.std.specs.Prelude.{ℕ, ◌≡◌, true, List, [], ◌∷◌}
use Rattle.rules.specs.Refusals as rules
use Rattle.rules.specs.Runs.{Call}
use Rattle.store.specs.View.{view}
use Rattle.store.specs.CodeRuns.{Lent, lent, viewed, CodeMade, Called}
use Rattle.store.specs.declared.Control.{Control}
use Rattle.directory_rules.specs.Table.{Request, Open, Add, Remove, Make, Join, Leave, Members, Given, new_table}
use Rattle.directory_rules.specs.Directory.{directory_call}
use Rattle.directory_rules.specs.Runs.{Item, call, request, allowed, after_items, directory_run, feeds_of, table_run}
use Rattle.directory.specs.Answers.{number_of, count_of}
use Rattle.directory.specs.View.{left}
use Rattle.directory.specs.declared.Reply.{Reply}

-- what a call answers, with the lent words as it leaves them
abbrev pub given : Reply → List ℕ → Given
given r ws = record { number = number_of r.answer; count = count_of r.answer; words = ws }

-- A directory call of the code on a control record and the words h0, h1 and list: the request, what it answers, and what the next
-- call gets. Each case is one function, with its contract as its `ensures` has it. That the contract of each function, as the
-- checker has it, gives its case is shown in `proofs/runs/Contracts.antt`.
pub data Answered (control : Control) (h0 h1 list : List ℕ) : Request → Given → Lent → Type 0 where
  by_open : (share : ℕ) (r : Reply)
      → left r h0 h1 list [] ≡ directory_call (view control h0 h1 list) (Open share)
      → Answered control h0 h1 list (Open share) (given r []) (lent r.control h0 h1 list)
  by_add : (person : ℕ) (r : Reply) (h0' h1' list' : List ℕ)
      → left r h0' h1' list' [] ≡ directory_call (view control h0 h1 list) (Add person)
      → Answered control h0 h1 list (Add person) (given r []) (lent r.control h0' h1' list')
  by_remove : (person : ℕ) (r : Reply) (h0' h1' list' : List ℕ)
      → left r h0' h1' list' [] ≡ directory_call (view control h0 h1 list) (Remove person)
      → Answered control h0 h1 list (Remove person) (given r []) (lent r.control h0' h1' list')
  by_make_group : (group : ℕ) (r : Reply) (h0' h1' list' : List ℕ)
      → left r h0' h1' list' [] ≡ directory_call (view control h0 h1 list) (Make group)
      → Answered control h0 h1 list (Make group) (given r []) (lent r.control h0' h1' list')
  by_join : (person group : ℕ) (r : Reply) (h0' h1' list' : List ℕ)
      → left r h0' h1' list' [] ≡ directory_call (view control h0 h1 list) (Join person group)
      → Answered control h0 h1 list (Join person group) (given r []) (lent r.control h0' h1' list')
  by_leave : (person group : ℕ) (r : Reply) (h0' h1' list' : List ℕ)
      → left r h0' h1' list' [] ≡ directory_call (view control h0 h1 list) (Leave person group)
      → Answered control h0 h1 list (Leave person group) (given r []) (lent r.control h0' h1' list')
  by_list_members : (group : ℕ) (out out' : List ℕ) (r : Reply)
      → left r h0 h1 list out' ≡ directory_call (view control h0 h1 list) (Members group out)
      → Answered control h0 h1 list (Members group out) (given r out') (lent r.control h0 h1 list)

-- calls of the code from a, what its directory calls answer in order, and what they leave
pub data CodeItems : Lent → List Item → List Given → Lent → Type 0 where
  ended : {a : Lent} → CodeItems a [] [] a
  next-call : {a b e : Lent} {c : Call} {r : rules.Reply} {xs : List Item} {gs : List Given}
      → Called a.control a.half0 a.half1 a.list c r b
      → CodeItems b xs gs e
      → CodeItems a (call c ∷ xs) gs e
  next-request : {a b e : Lent} {q : Request} {g : Given} {xs : List Item} {gs : List Given}
      → Answered a.control a.half0 a.half1 a.list q g b
      → CodeItems b xs gs e
      → CodeItems a (request q ∷ xs) (g ∷ gs) e

-- a run of the code is a run of the rules: the same answers and the same last store
unfoldable pub CodeItemsRun : Type 0
CodeItemsRun =
    (a e : Lent) (xs : List Item) (gs : List Given) → CodeItems a xs gs e
    → (gs ≡ directory_run (viewed a) xs) × (viewed e ≡ after_items (viewed a) xs)

-- `TableAnswers`, of the code
unfoldable pub CodeTableAnswers : Type 0
CodeTableAnswers =
    (a e : Lent) (xs : List Item) (gs : List Given) → CodeMade a → CodeItems a xs gs e → allowed xs ≡ true
    → gs ≡ table_run new_table (feeds_of (viewed a) xs)
