-- Examples: the starred ones as one table. Each row has what the rules give and what document 01 says, with what request [6] changes of
-- it ("list of 4 made, of 3: 3; the third record: 14; 12 and 4 words fit"). Each attach has the share of a script, which is never passed here.
use Rattle.std.specs.Prelude.{ℕ, ◌≡◌, List, [], ◌∷◌, map, replicate}
use Rattle.rules.specs.Refusals.{Reply, answer, words, refusal_of, number_of, value_of}
use Rattle.rules.specs.Memory.{reference}
use Rattle.rules.specs.Control.{Store, new_store, making}
use Rattle.rules.specs.Runs.{Call, Attach, Allocate, Load, Read, SameAs, run}
use Rattle.rules.specs.Script.{script_share}

pub record Example : Type 0 where
  pub given : List ℕ
  pub expected : List ℕ

-- of every row of a table what is given is what is expected
abbrev pub Computed : List Example → Type 0
Computed xs = map (λ x. x.given) xs ≡ map (λ x. x.expected) xs

-- the refusal of a making
unfoldable pub making_of : ℕ → ℕ → ℕ → ℕ
making_of h0 h1 l = refusal_of (making (record { half0 = h0; half1 = h1; list = l }))

-- a new store with halves of 16 words and a list of 4
unfoldable pub small : Store
small = new_store (record { half0 = 16; half1 = 16; list = 4 }) (replicate 16 0) (replicate 16 0) (replicate 4 0)

-- the refusal number of each reply, and the value of each
abbrev pub reply_number : Reply → ℕ
reply_number (answer a) = number_of a
reply_number (words ws) = 0

abbrev pub reply_value : Reply → ℕ
reply_value (answer a) = value_of a
reply_value (words ws) = 0

unfoldable pub numbers : List Call → List ℕ
numbers cs = map reply_number (run small cs)

unfoldable pub values : List Call → List ℕ
values cs = map reply_value (run small cs)

unfoldable pub starred : List Example
starred =
    -- halves of 16, list of 4: made; list of 3: 3
    record { given = making_of 16 16 4 ∷ making_of 16 16 3 ∷ []; expected = 0 ∷ 3 ∷ [] }
    -- halves of 15: 1
    ∷ record { given = making_of 15 15 4 ∷ []; expected = 1 ∷ [] }
    -- halves 16 and 17: 2
    ∷ record { given = making_of 16 17 4 ∷ []; expected = 2 ∷ [] }
    -- in 16 words two records with r = 1, p = 1 fit, the third: 14
    ∷ record {
      given = numbers (Attach 0 script_share ∷ Allocate 0 0 1 1 ∷ Allocate 0 1 1 1 ∷ Allocate 0 2 1 1 ∷ []);
      expected = 0 ∷ 0 ∷ 0 ∷ 14 ∷ [];
    }
    -- one of 12 words and one of 4 fit
    ∷ record { given = numbers (Attach 0 script_share ∷ Allocate 0 0 4 4 ∷ Allocate 0 1 0 0 ∷ []); expected = 0 ∷ 0 ∷ 0 ∷ [] }
    -- r = 255 passes the shape test (and finds no room in 16 words), 256: 10
    ∷ record { given = numbers (Attach 0 script_share ∷ Allocate 0 0 255 0 ∷ Allocate 0 0 256 0 ∷ []); expected = 0 ∷ 14 ∷ 10 ∷ [] }
    -- session 16: 5
    ∷ record { given = numbers (Attach 16 script_share ∷ []); expected = 5 ∷ [] }
    -- word 5 has references 12 and 13
    ∷ record { given = reference 0 5 ∷ reference 1 5 ∷ []; expected = 12 ∷ 13 ∷ [] }
    -- same on two null registers: yes
    ∷ record { given = values (Attach 0 script_share ∷ SameAs 0 0 1 ∷ []); expected = 0 ∷ 1 ∷ [] }
    -- a field equal to the count: 13
    ∷ record {
      given = numbers (Attach 0 script_share ∷ Allocate 0 0 1 2 ∷ Load 0 1 0 1 ∷ Read 0 0 2 ∷ []);
      expected = 0 ∷ 0 ∷ 13 ∷ 13 ∷ [];
    }
    ∷ []
