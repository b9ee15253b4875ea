-- Limits: the numbers and orders that document 02 names of the directory, as one table. Each row has what the rules give and what the paper says.
-- Of a limit it has the last value that passes and the first that doesn't, by the refusal number of a call, which is 0 where it is done.
use Rattle.std.specs.Prelude.{ℕ, ◌/◌, cond, List, [], ◌∷◌, ◌++◌, map, replicate}
use Rattle.rules.specs.Refusals.{refusal_of, answer}
use Rattle.rules.specs.Control.{Store, new_store}
use Rattle.rules.specs.Runs.{Clear, Get, Load, Put, StoreRef}
use Rattle.rules.specs.Examples.{Example}
use Rattle.rules.specs.Answers.{Refused}
use Rattle.directory_rules.specs.Table.{Request, Open, Add, Remove, Make, Join, Leave, Members}
use Rattle.directory_rules.specs.Acts.{perform, refused_by}
use Rattle.directory_rules.specs.Directory.{group_mark, program, fed_number}
use Rattle.directory_rules.specs.Runs.{Item, call, request, others, after_items, directory_run}

-- ---- what the rows look at

-- a new store with halves of n words
unfoldable pub empty : ℕ → Store
empty n = new_store (record { half0 = n; half1 = n; list = n / 4 }) (replicate n 0) (replicate n 0) (replicate (n / 4) 0)

-- the refusal numbers of the directory calls among some items, from that store on, and of directory calls one after another
unfoldable pub numbers_among : ℕ → List Item → List ℕ
numbers_among n xs = map (λ g. g.number) (directory_run (empty n) xs)

unfoldable pub numbers : ℕ → List Request → List ℕ
numbers n qs = numbers_among n (map request qs)

-- group 2 and people 7 and 8, of whom 7 is a member: 25 words
abbrev pub office : List Request
office = Open 99 ∷ Make 2 ∷ Add 7 ∷ Add 8 ∷ Join 7 2 ∷ []

-- the refusal number of a call after some others, its walks bounded by k links
unfoldable pub bounded : List Request → Request → ℕ → ℕ
bounded qs q k = refusal_of (perform (after_items (empty 31) (map request qs)) (program k q)).result

-- calls of session 15 that damage a chain: the first entry names itself, and the first member of the first group does
abbrev pub entry_ring : List Item
entry_ring = map call (Get 15 0 31 ∷ StoreRef 15 0 0 0 ∷ [])

abbrev pub member_ring : List Item
member_ring = map call (Get 15 0 31 ∷ Load 15 1 0 1 ∷ StoreRef 15 1 0 1 ∷ [])

-- of two groups and a person the person names the second group, which is the first member of the first: a removal cuts the person out there, and
-- then the second group names itself
abbrev pub group_ring : List Item
group_ring = map call (Get 15 0 31 ∷ Load 15 1 0 0 ∷ Load 15 2 1 0 ∷ StoreRef 15 2 0 1 ∷ StoreRef 15 0 1 1 ∷ [])

-- ---- the rows

-- numbers, refusals, and what is the directory's alone
unfoldable pub number_rows : List Example
number_rows =
    -- "an eight-digit number"; "23 (everywhere a number above 99,999,999)", also where it is the word of group 2
    record { given = numbers 16 (Open 99 ∷ Add 99999999 ∷ Add 100000000 ∷ Make 99999999 ∷ Make 100000000 ∷ []); expected = 0 ∷ 0 ∷ 23 ∷ 0 ∷ 23 ∷ [] }
    ∷ record {
      given = numbers 16 (Open 99 ∷ Make 2 ∷ Add 100000002 ∷ Remove 100000002 ∷ Join 100000002 2 ∷ Leave 100000002 2 ∷ []);
      expected = 0 ∷ 0 ∷ 23 ∷ 23 ∷ 23 ∷ 23 ∷ [];
    }
    ∷ record { given = group_mark ∷ []; expected = 100000000 ∷ [] }
    -- "an unknown person or group is refused with 23"
    ∷ record {
      given = numbers 25 (office ++ (Remove 6 ∷ Join 6 2 ∷ Join 7 3 ∷ Leave 6 2 ∷ Leave 7 3 ∷ Members 3 [] ∷ []));
      expected = replicate 5 0 ++ replicate 6 23;
    }
    -- "then joining, adding or making twice with 24, leaving when absent with 25, all before allocating": with no word left
    ∷ record { given = numbers 25 (office ++ (Join 7 2 ∷ Add 7 ∷ Make 2 ∷ Leave 8 2 ∷ Join 8 2 ∷ [])); expected = replicate 5 0 ++ (24 ∷ 24 ∷ 24 ∷ 25 ∷ 14 ∷ []) }
    -- "Store refusals pass through by number": not attached, attached already, past the share
    ∷ record { given = numbers 16 (Add 7 ∷ Open 6 ∷ Open 6 ∷ Add 7 ∷ Add 8 ∷ Add 7 ∷ Add 100000000 ∷ []); expected = 6 ∷ 0 ∷ 7 ∷ 0 ∷ 17 ∷ 24 ∷ 23 ∷ [] }
    -- what the table is fed: the number of a refused allocation, 0 where none is refused or made
    ∷ record {
      given = fed_number (empty 16) (Open 6) ∷ map (fed_number (after_items (empty 16) (request (Open 6) ∷ []))) (Remove 7 ∷ Add 7 ∷ Make 2 ∷ []);
      expected = 0 ∷ 0 ∷ 0 ∷ 17 ∷ [];
    }
    ∷ record { given = map (λ n. refused_by (answer (Refused n))) (12 ∷ 13 ∷ 14 ∷ 15 ∷ 16 ∷ 17 ∷ 18 ∷ []); expected = 0 ∷ 0 ∷ 14 ∷ 0 ∷ 16 ∷ 17 ∷ 0 ∷ [] }
    -- "Session 15 and global 31 are the directory's alone"
    ∷ record { given = map (λ x. cond x.attached 1 0) (after_items (empty 16) (request (Open 99) ∷ [])).sessions; expected = replicate 15 0 ++ (1 ∷ []) }
    ∷ record { given = (after_items (empty 16) (map request (Open 99 ∷ Add 7 ∷ []))).globals; expected = replicate 31 0 ++ (2 ∷ []) }
    ∷ record {
      given = map (λ c. cond (others c) 1 0) (Clear 14 0 ∷ Clear 15 0 ∷ Clear 16 0 ∷ Get 0 0 30 ∷ Get 0 0 31 ∷ Put 0 30 0 ∷ Put 0 31 0 ∷ []);
      expected = 1 ∷ 0 ∷ 1 ∷ 1 ∷ 0 ∷ 1 ∷ 0 ∷ [];
    }
    -- "allocate one record of at most three fields": shares that are enough for a group of three, and with it a person and a link of two, or not
    ∷ record { given = numbers 16 (Open 7 ∷ Make 2 ∷ []) ++ numbers 16 (Open 6 ∷ Make 2 ∷ []); expected = 0 ∷ 0 ∷ 0 ∷ 17 ∷ [] }
    ∷ record {
      given = numbers 19 (Open 19 ∷ Make 2 ∷ Add 7 ∷ Join 7 2 ∷ []) ++ numbers 19 (Open 18 ∷ Make 2 ∷ Add 7 ∷ Join 7 2 ∷ []);
      expected = replicate 7 0 ++ (17 ∷ []);
    }
    ∷ []

-- 26
unfoldable pub chain_rows : List Example
chain_rows =
    -- "a chain of more links than a half has words is 26": three entries, at whose end 9 isn't known, and two members
    record { given = map (bounded office (Remove 9)) (3 ∷ 2 ∷ []); expected = 23 ∷ 26 ∷ [] }
    ∷ record { given = map (bounded (office ++ (Join 8 2 ∷ [])) (Members 2 [])) (2 ∷ 1 ∷ []); expected = 0 ∷ 26 ∷ [] }
    -- a chain without end: in the walk over the entries, in the count, in the walk over the members, and in a removal's over the groups
    ∷ record { given = numbers_among 16 (map request (Open 99 ∷ Add 7 ∷ []) ++ entry_ring ++ (request (Add 8) ∷ [])); expected = 0 ∷ 0 ∷ 26 ∷ [] }
    ∷ record { given = numbers_among 25 (map request office ++ member_ring ++ map request (Members 2 [] ∷ Join 8 2 ∷ [])); expected = replicate 5 0 ++ (26 ∷ 26 ∷ []) }
    ∷ record {
      given = numbers_among 20 (map request (Open 99 ∷ Make 1 ∷ Make 2 ∷ Add 7 ∷ []) ++ group_ring ++ (request (Remove 7) ∷ []));
      expected = replicate 4 0 ++ (26 ∷ []);
    }
    ∷ []

unfoldable pub limits : List Example
limits = number_rows ++ chain_rows
