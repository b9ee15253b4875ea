-- The claims about the test load.
use Rattle.std.specs.Prelude.{ℕ, zero, suc, ◌+◌, ◌^◌, ◌≤◌, ◌<◌, ◌≡◌, ◌≢◌, Bool, true, false, not, ◌&&◌, List, [], ◌∷◌, ◌++◌, leb, eqb, length, take}
use Rattle.rules.specs.Refusals.{answer}
use Rattle.rules.specs.Control.{Store}
use Rattle.rules.specs.Runs.{Call, apply}
use Rattle.rules.specs.Script.{by_entry, entry_at, Line, lines_of}
use Rattle.rules.specs.Answers.{Refused}
use Rattle.workload.specs.Load.{xorshift32, argument, calls_from, load_of, count_in, generate}
use Rattle.workload.specs.Pieces.{coming, any_left, started, longest_entry, filled}
use Rattle.workload.specs.declared.entries.Class.TheVariants.{Value}
use Rattle.workload.specs.declared.pieces.Rest.{Rest}

-- ---- the values

-- they have 32 bits, and as an argument such a value is whole
unfoldable pub WholeValues : Type 0
WholeValues = (x : ℕ) → x < 2 ^ 32 → (xorshift32 x < 2 ^ 32) × (argument Value x ≡ x)

-- ---- the script's own parse

-- the calls of a script from a place on: one entry is 15, or all of them are calls
pub data Parsed : Type 0 where
  bad : Parsed
  all : List Call → Parsed

abbrev pub before : Call → Parsed → Parsed
before c bad = bad
before c (all cs) = all (c ∷ cs)

-- as `lines_from` of the script goes through the entries; turns that run out before the end are as bad as an entry that is 15
abbrev pub parsed_from : ℕ → List ℕ → ℕ → Parsed
parsed_from zero bs i = bad
parsed_from (suc turns) bs i = by_entry (entry_at bs i) (all []) bad (λ c j. before c (parsed_from turns bs j))

-- the script program finds in a load exactly the calls drawn: none bad, none missing, none left over
unfoldable pub EveryEntry : Type 0
EveryEntry = (seed count : ℕ) → parsed_from (length (load_of seed count)) (load_of seed count) 1 ≡ all (calls_from count (xorshift32 seed))

-- ---- number 15

-- no call of any store answers 15
unfoldable pub NoCall15 : Type 0
NoCall15 = (s : Store) (c : Call) → (apply s c).reply ≢ answer (Refused 15)

abbrev pub without : ℕ → List Line → Bool
without n [] = true
without n (l ∷ ls) = not (eqb l.refusal n) && without n ls

-- "no other script meets number 15": of the lines that the script program writes of it, on any store, none has that number
unfoldable pub No15 : Type 0
No15 = (s : Store) (bs : List ℕ) → generate bs ≢ [] → without 15 (lines_of s (generate bs)) ≡ true

-- and there are as many of them as the count says
unfoldable pub LineEach : Type 0
LineEach = (s : Store) (bs : List ℕ) → generate bs ≢ [] → length (lines_of s (generate bs)) ≡ count_in bs

-- the lines of a shorter load are the first lines of a longer one: two boxes that part can look for the entry where they do
unfoldable pub FirstLines : Type 0
FirstLines = (s : Store) (seed n m : ℕ) → take n (lines_of s (load_of seed (n + m))) ≡ lines_of s (load_of seed n)

-- ---- how long a load is, and its pieces

-- the version byte, and 100,000 entries of nine bytes at the most
unfoldable pub Bounded : Type 0
Bounded = (bs : List ℕ) → length (generate bs) ≤ 900001

-- buffers filled one after another: the bytes put into them, and what is still to come after them
abbrev pub joined : Rest → List (List ℕ) → List ℕ
joined r [] = []
joined r (out ∷ outs) = take (filled r out).end (filled r out).out ++ joined (filled r out).rest outs

abbrev pub rest_after : Rest → List (List ℕ) → Rest
rest_after r [] = r
rest_after r (out ∷ outs) = rest_after (filled r out).rest outs

-- whatever the buffers, what was put into them and what is still to come make up what was to come
unfoldable pub NothingLost : Type 0
NothingLost = (r : Rest) (outs : List (List ℕ)) → joined r outs ++ coming (rest_after r outs) ≡ coming r

-- so, when nothing is left, the pieces joined are the definition's bytes, whatever the buffers' lengths
unfoldable pub PiecesJoined : Type 0
PiecesJoined =
    (bs : List ℕ) (outs : List (List ℕ)) → any_left (rest_after (started bs) outs) ≡ false → joined (started bs) outs ≡ generate bs

abbrev pub roomy : List (List ℕ) → Bool
roomy [] = true
roomy (out ∷ outs) = leb longest_entry (length out) && roomy outs

-- and nothing is left after buffers of nine bytes or more, one for the version byte and one for each entry
unfoldable pub PiecesEnd : Type 0
PiecesEnd =
    (bs : List ℕ) (outs : List (List ℕ)) → roomy outs ≡ true → count_in bs + 1 ≤ length outs → any_left (rest_after (started bs) outs) ≡ false
