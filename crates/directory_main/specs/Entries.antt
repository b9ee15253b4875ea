-- The entries of the directory's own kinds, and the requests that they make.
use Rattle.std.specs.Prelude.{ℕ, ◌+◌, ◌-◌, Bool, cond, ◌&&◌, Option, None, Some, List, [], ◌∷◌, leb, eqb, length, get_or}
use Rattle.rules.specs.Script.{number_at, script_share}
use Rattle.directory_rules.specs.Table as table
use Rattle.directory_main.specs.declared.entries.Request.{Request}
use Rattle.directory_main.specs.declared.entries.Request.TheVariants.{Open, Add, Remove, Make, Join, Leave, List as Members}

-- ---- the code's requests as those of the directory

-- with the words that it is lent, which only a list is
abbrev pub asked : Request → List ℕ → table.Request
asked Open ws = table.Open script_share
asked (Add n) ws = table.Add n
asked (Remove n) ws = table.Remove n
asked (Make g) ws = table.Make g
asked (Join n g) ws = table.Join n g
asked (Leave n g) ws = table.Leave n g
asked (Members g k) ws = table.Members g ws

-- how many words a request is lent
abbrev pub lent_by : Request → ℕ
lent_by Open = 0
lent_by (Add n) = 0
lent_by (Remove n) = 0
lent_by (Make g) = 0
lent_by (Join n g) = 0
lent_by (Leave n g) = 0
lent_by (Members g k) = k

-- ---- the request of an entry, of whose bytes the first is the length byte and the next the kind

-- a kind of entry: its length byte, and its request
pub record Kind : Type 0 where
  pub size : ℕ
  pub request : Request

-- the kinds 16 to 22 in order; "numbers are four bytes, big-endian"
unfoldable pub kinds : List ℕ → List Kind
kinds b =
    record { size = 1; request = Open }
    ∷ record { size = 5; request = Add (number_at b 2) }
    ∷ record { size = 5; request = Remove (number_at b 2) }
    ∷ record { size = 5; request = Make (number_at b 2) }
    ∷ record { size = 9; request = Join (number_at b 2) (number_at b 6) }
    ∷ record { size = 9; request = Leave (number_at b 2) (number_at b 6) }
    ∷ record { size = 6; request = Members (number_at b 2) (get_or b 6 0) }
    ∷ []

-- the kind of number k, from 16 to 22
unfoldable pub kind_of : List ℕ → ℕ → Kind
kind_of b k = get_or (kinds b) (k - 16) (record { size = 0; request = Open })

-- an entry that is whole and has the length byte of its kind
unfoldable pub is_own : List ℕ → Bool
is_own b =
    leb 16 (get_or b 1 0) && leb (get_or b 1 0) 22 && eqb (get_or b 0 0) (kind_of b (get_or b 1 0)).size
    && eqb (length b) (1 + get_or b 0 0)

-- the request of an entry of the directory's own kinds
unfoldable pub entry_of : List ℕ → Option Request
entry_of b = cond (is_own b) (Some (kind_of b (get_or b 1 0)).request) None
