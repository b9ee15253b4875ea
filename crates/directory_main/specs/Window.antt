-- The input buffer: its version byte, its longest entry, and where an entry in it ends.
use Rattle.std.specs.Prelude.{ℕ, ◌+◌, min, List, length, get_or}

-- a script with calls of the directory has the version byte 2
abbrev pub version : ℕ
version = 2

-- the bytes of the longest entry that isn't 15, its length byte among them
abbrev pub longest_entry : ℕ
longest_entry = 10

-- where the entry at a place ends, as far as its bytes are there
unfoldable pub end_of : List ℕ → ℕ → ℕ
end_of bs at = min (length bs) (at + 1 + get_or bs at 0)
