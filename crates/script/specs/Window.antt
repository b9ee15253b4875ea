-- The input buffer: which of its bytes hold entries that are still to be done.
use Rattle.std.specs.Prelude.{ℕ, ◌+◌, ◌-◌, ◌≤◌, ◌≡◌, Bool, true, false, cond, ◌&&◌, List, ◌++◌, leb, ltb, length, take, drop}
use Rattle.std.proofs.Math.Seq.{slice}

-- "version byte 1"
abbrev pub version : ℕ
version = 1

-- the bytes of a script's longest entry that isn't 15, its length byte among them
abbrev pub longest_entry : ℕ
longest_entry = 9

-- whether an entry at a place, of at most so many bytes, may run past what is filled. A buffer that isn't full holds the end of
-- the input
unfoldable pub is_short : ℕ → ℕ → ℕ → ℕ → Bool
is_short longest at filled size = leb size filled && ltb (filled - at) longest

-- where the entries that are wholly in the buffer stop
unfoldable pub stop_of : ℕ → ℕ → ℕ
stop_of filled size = cond (ltb filled size) filled (filled + 1 - longest_entry)

-- the bytes from a place up to what is filled at the front, and those behind them as they were
unfoldable pub kept : List ℕ → ℕ → ℕ → List ℕ
kept bs at filled = slice at filled bs ++ drop (length (slice at filled bs)) bs

-- a buffer before and after it was read on, for entries of at most so many bytes
pub record Fetched (longest : ℕ) (bs : List ℕ) (at filled : ℕ) (bs' : List ℕ) (at' filled' : ℕ) : Type 0 where
  -- no entry is short: nothing is touched
  pub same : is_short longest at filled (length bs) ≡ false → (bs' ≡ bs) × (at' ≡ at) × (filled' ≡ filled)
  -- one is: the next entry is at the front
  pub front : is_short longest at filled (length bs) ≡ true → at' ≡ 0
  -- what was still to be done comes first
  pub first : take (length (slice at filled bs)) (slice at' filled' bs') ≡ slice at filled bs
  pub begins : at ≤ filled → at' ≤ filled'
  pub within : filled' ≤ length bs'
  -- no entry is short any more, if the buffer can hold one
  pub whole : longest ≤ length bs → is_short longest at' filled' (length bs') ≡ false
