-- The load in pieces: what is still to come of it, and what of that goes into a buffer.
use Rattle.std.specs.Prelude.{ℕ, zero, suc, ◌+◌, Bool, true, false, cond, ◌||◌, List, [], ◌∷◌, ◌++◌, leb, ltb, length}
use Rattle.std.proofs.lemmas.List.Edits.{sets}
use Rattle.workload.specs.Load.{xorshift32, draw, entry_bytes, entries_from, version_byte, seed_in, count_in, accepted}
use Rattle.workload.specs.declared.pieces.Rest.{Rest}
use Rattle.workload.specs.declared.pieces.Piece.{Piece}

-- the version byte, where it is still to come
abbrev pub opening : Bool → List ℕ
opening version = cond version (version_byte ∷ []) []

-- the bytes still to come
abbrev pub coming : Rest → List ℕ
coming r = opening r.version ++ entries_from r.left r.value

abbrev pub nothing : Rest
nothing = record { version = false; value = 0; left = 0 }

-- whether there are any
unfoldable pub any_left : Rest → Bool
any_left r = r.version || ltb 0 r.left

-- what an input asks for
unfoldable pub started : List ℕ → Rest
started bs = cond (accepted bs) (record { version = true; value = xorshift32 (seed_in bs); left = count_in bs }) nothing

-- the bytes of the longest entry of a load, its length byte among them
abbrev pub longest_entry : ℕ
longest_entry = 9

-- after a buffer was filled: what is still to come, the buffer, and the end of the bytes put into it
pub record Fill : Type 0 where
  pub rest : Rest
  pub out : List ℕ
  pub end : ℕ

-- what the code leaves
abbrev pub fill_of : Piece → List ℕ → Fill
fill_of p out = record { rest = p.rest; out = out; end = p.end }

-- entries one after another, each whole, as long as the longest has room
abbrev pub entries_into : ℕ → ℕ → List ℕ → ℕ → Fill
entries_into zero x out end = record { rest = record { version = false; value = x; left = 0 }; out = out; end = end }
entries_into (suc n) x out end =
    cond (leb (end + longest_entry) (length out))
    (entries_into n (draw x).next (sets out end (entry_bytes (draw x))) (end + length (entry_bytes (draw x))))
    (record { rest = record { version = false; value = x; left = suc n }; out = out; end = end })

-- a buffer filled from its start; one with no room for the longest entry gets nothing
unfoldable pub filled : Rest → List ℕ → Fill
filled r out =
    cond (leb longest_entry (length out))
    (entries_into r.left r.value (sets out 0 (opening r.version)) (length (opening r.version)))
    (record { rest = r; out = out; end = 0 })
