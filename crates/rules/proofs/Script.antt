-- The script example of document 01, computed by the checker from its hexadecimal input to the bytes of its text, over halves of 16 words; and the
-- call of each kind of entry.
use Prim.Native.Nat.{ℕ}
use mathlib.Core.Path.{◌≡◌, refl}
use mathlib.Core.List.{List, [], ◌∷◌, map}
use Rattle.rules.specs.Refusals.{passed}
use Rattle.rules.specs.Runs.{Call, Attach, Detach, SafePoint, Allocate, Load, StoreRef, Read, Write, Move, Clear, SameAs, Get, Put, Step}
use Rattle.rules.specs.Examples.{small}
use Rattle.rules.specs.Script.{kinds, kind_of, big_endian, call_of, body_at, entry_at, lines_of, decimal, text_of, texts_of}
use Rattle.rules.proofs.Examples.{rules}

-- `01 020100 050400000101 0808000000 00000007 010E 020300 0407000000`
abbrev pub input : List ℕ
input =
    0x01 ∷ 0x02 ∷ 0x01 ∷ 0x00 ∷ 0x05 ∷ 0x04 ∷ 0x00 ∷ 0x00 ∷ 0x01 ∷ 0x01 ∷ 0x08 ∷ 0x08 ∷ 0x00 ∷ 0x00 ∷ 0x00 ∷ 0x00 ∷ 0x00
    ∷ 0x00 ∷ 0x07 ∷ 0x01 ∷ 0x0E ∷ 0x02 ∷ 0x03 ∷ 0x00 ∷ 0x04 ∷ 0x07 ∷ 0x00 ∷ 0x00 ∷ 0x00 ∷ []

-- `1 0 0`, `2 0 0`, `3 0 0`, `4 0 1`, `5 0 0`, `6 0 7`, a line each
abbrev pub output : List ℕ
output =
    49 ∷ 32 ∷ 48 ∷ 32 ∷ 48 ∷ 10 ∷ 50 ∷ 32 ∷ 48 ∷ 32 ∷ 48 ∷ 10 ∷ 51 ∷ 32 ∷ 48 ∷ 32 ∷ 48 ∷ 10 ∷ 52 ∷ 32 ∷ 48 ∷ 32 ∷ 49 ∷ 10
    ∷ 53 ∷ 32 ∷ 48 ∷ 32 ∷ 48 ∷ 10 ∷ 54 ∷ 32 ∷ 48 ∷ 32 ∷ 55 ∷ 10 ∷ []

-- opens the definitions of the script
script : Unit {0}
unfolding rules kinds kind_of big_endian call_of body_at entry_at lines_of decimal text_of
script = tt

pub script_example : texts_of (lines_of small input) ≡ output
unfolding script
script_example = refl

-- the call of each kind: a body of it and what it makes
abbrev pub bodies : List (List ℕ)
bodies =
    (1 ∷ 9 ∷ []) ∷ (2 ∷ 9 ∷ []) ∷ (3 ∷ 9 ∷ []) ∷ (4 ∷ 9 ∷ 8 ∷ 7 ∷ 6 ∷ []) ∷ (5 ∷ 9 ∷ 8 ∷ 7 ∷ 6 ∷ []) ∷ (6 ∷ 9 ∷ 8 ∷ 7 ∷ 6 ∷ [])
    ∷ (7 ∷ 9 ∷ 8 ∷ 7 ∷ []) ∷ (8 ∷ 9 ∷ 8 ∷ 7 ∷ 1 ∷ 2 ∷ 3 ∷ 4 ∷ []) ∷ (9 ∷ 9 ∷ 8 ∷ 7 ∷ []) ∷ (10 ∷ 9 ∷ 8 ∷ []) ∷ (11 ∷ 9 ∷ 8 ∷ 7 ∷ [])
    ∷ (12 ∷ 9 ∷ 8 ∷ 7 ∷ []) ∷ (13 ∷ 9 ∷ 8 ∷ 7 ∷ []) ∷ (14 ∷ []) ∷ []

abbrev pub made : List Call
made =
    Attach 9 4294967295 ∷ Detach 9 ∷ SafePoint 9 ∷ Allocate 9 8 7 6 ∷ Load 9 8 7 6 ∷ StoreRef 9 8 7 6 ∷ Read 9 8 7 ∷ Write 9 8 7 0x01020304
    ∷ Move 9 8 7 ∷ Clear 9 8 ∷ SameAs 9 8 7 ∷ Get 9 8 7 ∷ Put 9 8 7 ∷ Step ∷ []

pub every_kind : map call_of bodies ≡ map passed made
unfolding script
every_kind = refl

-- an empty input and a bad version answer `0 15 0`; a version byte alone writes nothing
abbrev pub bad_version : List ℕ
bad_version = 48 ∷ 32 ∷ 49 ∷ 53 ∷ 32 ∷ 48 ∷ 10 ∷ []

pub empty_input : texts_of (lines_of small []) ≡ bad_version
unfolding script
empty_input = refl

pub other_version : texts_of (lines_of small (0x02 ∷ 0x01 ∷ 0x0E ∷ [])) ≡ bad_version
unfolding script
other_version = refl

pub version_alone : texts_of (lines_of small (0x01 ∷ [])) ≡ []
unfolding script
version_alone = refl

-- an unknown kind, a wrong length and a cut end are 15, and nothing is read after it
pub bad_kind : texts_of (lines_of small (0x01 ∷ 0x01 ∷ 0x0F ∷ 0x01 ∷ 0x0E ∷ [])) ≡ 49 ∷ 32 ∷ 49 ∷ 53 ∷ 32 ∷ 48 ∷ 10 ∷ []
unfolding script
bad_kind = refl

pub bad-length : texts_of (lines_of small (0x01 ∷ 0x02 ∷ 0x0E ∷ 0x00 ∷ 0x01 ∷ 0x0E ∷ [])) ≡ 49 ∷ 32 ∷ 49 ∷ 53 ∷ 32 ∷ 48 ∷ 10 ∷ []
unfolding script
bad-length = refl

pub cut-end : texts_of (lines_of small (0x01 ∷ 0x02 ∷ 0x01 ∷ [])) ≡ 49 ∷ 32 ∷ 49 ∷ 53 ∷ 32 ∷ 48 ∷ 10 ∷ []
unfolding script
cut-end = refl
