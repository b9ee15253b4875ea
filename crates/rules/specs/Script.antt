-- The script program: the entries of its input, the call of each, and the lines that it writes.
use Rattle.std.specs.Prelude.{ℕ, zero, suc, ◌+◌, ◌*◌, ◌-◌, ◌/◌, ◌%◌, cond, ◌&&◌, List, [], ◌∷◌, ◌++◌, leb, ltb, eqb, length, get_or, take, drop}
use Rattle.rules.specs.Refusals.{Tested, refused, passed, check, ◌>>=◌, ◌>>◌, Reply, answer, words, number_of, value_of}
use Rattle.rules.specs.Control.{Store}
use Rattle.rules.specs.Runs.{Call, Attach, Detach, SafePoint, Allocate, Load, StoreRef, Read, Write, Move, Clear, SameAs, Get, Put, Step, apply}

-- ---- the call of an entry's body

-- a kind of entry: its length byte (the kind byte and the argument bytes), and its call
pub record Kind : Type 0 where
  pub size : ℕ
  pub call : Call

-- "value in four bytes, big-endian"
unfoldable pub big_endian : ℕ → ℕ → ℕ → ℕ → ℕ
big_endian a b c d = ((a * 256 + b) * 256 + c) * 256 + d

-- the number in four bytes from place i on
unfoldable pub number_at : List ℕ → ℕ → ℕ
number_at b i = big_endian (get_or b i 0) (get_or b (i + 1) 0) (get_or b (i + 2) 0) (get_or b (i + 3) 0)

-- request [7], of a share: "in a script it is 4,294,967,295"
abbrev pub script_share : ℕ
script_share = 4294967295

-- the kinds 1 to 14 in order, "argument bytes in the order given"; a body's byte 0 is the kind
unfoldable pub kinds : List ℕ → List Kind
kinds b =
    record { size = 2; call = Attach (get_or b 1 0) script_share }
    ∷ record { size = 2; call = Detach (get_or b 1 0) }
    ∷ record { size = 2; call = SafePoint (get_or b 1 0) }
    ∷ record { size = 5; call = Allocate (get_or b 1 0) (get_or b 2 0) (get_or b 3 0) (get_or b 4 0) }
    ∷ record { size = 5; call = Load (get_or b 1 0) (get_or b 2 0) (get_or b 3 0) (get_or b 4 0) }
    ∷ record { size = 5; call = StoreRef (get_or b 1 0) (get_or b 2 0) (get_or b 3 0) (get_or b 4 0) }
    ∷ record { size = 4; call = Read (get_or b 1 0) (get_or b 2 0) (get_or b 3 0) }
    ∷ record {
      size = 8;
      call = Write (get_or b 1 0) (get_or b 2 0) (get_or b 3 0) (big_endian (get_or b 4 0) (get_or b 5 0) (get_or b 6 0) (get_or b 7 0));
    }
    ∷ record { size = 4; call = Move (get_or b 1 0) (get_or b 2 0) (get_or b 3 0) }
    ∷ record { size = 3; call = Clear (get_or b 1 0) (get_or b 2 0) }
    ∷ record { size = 4; call = SameAs (get_or b 1 0) (get_or b 2 0) (get_or b 3 0) }
    ∷ record { size = 4; call = Get (get_or b 1 0) (get_or b 2 0) (get_or b 3 0) }
    ∷ record { size = 4; call = Put (get_or b 1 0) (get_or b 2 0) (get_or b 3 0) }
    ∷ record { size = 1; call = Step }
    ∷ []

-- the kind of number k, from 1 to 14
unfoldable pub kind_of : List ℕ → ℕ → Kind
kind_of b k = get_or (kinds b) (k - 1) (record { size = 0; call = Step })

-- "15 bad … entry length, kind": the call that a body makes
unfoldable pub call_of : List ℕ → Tested Call
call_of b = do
  check (leb 1 (get_or b 0 0) && leb (get_or b 0 0) 14) 15
  check (eqb (length b) (kind_of b (get_or b 0 0)).size) 15
  passed (kind_of b (get_or b 0 0)).call

-- ---- entries

-- what stands at a place of the input: nothing more, an entry that is 15, or a call and the place of the next entry
pub data Entry : Type 0 where
  ended : Entry
  bad : Entry
  call : Call → ℕ → Entry

-- "length byte (bytes after it)"; "15 … cut end": the bytes after the length byte at place i
unfoldable pub body_at : List ℕ → ℕ → Tested (List ℕ)
body_at bs i = do
  check (leb (i + 1 + get_or bs i 0) (length bs)) 15
  passed (take (get_or bs i 0) (drop (i + 1) bs))

abbrev pub call_then : Tested Call → ℕ → Entry
call_then (refused n) j = bad
call_then (passed c) j = call c j

unfoldable pub entry_at : List ℕ → ℕ → Entry
entry_at bs i = cond (leb (length bs) i) ended (call_then (body_at bs i >>= call_of) (i + 1 + get_or bs i 0))

-- ---- lines

-- "one line an entry: entry number from 1, refusal number or 0, value"
pub record Line : Type 0 where
  pub entry : ℕ
  pub refusal : ℕ
  pub value : ℕ

abbrev pub bad_line : ℕ → Line
bad_line n = record { entry = n; refusal = 15; value = 0 }

abbrev pub line_of : ℕ → Reply → Line
line_of n (answer a) = record { entry = n; refusal = number_of a; value = value_of a }
line_of n (words ws) = record { entry = n; refusal = 0; value = 0 }

-- by what stands there
abbrev pub by_entry : {A : Type 0} → Entry → A → A → (Call → ℕ → A) → A
by_entry ended e b f = e
by_entry bad e b f = b
by_entry (call c j) e b f = f c j

-- the lines of the entries from place i on, the first of them being entry n: "15 writes its line and stops". Each entry
-- takes a byte at least, so as many turns as there are bytes are enough
abbrev pub lines_from : ℕ → Store → List ℕ → ℕ → ℕ → List Line
lines_from zero s bs i n = []
lines_from (suc turns) s bs i n =
    by_entry (entry_at bs i) [] (bad_line n ∷ []) (λ c j. line_of n (apply s c).reply ∷ lines_from turns (apply s c).store bs j (n + 1))

-- "version byte 1, then entries"; "a bad version or empty input is entry 0"
unfoldable pub lines_of : Store → List ℕ → List Line
lines_of s bs = cond (eqb (get_or bs 0 0) 1) (lines_from (length bs) s bs 1 1) (bad_line 0 ∷ [])

-- ---- the text of a line

abbrev pub digit : ℕ → ℕ
digit d = 48 + d

-- the decimal digits of n, of which there are fewer than turns
abbrev pub digits_with : ℕ → ℕ → List ℕ
digits_with zero n = []
digits_with (suc turns) n = cond (ltb n 10) (digit n ∷ []) (digits_with turns (n / 10) ++ (digit (n % 10) ∷ []))

-- a number in decimal, without leading zeros
unfoldable pub decimal : ℕ → List ℕ
decimal n = digits_with (suc n) n

abbrev pub space : ℕ
space = 32

abbrev pub newline : ℕ
newline = 10

unfoldable pub text_of : Line → List ℕ
text_of l =
    decimal l.entry ++ (space ∷ []) ++ decimal l.refusal ++ (space ∷ []) ++ decimal l.value ++ (newline ∷ [])

-- the text of some lines: what the program writes
abbrev pub texts_of : List Line → List ℕ
texts_of [] = []
texts_of (l ∷ ls) = text_of l ++ texts_of ls
