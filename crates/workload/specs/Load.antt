-- The test load: the script that a seed and a count give. A load never changes: its numbers are those of document 02, [2], and not the
-- store's.
use Rattle.std.specs.Prelude.{ℕ, zero, suc, ◌+◌, ◌*◌, ◌/◌, ◌%◌, ◌^◌, Bool, cond, not, ◌&&◌, List, [], ◌∷◌, ◌++◌, leb, eqb, get_or, length}
use Rattle.std.specs.Int.Bits.{bit_xor}
use Rattle.rules.specs.Runs.{Call, Attach, Detach, SafePoint, Allocate, Load, StoreRef, Read, Write, Move, Clear, SameAs, Get, Put, Step}
use Rattle.rules.specs.Script.{number_at, script_share}
use Rattle.workload.specs.declared.entries.Class.{Class}
use Rattle.workload.specs.declared.entries.Class.TheVariants.{Session, Register, Global, Small, Value}

-- ---- the values

-- a 32-bit word shifted left and right by k bits
abbrev pub shift_left : ℕ → ℕ → ℕ
shift_left x k = x * 2 ^ k % 2 ^ 32

abbrev pub shift_right : ℕ → ℕ → ℕ
shift_right x k = x / 2 ^ k

-- "Marsaglia's xorshift32 (left 13, right 17, left 5)": the value after x
unfoldable pub xorshift32 : ℕ → ℕ
xorshift32 x =
    let a = bit_xor x (shift_left x 13) in
    let b = bit_xor a (shift_right a 17) in
    bit_xor b (shift_left b 5)

-- the value k places after x
abbrev pub after : ℕ → ℕ → ℕ
after zero x = x
after (suc k) x = after k (xorshift32 x)

-- ---- the arguments of an entry

-- "mod 16 for sessions, 8 for registers, 32 for globals, 4 for fields, r and p, the four-byte value whole": a value has 32 bits
abbrev pub argument : Class → ℕ → ℕ
argument Session x = x % 16
argument Register x = x % 8
argument Global x = x % 32
argument Small x = x % 4
argument Value x = x % 2 ^ 32

-- byte k of a number, from the lowest on
abbrev pub byte : ℕ → ℕ → ℕ
byte n k = n / 256 ^ k % 256

-- the bytes of an argument, the value's big-endian
abbrev pub bytes_of : Class → ℕ → List ℕ
bytes_of Session n = n ∷ []
bytes_of Register n = n ∷ []
bytes_of Global n = n ∷ []
bytes_of Small n = n ∷ []
bytes_of Value n = byte n 3 ∷ byte n 2 ∷ byte n 1 ∷ byte n 0 ∷ []

-- "the next values its arguments": those from the value x on
abbrev pub drawn_from : List Class → ℕ → List ℕ
drawn_from [] x = []
drawn_from (c ∷ cs) x = argument c x ∷ drawn_from cs (xorshift32 x)

abbrev pub argument_bytes : List Class → List ℕ → List ℕ
argument_bytes [] ns = []
argument_bytes (c ∷ cs) [] = []
argument_bytes (c ∷ cs) (n ∷ ns) = bytes_of c n ++ argument_bytes cs ns

-- ---- the kinds of entries

-- a kind: what its arguments are, "in the order given", and the call that they make
pub record Form : Type 0 where
  pub classes : List Class
  pub call : List ℕ → Call

-- kinds 1 to 14, and no other
abbrev pub kind_count : ℕ
kind_count = 14

unfoldable pub forms : List Form
forms =
    record { classes = Session ∷ []; call = λ a. Attach (get_or a 0 0) script_share }
    ∷ record { classes = Session ∷ []; call = λ a. Detach (get_or a 0 0) }
    ∷ record { classes = Session ∷ []; call = λ a. SafePoint (get_or a 0 0) }
    ∷ record {
      classes = Session ∷ Register ∷ Small ∷ Small ∷ [];
      call = λ a. Allocate (get_or a 0 0) (get_or a 1 0) (get_or a 2 0) (get_or a 3 0);
    }
    ∷ record {
      classes = Session ∷ Register ∷ Register ∷ Small ∷ [];
      call = λ a. Load (get_or a 0 0) (get_or a 1 0) (get_or a 2 0) (get_or a 3 0);
    }
    ∷ record {
      classes = Session ∷ Register ∷ Small ∷ Register ∷ [];
      call = λ a. StoreRef (get_or a 0 0) (get_or a 1 0) (get_or a 2 0) (get_or a 3 0);
    }
    ∷ record { classes = Session ∷ Register ∷ Small ∷ []; call = λ a. Read (get_or a 0 0) (get_or a 1 0) (get_or a 2 0) }
    ∷ record {
      classes = Session ∷ Register ∷ Small ∷ Value ∷ [];
      call = λ a. Write (get_or a 0 0) (get_or a 1 0) (get_or a 2 0) (get_or a 3 0);
    }
    ∷ record { classes = Session ∷ Register ∷ Register ∷ []; call = λ a. Move (get_or a 0 0) (get_or a 1 0) (get_or a 2 0) }
    ∷ record { classes = Session ∷ Register ∷ []; call = λ a. Clear (get_or a 0 0) (get_or a 1 0) }
    ∷ record { classes = Session ∷ Register ∷ Register ∷ []; call = λ a. SameAs (get_or a 0 0) (get_or a 1 0) (get_or a 2 0) }
    ∷ record { classes = Session ∷ Register ∷ Global ∷ []; call = λ a. Get (get_or a 0 0) (get_or a 1 0) (get_or a 2 0) }
    ∷ record { classes = Session ∷ Global ∷ Register ∷ []; call = λ a. Put (get_or a 0 0) (get_or a 1 0) (get_or a 2 0) }
    ∷ record { classes = []; call = λ a. Step }
    ∷ []

-- the form of kind k + 1; past the table, where none is drawn, that of a step
unfoldable pub form_at : ℕ → Form
form_at k = get_or forms k (record { classes = []; call = λ a. Step })

-- ---- an entry

-- an entry as drawn: its kind, the form of that, its arguments, and the value after them
pub record Drawn : Type 0 where
  pub kind : ℕ
  pub form : Form
  pub arguments : List ℕ
  pub next : ℕ

-- "a value mod 14 plus 1 is the entry kind, the next values its arguments"
unfoldable pub draw : ℕ → Drawn
draw x =
    let form = form_at (x % kind_count) in
    record {
      kind = x % kind_count + 1;
      form = form;
      arguments = drawn_from form.classes (xorshift32 x);
      next = after (length form.classes) (xorshift32 x);
    }

-- "length byte (bytes after it), kind byte, argument bytes"
unfoldable pub entry_bytes : Drawn → List ℕ
entry_bytes d =
    let body = d.kind ∷ argument_bytes d.form.classes d.arguments in
    length body ∷ body

-- the call that an entry makes, from its arguments as numbers
abbrev pub call_drawn : Drawn → Call
call_drawn d = d.form.call d.arguments

-- count entries, the first of them drawn from the value x on: their bytes, and their calls
abbrev pub entries_from : ℕ → ℕ → List ℕ
entries_from zero x = []
entries_from (suc count) x = entry_bytes (draw x) ++ entries_from count (draw x).next

abbrev pub calls_from : ℕ → ℕ → List Call
calls_from zero x = []
calls_from (suc count) x = call_drawn (draw x) ∷ calls_from count (draw x).next

-- ---- the load

-- document 01's "version byte 1"
abbrev pub version_byte : ℕ
version_byte = 1

-- "from the value after the seed on"
unfoldable pub load_of : ℕ → ℕ → List ℕ
load_of seed count = version_byte ∷ entries_from count (after 1 seed)

-- ---- the program, from bytes to bytes

-- "a 32-bit seed and a count …, four big-endian bytes each"
abbrev pub seed_in : List ℕ → ℕ
seed_in bs = number_at bs 0

abbrev pub count_in : List ℕ → ℕ
count_in bs = number_at bs 4

abbrev pub most_entries : ℕ
most_entries = 100000

-- "seed 0, a count above 100,000 or any other input length gives an empty output"
unfoldable pub accepted : List ℕ → Bool
accepted bs = eqb (length bs) 8 && not (eqb (seed_in bs) 0) && leb (count_in bs) most_entries

unfoldable pub generate : List ℕ → List ℕ
generate bs = cond (accepted bs) (load_of (seed_in bs) (count_in bs)) []
