-- The kinds of entries, row by row, and how long an entry is.
use Prim.Native.Nat.{ℕ, zero, suc, ◌+◌, ◌*◌, ◌%◌, ◌≤◌, ◌<◌}
use mathlib.Core.List.{List, [], ◌∷◌}
use native.Mathlib.Omega.{arith}
use lib.ListN.{length, get_or, length-append}
use Rattle.workload.specs.Load.{xorshift32, argument_bytes, drawn_from, Form, kind_count, forms, form_at, draw, entry_bytes, entries_from}
use Rattle.workload.specs.Pieces.{longest_entry}

-- ---- what holds of each row holds of each kind that is drawn

-- P of each row, by its number
abbrev pub Rows : (ℕ → Form → Type 0) → List Form → Type 0
Rows P [] = Unit {0}
Rows P (f ∷ fs) = P 0 f × Rows (λ k. P (suc k)) fs

row_at : (P : ℕ → Form → Type 0) (fs : List Form) → Rows P fs → (k : ℕ) (d : Form) → k < length fs → P k (get_or fs k d)
row_at P [] rows k d h = absurd (omega arith)
row_at P (f ∷ fs) rows zero d h = rows.0
row_at P (f ∷ fs) rows (suc k) d h = row_at (λ n. P (suc n)) fs rows.1 k d (omega arith)

pub kind_drawn : (P : ℕ → Form → Type 0) → Rows P forms → (x : ℕ) → P (x % kind_count) (form_at (x % kind_count))
unfolding form_at
kind_drawn P rows x = row_at P forms rows (x % kind_count) _ (unfold forms in omega arith)

-- ---- how long an entry is

-- with its length byte and its kind byte
abbrev Short : ℕ → Form → Type 0
Short k f = (x : ℕ) → 2 + length (argument_bytes f.classes (drawn_from f.classes x)) ≤ longest_entry

short_rows : Rows Short forms
unfolding forms
short_rows = omega arith

pub entry-short : (x : ℕ) → length (entry_bytes (draw x)) ≤ longest_entry
unfolding draw entry_bytes
entry-short x = omega (arith, kind_drawn Short short_rows x (xorshift32 x))

pub entry_long : (x : ℕ) → 1 ≤ length (entry_bytes (draw x))
unfolding entry_bytes
entry_long x = omega arith

-- entries one after another: a byte for each at the least, and nine at the most
pub entries-sized : (count x : ℕ) → (count ≤ length (entries_from count x)) × (length (entries_from count x) ≤ longest_entry * count)
entries-sized zero x = omega arith
entries-sized (suc count) x = rw length-append (omega (arith, entry-short x, entry_long x, entries-sized count (draw x).next))
