-- What the script's own reading finds in a load: at the place of an entry its call, and after the last entry the end. From this the claim
-- that its parse is the calls drawn.
use Prim.Native.Nat.{ℕ, zero, suc, ◌+◌, ◌*◌, ◌/◌, ◌^◌, ◌≤◌, ◌<◌}
use mathlib.Core.Path.{◌≡◌, refl, ap}
use mathlib.Core.List.{List, [], ◌∷◌, ◌++◌, append-nil, append_assoc}
use native.Mathlib.Omega.{arith}
use borrow.Author.Tests.{le-leb, lt-leb}
use lib.ListN.{length, get_or, length-append}
use lib.Seq.{get_or-append_seam, drop-append-add, take_at}
use Rattle.rules.specs.Refusals.{passed}
use Rattle.rules.specs.Runs.{Call}
use Rattle.rules.specs.Script.{big_endian, number_at, kinds, kind_of, call_of, body_at, entry_at, ended, call}
use Rattle.workload.specs.Load.{xorshift32, argument, argument_bytes, bytes_of, drawn_from, Form, forms, draw, entry_bytes, call_drawn, entries_from, calls_from, version_byte, load_of}
use Rattle.workload.specs.Claims.{all, parsed_from, EveryEntry}
use Rattle.workload.specs.declared.entries.Class.TheVariants.{Value}
use Rattle.workload.proofs.Sizes.{Rows, kind_drawn, entries-sized}

-- ---- the call of an entry's body

-- the four bytes of a value give it back, the first two of them its upper half
bytes_back : (n : ℕ) → n < 2 ^ 32 → number_at (bytes_of Value n) 0 ≡ n
unfolding big_endian number_at
bytes_back n small =
    let top : get_or (bytes_of Value n) 0 0 ≡ n / 256 ^ 3 = omega arith in
    let upper : get_or (bytes_of Value n) 0 0 * 256 + get_or (bytes_of Value n) 1 0 ≡ n / 256 ^ 2 = omega arith in
    omega arith

value-back : (x : ℕ) → number_at (bytes_of Value (argument Value x)) 0 ≡ argument Value x
value-back x = bytes_back (argument Value x) (omega arith)

-- the body of kind k + 1, its arguments drawn from the value x on
abbrev Called : ℕ → ℕ → Form → Type 0
Called x k f = call_of ((k + 1) ∷ argument_bytes f.classes (drawn_from f.classes x)) ≡ passed (f.call (drawn_from f.classes x))

-- one row and the rows after it
infixr 5 ◌and◌
abbrev ◌and◌ : {A B : Type 0} → A → B → A × B
◌and◌ a b = (a, b)

-- each row by computing, but for the write's value
called_rows : (x : ℕ) → Rows (Called x) forms
unfolding forms call_of kind_of kinds number_at
called_rows x =
    refl and refl and refl and refl and refl and refl and refl and rw value-back refl
    and refl and refl and refl and refl and refl and refl and tt

-- ---- what stands at a place

-- after the bytes xs a length byte, and as many bytes that make a call
body_read : (xs : List ℕ) (size : ℕ) (body ys : List ℕ) (c : Call) → length body ≡ size → call_of body ≡ passed c →
    entry_at (xs ++ (size ∷ body ++ ys)) (length xs) ≡ call c (length xs + length (size ∷ body))
unfolding entry_at body_at
body_read xs size body ys c sized made =
    let whole : length (xs ++ (size ∷ body ++ ys)) ≡ length xs + (1 + size + length ys) = simp length-append (omega arith) in
    let inside : length xs < length (xs ++ (size ∷ body ++ ys)) = omega arith in
    let fits : length xs + 1 + size ≤ length (xs ++ (size ∷ body ++ ys)) = omega arith in
    rw (lt-leb _ _ inside, get_or-append_seam, le-leb _ _ fits, drop-append-add, take_at body ys size sized, made)
    (ap (call c) (omega arith))

-- an entry as drawn: byte 0 is the number of those after it
entry_read : (x : ℕ) (xs ys : List ℕ) →
    entry_at (xs ++ (entry_bytes (draw x) ++ ys)) (length xs) ≡ call (call_drawn (draw x)) (length xs + length (entry_bytes (draw x)))
unfolding draw entry_bytes
entry_read x xs ys = body_read xs (get_or (entry_bytes (draw x)) 0 0) _ ys _ refl (kind_drawn (Called (xorshift32 x)) (called_rows (xorshift32 x)) x)

-- past the last byte
end_read : (xs : List ℕ) → entry_at (xs ++ []) (length xs) ≡ ended
unfolding entry_at
end_read xs = rw (append-nil, le-leb (length xs) (length xs) (omega arith))

-- ---- what stands from a place on

-- from a place on, in so many turns, these calls and then the end
pub data Finds (bs : List ℕ) : ℕ → ℕ → List Call → Type 0 where
  no_more : {turns i : ℕ} → entry_at bs i ≡ ended → Finds bs (suc turns) i []
  one_more : {turns i j : ℕ} {c : Call} {cs : List Call} → entry_at bs i ≡ call c j → Finds bs turns j cs → Finds bs (suc turns) i (c ∷ cs)

-- a turn for each entry, and one for the end
entries-found : (turns count x : ℕ) (xs : List ℕ) → count < turns → Finds (xs ++ entries_from count x) turns (length xs) (calls_from count x)
entries-found zero count x xs h = absurd (omega arith)
entries-found (suc turns) zero x xs h = no_more (end_read xs)
entries-found (suc turns) (suc count) x xs h =
    one_more (entry_read x xs _)
    (rw (append_assoc, length-append) at (entries-found turns count (draw x).next (xs ++ entry_bytes (draw x)) (omega arith)))

pub load_found : (seed count : ℕ) → Finds (load_of seed count) (length (load_of seed count)) 1 (calls_from count (xorshift32 seed))
unfolding load_of
load_found seed count = entries-found _ count (xorshift32 seed) (version_byte ∷ []) (omega (arith, entries-sized count (xorshift32 seed)))

-- ---- the claim

-- where the script's reading finds these calls, its parse is them
parsed : {bs : List ℕ} {turns i : ℕ} {cs : List Call} → Finds bs turns i cs → parsed_from turns bs i ≡ all cs
parsed (no_more e) = rw e
parsed (one_more e f) = rw (e, parsed f)

pub every_entry : EveryEntry
unfolding EveryEntry
every_entry seed count = parsed (load_found seed count)
