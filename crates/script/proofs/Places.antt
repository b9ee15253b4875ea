-- Entries seen through the input buffer: it holds a part of the input, and what is left in it is moved to its front.
use Prim.Native.Nat.{ℕ, ◌+◌, ◌-◌, ◌≤◌, ◌<◌}
use mathlib.Core.Path.{◌≡◌, refl, sym, ◌∙◌}
use mathlib.Core.Bool.{false, ◌&&◌}
use mathlib.Core.List.{List, ◌++◌}
use native.Mathlib.Omega.{arith}
use borrow.Author.Tests.{ne_eqb, lt-leb}
use lib.Dec.{leb, eqb}
use lib.ListN.{length, get_or, take, drop, length-append, length-take, length-drop, get_or-append}
use lib.Seq.{take-append-le, drop-append-le, get_or-drop, drop-drop}
use Rattle.rules.specs.Refusals.{Tested, refused, passed, ◌>>=◌}
use Rattle.rules.specs.Runs.{Call}
use Rattle.rules.specs.Script.{kind_of, call_of, call_then, entry_at, by_entry, Entry, ended, bad, call, body_at}
use Rattle.rules.proofs.memory.Cases.{lt_or, bool_or}
use Rattle.script.proofs.Sizes.{short-kinds}
use Rattle.script.proofs.Bodies.{past_end, whole, cut}

-- ---- an entry is nine bytes at most

long_body : (b : List ℕ) (j : ℕ) → 8 < length b → call_then (call_of b) j ≡ bad
unfolding call_of
long_body b j long =
    let size : ℕ = (kind_of b (get_or b 0 0)).size in
    let other : eqb (length b) size ≡ false = ne_eqb (length b) size (λ e. omega (arith, short-kinds b (get_or b 0 0))) in
    bool_or
    (leb 1 (get_or b 0 0) && leb (get_or b 0 0) 14)
    (λ e. rw (e, other))
    (λ e. rw e)

long_entry : (bs : List ℕ) (i : ℕ) → i < length bs → 8 < get_or bs i 0 → entry_at bs i ≡ bad
long_entry bs i inside long =
    lt_or
    (length bs - (i + 1))
    (get_or bs i 0)
    (cut bs i inside)
    (λ fits. whole bs i inside fits ∙ long_body _ _ (simp (length-take, length-drop) (omega arith)))

-- its nine bytes decide an entry: p stands in the buffer, q is still to come
pub whole-entry : (p q : List ℕ) (i : ℕ) → i + 9 ≤ length p → entry_at p i ≡ entry_at (p ++ q) i
whole-entry p q i nine =
    let inside : i < length p = omega arith in
    let longer : length p ≤ length (p ++ q) = omega (arith, length-append p q) in
    let inside' : i < length (p ++ q) = omega arith in
    let byte : get_or (p ++ q) i 0 ≡ get_or p i 0 = get_or-append p q 0 i inside in
    lt_or
    8
    (get_or p i 0)
    (λ long. long_entry p i inside long ∙ sym (long_entry (p ++ q) i inside' (omega arith)))
    (λ short.
    let size : i + 1 + get_or p i 0 - (i + 1) ≡ get_or p i 0 = omega arith in
    let body : take (get_or p i 0) (drop (i + 1) (p ++ q)) ≡ take (get_or p i 0) (drop (i + 1) p) =
    rw (drop-append-le (i + 1) p q (omega arith), take-append-le (get_or p i 0) (drop (i + 1) p) q (simp length-drop (omega arith))) in
    rw (whole p i inside (omega arith), whole (p ++ q) i inside' (omega arith), byte, size, body))

-- so where an entry begins before the last eight bytes of the buffer
pub whole_before : (p q : List ℕ) (i : ℕ) → i < length p - 8 → entry_at p i ≡ entry_at (p ++ q) i
whole_before p q i before = whole-entry p q i (omega arith)

-- ---- each call moves the place on

-- by what stands at a place, with the equation
pub entry_or : (e : Entry) {C : Type 0} → (e ≡ ended → C) → (e ≡ bad → C) → ((c : Call) (j : ℕ) → e ≡ call c j → C) → C
entry_or ended f g h = f refl
entry_or bad f g h = g refl
entry_or (call c j) f g h = h c j refl

called_next : (t : Tested Call) (i j : ℕ) (c : Call) → call_then t i ≡ call c j → j ≡ i
called_next (refused n) i j c e = cc
called_next (passed d) i j c e = cc

pub moves_on : (bs : List ℕ) (i : ℕ) {c : Call} {j : ℕ} → entry_at bs i ≡ call c j → i < j
unfolding entry_at
moves_on bs i {c} {j} e =
    lt_or
    i
    (length bs)
    (λ inside. omega (arith, called_next (body_at bs i >>= call_of) (i + 1 + get_or bs i 0) j c (rw (lt-leb (length bs) i inside) at e)))
    (λ past. let none : ◌≡◌ {A = ℕ} 0 1 = cc (past_end bs i past) in omega arith)

pub ends_within : (bs : List ℕ) (i : ℕ) {c : Call} {j : ℕ} → entry_at bs i ≡ call c j → j ≤ length bs
ends_within bs i {c} {j} e =
    lt_or
    i
    (length bs)
    (λ inside.
    lt_or
    (length bs - (i + 1))
    (get_or bs i 0)
    (λ short. let none : ◌≡◌ {A = ℕ} 0 1 = cc (cut bs i inside short) in omega arith)
    (λ fits. omega (arith, called_next (call_of (take (i + 1 + get_or bs i 0 - (i + 1)) (drop (i + 1) bs))) (i + 1 + get_or bs i 0) j c (sym (whole bs i inside fits) ∙ e))))
    (λ past. let none : ◌≡◌ {A = ℕ} 0 1 = cc (past_end bs i past) in omega arith)

-- ---- the same entry where the bytes stand k places further on

-- what stands there, with its next place k further on
abbrev pub further : ℕ → Entry → Entry
further k e = by_entry e ended bad (λ c j. call c (k + j))

further_call : (k : ℕ) (t : Tested Call) (j : ℕ) → call_then t (k + j) ≡ further k (call_then t j)
further_call k (refused n) j = refl
further_call k (passed c) j = refl

pub moved_entry : (k : ℕ) (bs : List ℕ) (i : ℕ) → entry_at bs (k + i) ≡ further k (entry_at (drop k bs) i)
moved_entry k bs i =
    let size : length (drop k bs) ≡ length bs - k = length-drop k bs in
    let byte : get_or (drop k bs) i 0 ≡ get_or bs (k + i) 0 = get_or-drop k bs i 0 in
    lt_or
    (k + i)
    (length bs)
    (λ inside.
    lt_or
    (length bs - (k + i + 1))
    (get_or bs (k + i) 0)
    (λ short. rw (cut bs (k + i) inside short, cut (drop k bs) i (omega arith) (omega arith)))
    (λ fits.
    let next : k + i + 1 + get_or bs (k + i) 0 ≡ k + (i + 1 + get_or bs (k + i) 0) = omega arith in
    let place : k + i + 1 ≡ k + (i + 1) = omega arith in
    let there : k + i + 1 + get_or bs (k + i) 0 - (k + i + 1) ≡ get_or bs (k + i) 0 = omega arith in
    let here : i + 1 + get_or bs (k + i) 0 - (i + 1) ≡ get_or bs (k + i) 0 = omega arith in
    rw (whole bs (k + i) inside fits, whole (drop k bs) i (omega arith) (omega arith), byte, there, here, next, place, drop-drop, further_call k (call_of (take (get_or bs (k + i) 0) (drop (k + (i + 1)) bs))) (i + 1 + get_or bs (k + i) 0))))
    (λ past. rw (past_end bs (k + i) past, past_end (drop k bs) i (omega arith)))
