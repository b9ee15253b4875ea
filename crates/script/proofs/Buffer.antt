-- The entries done over the input buffer are those of the whole input.
use Prim.Native.Nat.{ℕ, zero, suc, ◌+◌, ◌-◌, ◌≤◌, ◌<◌}
use mathlib.Core.Path.{◌≡◌, refl}
use mathlib.Core.Bool.{true, false}
use mathlib.Core.List.{List, [], ◌++◌, append-nil}
use mathlib.Core.Logic.{◌⊎◌, inl, inr}
use native.Mathlib.Omega.{arith}
use borrow.Author.Tests.{lt-ltb, le-ltb, le-leb, ltb-false}
use lib.Dec.{ltb}
use lib.ListN.{length, drop}
use Rattle.rules.specs.Script.{entry_at}
use Rattle.rules.proofs.memory.Cases.{lt_or, bool_or, either}
use Rattle.script.specs.Turns.{Left, turn, goes_on, turns}
use Rattle.script.specs.Window.{longest_entry, is_short, stop_of}
use Rattle.script.proofs.Places.{entry_or, whole_before, moved_entry}
use Rattle.script.proofs.Stopping.{arrived, turns_same}

-- ---- a part of the input, p, with more of it to come, q

before-stop : (stop : ℕ) (x : Left) → goes_on stop x ≡ true → x.at < stop
before-stop stop x on =
    lt_or
    x.at
    stop
    (λ before. before)
    (λ past. let none : ◌≡◌ {A = ℕ} 0 1 = cc (arrived stop x past) in omega arith)

same_turn : (p q : List ℕ) (x : Left) → entry_at p x.at ≡ entry_at q x.at → turn p x ≡ turn q x
unfolding turn
same_turn p q x e = rw e

-- entries that begin before the last eight bytes of what is there
pub whole-turns : (p q : List ℕ) (k stop : ℕ) (x : Left) → stop ≤ length p - 8 → turns k stop p x ≡ turns k stop (p ++ q) x
whole-turns p q zero stop x inside = refl
whole-turns p q (suc k) stop x inside =
    bool_or
    (goes_on stop x)
    (λ on.
    let before : x.at < stop = before-stop stop x on in
    rw (on, same_turn p (p ++ q) x (whole_before p q x.at (omega arith)), whole-turns p q k stop (turn (p ++ q) x) inside))
    (λ off. rw off)

-- ---- the same where the bytes stand j places further on

abbrev pub ahead : ℕ → Left → Left
ahead j x =
    record { store = x.store; at = j + x.at; number = x.number; out = x.out; end = x.end; more = x.more }

ahead_goes : (j stop : ℕ) (x : Left) → goes_on (j + stop) (ahead j x) ≡ goes_on stop x
unfolding goes_on
ahead_goes j stop x =
    let place : ltb (j + x.at) (j + stop) ≡ ltb x.at stop =
    lt_or
    x.at
    stop
    (λ before. rw (lt-ltb x.at stop before, lt-ltb (j + x.at) (j + stop) (omega arith)))
    (λ past. rw (le-ltb x.at stop past, le-ltb (j + x.at) (j + stop) (omega arith))) in
    rw place

ahead_turn : (j : ℕ) (bs : List ℕ) (x : Left) → turn bs (ahead j x) ≡ ahead j (turn (drop j bs) x)
unfolding turn
ahead_turn j bs x =
    rw (moved_entry j bs x.at)
    (entry_or (entry_at (drop j bs) x.at) (λ e. rw e) (λ e. rw e) (λ c i e. rw e))

pub ahead_turns : (j : ℕ) (bs : List ℕ) (k stop : ℕ) (x : Left) → turns k (j + stop) bs (ahead j x) ≡ ahead j (turns k stop (drop j bs) x)
ahead_turns j bs zero stop x = refl
ahead_turns j bs (suc k) stop x =
    bool_or
    (goes_on stop x)
    (λ on. rw (ahead_goes j stop x, on, ahead_turn j bs x, ahead_turns j bs k stop (turn (drop j bs) x)))
    (λ off. rw (ahead_goes j stop x, off))

-- ---- the input buffer

-- the buffer holds p, from place j of the input on; q is still to come. Where it is full an entry must begin before its last
-- eight bytes, else it holds the end of the input
pub buffer_turns : (j : ℕ) (bs p q : List ℕ) (stop : ℕ) (x : Left) → drop j bs ≡ p ++ q → (stop ≤ length p - 8) ⊎ (q ≡ []) →
    turns (j + stop) (j + stop) bs (ahead j x) ≡ ahead j (turns stop stop p x)
buffer_turns j bs p q stop x split seen =
    let part : turns stop stop p x ≡ turns stop stop (p ++ q) x =
    either
    seen
    (λ inside. whole-turns p q stop stop x inside)
    (λ end. rw (end, append-nil)) in
    rw (turns_same (j + stop) stop (j + stop) bs (ahead j x) (omega arith) (omega arith), ahead_turns j bs stop stop x, part, split)

-- ---- as the program has it: the buffer has a size, and where it isn't full it holds the end of the input

whole_or_end : (p q : List ℕ) (size : ℕ) → (length p < size → q ≡ []) → (stop_of (length p) size ≤ length p - 8) ⊎ (q ≡ [])
unfolding stop_of
whole_or_end p q size ends =
    lt_or
    (length p)
    size
    (λ less. inr (ends less))
    (λ full. inl (rw (le-ltb (length p) size full) (omega arith)))

-- an entry that begins before the stop place has all its bytes there, as far as the input has them
pub seen_entry : (p q : List ℕ) (size i : ℕ) → (length p < size → q ≡ []) → i < stop_of (length p) size → entry_at p i ≡ entry_at (p ++ q) i
seen_entry p q size i ends before =
    either
    (whole_or_end p q size ends)
    (λ inside. whole_before p q i (omega arith))
    (λ end. rw (end, append-nil))

-- the entries done up to the stop place are those of the whole input
pub window_turns : (j : ℕ) (bs p q : List ℕ) (size : ℕ) (x : Left) → drop j bs ≡ p ++ q → (length p < size → q ≡ []) →
    turns (j + stop_of (length p) size) (j + stop_of (length p) size) bs (ahead j x)
    ≡ ahead j (turns (stop_of (length p) size) (stop_of (length p) size) p x)
window_turns j bs p q size x split ends = buffer_turns j bs p q (stop_of (length p) size) x split (whole_or_end p q size ends)

-- the next entry begins before that place, unless it is short or the buffer isn't full
pub next-seen : (at filled size : ℕ) → size ≤ filled → is_short longest_entry at filled size ≡ false → at < stop_of filled size
unfolding is_short stop_of
next-seen at filled size full long =
    rw (le-ltb filled size full) (omega (arith, ltb-false, rw (le-leb size filled full) at long))
