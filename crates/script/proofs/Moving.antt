-- The input buffer: the bytes still to be done are moved to its front, and it is read on behind them.
use Prim.Native.Nat.{ℕ, ◌+◌, ◌-◌, min, ◌≤◌}
use mathlib.Core.Path.{◌≡◌, refl, sym, ap, ◌∙◌}
use mathlib.Core.Bool.{true, false}
use mathlib.Core.List.{List}
use native.Mathlib.Omega.{arith}
use native.Mathlib.Nat.{zero-add}
use borrow.Author.Tests.{lt-leb, le-leb, le-ltb}
use lib.ListN.{length, take, drop, length-append, length-take, length-drop}
use lib.Seq.{paste, slice, take-length, take-take, take-append_seam}
use Rattle.std.proofs.lemmas.List.{drop-take, drop_all, take_min}
use Rattle.script.specs.Window.{is_short, kept, Fetched}
use Rattle.rules.proofs.memory.Cases.{lt_or}

pub length_part : (bs : List ℕ) (at filled : ℕ) → length (slice at filled bs) ≡ min filled (length bs) - at
length_part bs at filled = rw (length-drop, length-take)

-- the part from a place up to what is filled
part : (bs : List ℕ) (at filled : ℕ) → take (min filled (length bs) - min at (min filled (length bs))) (drop (min at (min filled (length bs))) bs) ≡ slice at filled bs
part bs at filled =
    let end = min filled (length bs) in
    lt_or
    end
    at
    (λ past.
    let start : min at end ≡ end = omega arith in
    let none : end - end ≡ 0 = omega arith in
    rw (start, none) (sym (drop_all at (take filled bs) (omega (arith, length-take filled bs)))))
    (λ before.
    let start : min at end ≡ at = omega arith in
    let all : at + (end - at) ≡ end = omega arith in
    rw (start, ← drop-take at (end - at) bs, all, take_min filled bs))

-- copied to the front
pub moved : (bs : List ℕ) (at filled : ℕ) {end start : ℕ} → end ≡ min filled (length bs) → start ≡ min at end → paste bs 0 (drop start bs) (end - start) ≡ kept bs at filled
unfolding kept
moved bs at filled e f =
    let size : min filled (length bs) - min at (min filled (length bs)) ≡ length (slice at filled bs) = omega (arith, length_part bs at filled) in
    rw (f, e, part bs at filled, zero-add, size)

-- ---- the buffer read on

pub length-kept : (bs : List ℕ) (at filled : ℕ) → length (kept bs at filled) ≡ length bs
unfolding kept
length-kept bs at filled = rw (length-append, length-drop (length (slice at filled bs)) bs) (omega (arith, length_part bs at filled))

take-kept : (bs : List ℕ) (at filled : ℕ) → take (length (slice at filled bs)) (kept bs at filled) ≡ slice at filled bs
unfolding kept
take-kept bs at filled = take-append_seam (slice at filled bs) (drop (length (slice at filled bs)) bs)

pub kept-within : (bs : List ℕ) (at filled : ℕ) {n : ℕ} {xs : List ℕ} → n ≡ length (slice at filled bs) → xs ≡ kept bs at filled → n ≤ length xs
kept-within bs at filled count bytes = rw (bytes, length-kept bs at filled) (omega (arith, length_part bs at filled))

-- no entry at the front is short, if the buffer can hold one
whole-front : (longest filled size : ℕ) → longest ≤ size → is_short longest 0 filled size ≡ false
unfolding is_short
whole-front longest filled size holds =
    lt_or
    filled
    size
    (λ less. rw (lt-leb size filled less))
    (λ full. rw (le-leb size filled full, le-ltb (filled - 0) longest (omega arith)))

module _ (longest : ℕ) (bs : List ℕ) (at filled : ℕ) where
  pub not-read : filled ≤ length bs → is_short longest at filled (length bs) ≡ false → Fetched longest bs at filled bs at filled
  not-read within long =
      record {
        same = λ e. (refl, refl, refl);
        front = λ e. cc;
        first = take-length (slice at filled bs);
        begins = λ begins. begins;
        within = within;
        whole = λ e. long;
      }

  -- the kept bytes first, then those that were read
  pub read_on : (n got : ℕ) (xs bs' : List ℕ) → is_short longest at filled (length bs) ≡ true → n ≡ length (slice at filled bs) → xs ≡ kept bs at filled →
      take n bs' ≡ take n xs → length bs' ≡ length xs → n + got ≤ length bs' → Fetched longest bs at filled bs' 0 (n + got)
  read_on n got xs bs' short count bytes front size within =
      let all : length bs' ≡ length bs = size ∙ ap length bytes ∙ length-kept bs at filled in
      record {
        same = λ e. ((cc), (cc), (cc));
        front = λ e. refl;
        first = rw (← count, take-take n (n + got) bs' (omega arith), front, bytes, count) (take-kept bs at filled);
        begins = λ begins. omega arith;
        within = within;
        whole = λ holds. whole-front longest (n + got) (length bs') (omega arith);
      }
