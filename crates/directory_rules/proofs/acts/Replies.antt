-- Which refusals may come before and after something is written: a store call that is no allocation is refused by none of the tests' numbers.
use Prim.Native.Nat.{ℕ}
use mathlib.Core.Path.{◌≡◌, refl, sym, ◌∙◌}
use mathlib.Core.Logic.{◌≢◌}
use mathlib.Core.Bool.{Bool, true, false, cond, not, ◌&&◌, ◌||◌, true≢false, and-false}
use mathlib.Core.List.{List, [], ◌∷◌, Memᴰ}
use lib.Dec.{eqb}
use borrow.Author.Tests.{eqb-false, not-true}
use Rattle.rules.specs.Refusals.{Reply, answer, words, is_refusal}
use Rattle.rules.specs.Control.{Store}
use Rattle.rules.specs.Runs.{Call, is_allocation, apply}
use Rattle.rules.specs.Claims.{store_numbers, allocation_numbers, Numbers}
use Rattle.rules.specs.Answers.{Refused, Done, Word, Same, Phase}
use Rattle.rules.proofs.Ranges.{both}
use Rattle.rules.proofs.memory.Cases.{bool_or}
use Rattle.rules.proofs.relation.Rows.{listed}
use Rattle.rules.proofs.claims.Numbers.{member, numbers}
use Rattle.directory_rules.specs.Acts.{Act, stop, give, ◌>>=◌, or_stop, Found, ended, failed, word, found_in, at_null}
use Rattle.directory_rules.specs.Claims.{by_tests}
use Rattle.directory_rules.proofs.tables.Numbers.{or_parts}

-- a number of a refusal isn't 0; late says whether something may have been written: then none of the tests' numbers fits
abbrev pub Fits : Bool → ℕ → Type 0
Fits late n = ((by_tests n && late) || eqb n 0) ≡ false

pub fits_some : (late : Bool) (n : ℕ) → Fits late n → n ≢ 0
fits_some late n e = eqb-false n 0 (or_parts (by_tests n && late) (eqb n 0) e (λ a b. b))

pub fits_late : (n : ℕ) → Fits true n → by_tests n ≢ true
fits_late n e t = true≢false (or_parts (by_tests n && true) (eqb n 0) e (λ a b. rw t at a))

pub data ReplyFits (late : Bool) : Reply → Type 0 where
  refusal : (n : ℕ) → Fits late n → ReplyFits late (answer (Refused n))
  other : (r : Reply) → is_refusal r ≡ false → ReplyFits late r

pub data FoundFits (late : Bool) : Found → Type 0 where
  at-end : FoundFits late ended
  at_failure : (n : ℕ) → Fits late n → FoundFits late (failed n)
  at-word : (w : ℕ) → FoundFits late (word w)

null_fits : {late : Bool} (b : Bool) (n : ℕ) → Fits late n → FoundFits late (cond b ended (failed n))
null_fits true n e = at-end
null_fits false n e = at_failure n e

word_fits : {late : Bool} (r : Reply) → is_refusal r ≡ false → FoundFits late (found_in r)
word_fits (answer (Refused n)) e = absurd (true≢false e)
word_fits (answer Done) e = at-word 0
word_fits (answer (Word w)) e = at-word w
word_fits (answer (Same b)) e = at-word 0
word_fits (answer (Phase p)) e = at-word 0
word_fits (words ws) e = at-word 0

pub found_fits : {late : Bool} {r : Reply} → ReplyFits late r → FoundFits late (found_in r)
found_fits (refusal n e) = null_fits (eqb n at_null) n e
found_fits (other r e) = word_fits r e

pub or_stop_other : (r : Reply) → is_refusal r ≡ false → or_stop r ≡ give tt
or_stop_other (answer (Refused n)) e = absurd (true≢false e)
or_stop_other (answer Done) e = refl
or_stop_other (answer (Word w)) e = refl
or_stop_other (answer (Same b)) e = refl
or_stop_other (answer (Phase p)) e = refl
or_stop_other (words ws) e = refl

-- what follows a call that must be made, by its reply
pub or_stop_either : {A : Type 0} (P : Act A → Type 0) (k : Unit {0} → Act A) {r : Reply} → ReplyFits false r → ((n : ℕ) → Fits false n → r ≡ answer (Refused n) → P (stop n)) → P (k tt)
    → P (or_stop r >>= k)
or_stop_either P k (refusal n e) f g = f n e refl
or_stop_either P k (other r e) f g = rw (or_stop_other r e) g

-- a call that is no allocation is refused by none of the tests' numbers
abbrev every : (ℕ → Bool) → List ℕ → Bool
every f [] = true
every f (n ∷ ns) = f n && every f ns

every_at : (f : ℕ → Bool) {n : ℕ} {ns : List ℕ} → Memᴰ n ns → every f ns ≡ true → f n ≡ true
every_at f {n} {ns} (Memᴰ.head {x} {xs} e) h = rw e (both (f x) (every f xs) h).0
every_at f (Memᴰ.tail {x} {xs} i) h = every_at f i (both (f x) (every f xs) h).1

-- none of a store call's numbers is 0
number_some : (n : ℕ) → Memᴰ n store_numbers → eqb n 0 ≡ false
number_some n i = not-true (eqb n 0) (every_at (λ k. not (eqb k 0)) i refl)

number_fits : (late : Bool) (n : ℕ) → Memᴰ n store_numbers → (late ≡ true → ¬ Memᴰ n allocation_numbers) → Fits late n
number_fits false n i d = rw (and-false (by_tests n), number_some n i)
number_fits true n i d =
    let e = every_at (λ k. not (by_tests k) || listed k allocation_numbers) i refl in
    bool_or (by_tests n) (λ t. absurd (d refl (member n allocation_numbers (rw t at e)))) (λ t. rw (t, number_some n i))

reply_fits : (late : Bool) (c : Call) → (late ≡ true → is_allocation c ≡ false) → (r : Reply)
    → ((n : ℕ) → r ≡ answer (Refused n) → Memᴰ n store_numbers × (Memᴰ n allocation_numbers → is_allocation c ≡ true)) → ReplyFits late r
reply_fits late c a (answer (Refused n)) h = refusal n (number_fits late n (h n refl).0 (λ l e. true≢false (sym ((h n refl).1 e) ∙ a l)))
reply_fits late c a (answer Done) h = other (answer Done) refl
reply_fits late c a (answer (Word w)) h = other (answer (Word w)) refl
reply_fits late c a (answer (Same b)) h = other (answer (Same b)) refl
reply_fits late c a (answer (Phase p)) h = other (answer (Phase p)) refl
reply_fits late c a (words ws) h = other (words ws) refl

-- early, every reply of a store fits
pub early_fits : (s : Store) (c : Call) → ReplyFits false (apply s c).reply
unfolding Numbers
early_fits s c = reply_fits false c (λ l. absurd (true≢false (sym l))) (apply s c).reply (numbers s c)

pub late_fits : (s : Store) (c : Call) → is_allocation c ≡ false → ReplyFits true (apply s c).reply
unfolding Numbers
late_fits s c a = reply_fits true c (λ l. a) (apply s c).reply (numbers s c)
