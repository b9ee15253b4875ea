-- The decimal digits of a number: the kit's are the rules', how many there are, and how they stand in the output.
use Prim.Native.Nat.{ℕ, zero, suc, ◌+◌, ◌*◌, ◌/◌, ◌%◌, ◌^◌, ◌≤◌, ◌<◌}
use mathlib.Core.Path.{◌≡◌, ap}
use mathlib.Core.List.{List, [], ◌∷◌, ◌++◌, append_assoc}
use native.Mathlib.Omega.{arith}
use native.Mathlib.Nat.{zero-add, div-one, div-lt_self, div-lt_iff_lt-mul, le-div_iff_mul-le, div-div-eq-div-mul, pow-zero, pow-suc, pow-succ', one-le-pow}
use borrow.Author.Tests.{lt-ltb, le-ltb}
use lib.ListN.{length, length-append, take, drop, set}
use lib.Seq.{sets}
use Rattle.rules.proofs.memory.Sets.{sets-append, Written, written, and-more}
use Rattle.std.specs.Fmt.{decimal as kit_decimal}
use Rattle.std.proofs.lemmas.Fmt.{decimal_by_steps, length-decimal-le}
use Rattle.std.proofs.lemmas.List.{take-append-drop}
use Rattle.std.proofs.lemmas.List.Edits.{sets-eq}
use Rattle.rules.specs.Script.{digit, digits_with, decimal, space, newline, Line, text_of}
use Rattle.rules.proofs.memory.Cases.{lt_or}

-- as many turns as the number says are enough
enough : (f g n : ℕ) → n < f → n < g → digits_with f n ≡ digits_with g n
enough zero g n p q = absurd (omega arith)
enough (suc f) zero n p q = absurd (omega arith)
enough (suc f) (suc g) n p q =
    lt_or
    n
    10
    (λ small. rw (lt-ltb n 10 small))
    (λ large.
    let less : n / 10 < n = div-lt_self (omega arith) (omega arith) in
    rw (le-ltb n 10 large, enough f g (n / 10) (omega arith) (omega arith)))

decimal_one : {n : ℕ} → n < 10 → decimal n ≡ digit n ∷ []
unfolding decimal
decimal_one {n} small = rw (lt-ltb n 10 small)

decimal-more : {n : ℕ} → 10 ≤ n → decimal n ≡ decimal (n / 10) ++ (digit (n % 10) ∷ [])
unfolding decimal
decimal-more {n} large =
    let less : n / 10 < n = div-lt_self (omega arith) (omega arith) in
    rw (le-ltb n 10 large, enough n (suc (n / 10)) (n / 10) less (omega arith))

-- the kit writes the same digits
pub kit_digits : (n : ℕ) → n < 2 ^ 64 → decimal n ≡ kit_decimal n
kit_digits = decimal_by_steps (λ n ds. decimal n ≡ ds) (λ n small. decimal_one small) (λ n ds large e. rw (decimal-more large, e))

-- ---- how many there are

-- a 64-bit number has at most 20 digits, a 32-bit one at most 10
pub long64 : (n : ℕ) → n < 2 ^ 64 → length (decimal n) ≤ 20
long64 n h = rw kit_digits (length-decimal-le 20 n (omega arith) (omega arith) h)

pub long32 : (n : ℕ) → n < 2 ^ 32 → length (decimal n) ≤ 10
long32 n h = rw (kit_digits n (omega arith)) (length-decimal-le 10 n (omega arith) (omega arith) (omega arith))

-- a byte after them
pub length_ended : (n after : ℕ) → length (decimal n ++ (after ∷ [])) ≡ length (decimal n) + 1
length_ended n after = length-append (decimal n) (after ∷ [])

pub ruleset line_lengths = (long64, long32, length_ended)

-- k digits more than without the last k
decimal_longer : (k : ℕ) {n : ℕ} → 10 ^ k ≤ n → length (decimal n) ≡ k + length (decimal (n / 10 ^ k))
decimal_longer zero {n} large = rw (pow-zero, div-one, zero-add)
decimal_longer (suc k) {n} large =
    let wide : 10 ^ k * 10 ≤ n = rw pow-suc at large in
    let some : 1 ≤ 10 ^ k = one-le-pow k 10 (omega arith) in
    let tenth : 10 ^ k ≤ n / 10 = (le-div_iff_mul-le {k = 10} (omega arith)).1 wide in
    let ten : 10 ≤ n = omega arith in
    rw (decimal-more ten, length-append, decimal_longer k tenth, div-div-eq-div-mul, pow-succ') (omega arith)

-- k + 1 digits from 10 ^ k on, below ten times that
pub digits_from_power : (n : ℕ) {k : ℕ} → 10 ^ k ≤ n → n < 10 * 10 ^ k → length (decimal n) ≡ suc k
digits_from_power n {k} large small =
    let some : 0 < 10 ^ k = one-le-pow k 10 (omega arith) in
    let first : n / 10 ^ k < 10 = (div-lt_iff_lt-mul some).1 small in
    rw (decimal_longer k large, decimal_one first) (omega arith)

pub one_digit : (n : ℕ) → n ≡ 0 → length (decimal n) ≡ 1
one_digit n e = ap length (decimal_one (omega arith))

-- ---- how they stand in the output

pub written_digits : (out : List ℕ) (at n : ℕ) (out' : List ℕ) (end start : ℕ) → n < 2 ^ 64 → at + length (kit_decimal n) ≤ length out →
    end ≡ at + length (kit_decimal n) → start + length (kit_decimal n) ≡ end → drop start out' ≡ kit_decimal n ++ drop end out →
    take start out' ≡ take start out → sets out at (decimal n) ≡ out'
written_digits out at n out' end start fits room e f digits before =
    let here : start ≡ at = omega arith in
    rw (kit_digits n fits, sets-eq (kit_decimal n) out at room, ← take-append-drop start out', digits, before, here, e, append_assoc)

-- a byte after them
pub written_byte : (out : List ℕ) (at n after : ℕ) (out' : List ℕ) (end : ℕ) → end ≡ at + length (decimal n) → out' ≡ sets out at (decimal n) →
    set out' end after ≡ sets out at (decimal n ++ (after ∷ []))
written_byte out at n after out' end e f = rw (f, e) (sets-append out at (decimal n) (after ∷ []))

-- three numbers, each with the byte after it
pub written_line : (l : List ℕ) (at : ℕ) (x : Line) (m m' m'' : List ℕ) (p p' p'' : ℕ) →
    m ≡ sets l at (decimal x.entry ++ (space ∷ [])) → p ≡ at + length (decimal x.entry ++ (space ∷ [])) →
    m' ≡ sets m p (decimal x.refusal ++ (space ∷ [])) → p' ≡ p + length (decimal x.refusal ++ (space ∷ [])) →
    m'' ≡ sets m' p' (decimal x.value ++ (newline ∷ [])) → p'' ≡ p' + length (decimal x.value ++ (newline ∷ [])) →
    Written l at (text_of x) m'' p''
unfolding text_of
written_line l at x m m' m'' p p' p'' e f e' f' e'' f'' =
    let line = and-more (and-more (written l at _ e f) _ e' f') _ e'' f'' in
    let before = decimal x.entry ++ (space ∷ []) in
    rw (← append_assoc before (decimal x.refusal) (space ∷ []), ← append_assoc (before ++ decimal x.refusal ++ (space ∷ [])) (decimal x.value) (newline ∷ [])) at line
