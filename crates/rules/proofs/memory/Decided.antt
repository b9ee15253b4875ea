-- Whether a reference names a record is decided.
use Prim.Native.Nat.{ℕ, zero, suc, ◌<◌}
use mathlib.Core.Path.{◌≡◌}
use mathlib.Core.Logic.{◌≢◌}
use mathlib.Core.List.{List}
use native.Mathlib.Nat.{not-suc-le-zero}
use native.Mathlib.Omega.{arith}
use Rattle.rules.specs.Memory.{Memory, half, frontier, half_of, word_of}
use Rattle.rules.proofs.memory.Cases.{lt_or, eq_or}
use Rattle.rules.proofs.memory.Chain.{pos, pos_least}
use Rattle.rules.proofs.memory.Records.{Start}

-- a record that starts at word k, among the first n
number_or : (ws : List ℕ) (k n : ℕ) {C : Type 0} → ((i : ℕ) → k ≡ pos ws i → C) → (((i : ℕ) → i < n → k ≢ pos ws i) → C) → C
number_or ws k zero f g = g (λ i l. absurd (not-suc-le-zero l))
number_or ws k (suc n) f g = eq_or k (pos ws n) (f n)
    (λ d. number_or ws k n f (λ o. g (λ i l. lt_or i n (o i) (λ b. let e : i ≡ n = omega arith in rw e d))))

pub start_decided : (M : Memory) (v : ℕ) → Dec (Start M v)
start_decided M v =
    lt_or v 2 (λ l. no (λ t. let b = t.named in omega arith))
    (λ two. lt_or (word_of v) (frontier M (half_of v))
    (λ b. number_or (half M (half_of v)) (word_of v) (suc (word_of v))
    (λ i e. yes (record { num = i; named = two; place = e; below = b }))
    (λ o. no (λ t. o t.num (let e = t.place in omega (arith, pos_least (half M (half_of v)) t.num)) t.place)))
    (λ b. no (λ t. let l = t.below in omega arith)))
