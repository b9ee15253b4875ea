-- The values of a load have 32 bits.
use Prim.Native.Nat.{ℕ, ◌^◌, ◌<◌}
use native.Mathlib.Omega.{arith}
use lib.Bits.{bit_xor, xor_lt}
use Rattle.workload.specs.Load.{shift_left, shift_right, xorshift32}
use Rattle.workload.specs.Claims.{WholeValues}

-- numbers of 32 bits, digit by digit
xored : {x : ℕ} (y : ℕ) → x < 2 ^ 32 → y < 2 ^ 32 → bit_xor x y < 2 ^ 32
xored {x} y = xor_lt 32 x y

pub whole-values : WholeValues
unfolding WholeValues xorshift32
whole-values x small =
    let a = xored (shift_left x 13) small (omega arith) in
    let b = xored (shift_right (bit_xor x (shift_left x 13)) 17) a (omega (arith, a)) in
    (xored (shift_left _ 5) b (omega arith), omega arith)
