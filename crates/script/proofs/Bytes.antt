-- Four bytes as a number, the highest first.
use Rattle.std.proofs.Common.{◌≡◌, ℕ, [], ◌∷◌, arith, w32}
use Rattle.std.specs.Int.{from_be_bytes}
use Rattle.rules.specs.Script.{big_endian}

pub big_endian_bytes : (a b c d : ℕ) → from_be_bytes w32 (a ∷ b ∷ c ∷ d ∷ []) ≡ big_endian a b c d
unfolding big_endian
big_endian_bytes a b c d = omega arith
