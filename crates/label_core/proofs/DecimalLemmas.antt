-- Numbers of 16 bits in decimal.
use Rattle.std.proofs.Common.{◌≡◌, ℕ, ◌+◌, ◌/◌, ◌%◌, ◌^◌, ◌<◌, ◌≤◌, [], ◌∷◌, ◌++◌, length, arith}
use Rattle.std.specs.Fmt.{decimal}
use Rattle.std.proofs.lemmas.Fmt.{decimal_step, length-decimal-le}

-- the last digit stands behind those of a tenth
pub decimal_more : (n : ℕ) → 10 ≤ n → n < 2 ^ 16 → decimal n ≡ decimal (n / 10) ++ ((48 + n % 10) ∷ [])
decimal_more n h k = decimal_step n h (omega arith)

-- there are at most five digits
pub length-decimal_five : (n : ℕ) → n < 2 ^ 16 → length (decimal n) ≤ 5
length-decimal_five n h = length-decimal-le 5 n (omega arith) (omega arith) (omega arith)

pub ruleset decimals = (length-decimal_five)
