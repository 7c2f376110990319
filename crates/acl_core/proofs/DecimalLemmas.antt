-- Numbers of 32 bits in decimal.
use Rattle.std.proofs.Common.{ℕ, ◌^◌, ◌<◌, ◌≤◌, length, arith}
use Rattle.std.specs.Fmt.{decimal}
use Rattle.std.proofs.lemmas.Fmt.{length-decimal-le}

-- there are at most ten digits
pub length-decimal_32 : (n : ℕ) → n < 2 ^ 32 → length (decimal n) ≤ 10
length-decimal_32 n h = length-decimal-le 10 n (omega arith) (omega arith) (omega arith)

pub ruleset length_ten = length-decimal_32
