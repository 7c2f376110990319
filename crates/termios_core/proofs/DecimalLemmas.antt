-- Bytes in decimal.
use Rattle.std.proofs.Common.{ℕ, ◌<◌, ◌≤◌, length, arith}
use Rattle.std.specs.Fmt.{decimal}
use Rattle.std.proofs.lemmas.Fmt.{length-decimal-le}

-- there are at most three digits
pub length-decimal_byte : (n : ℕ) → n < 256 → length (decimal n) ≤ 3
length-decimal_byte n h = length-decimal-le 3 n (omega arith) (omega arith) (omega arith)

pub ruleset decimals = length-decimal_byte
