-- Numbers that are printed are read again.
use Rattle.std.proofs.Common.{◌≡◌, ℕ, zero, suc, ◌^◌, ◌<◌, ◌≤◌, true, false, ◌&&◌, eqb, ltb, length, get_or, Some, refl, arith, rules}
use Rattle.std.specs.Fmt.{decimal}
use Rattle.std.specs.List.{list_all}
use Rattle.std.specs.Str.Parse.{digits_value}
use Rattle.std.proofs.lemmas.Bool.{lt-ltb, ne_eqb, and_right}
use Rattle.std.proofs.lemmas.Fmt.{digits_decimal, digits_value-decimal, decimal_nonempty, first_decimal, decimal_digit}
use Rattle.std.proofs.lemmas.Str.Parse.{IsNumeralModel, numerals_by_value}
use Rattle.script_text.specs.Words.{is_digit, number_below}

-- digits, by this crate's test
ten_digits : IsNumeralModel (λ ds. list_all (is_digit 10) ds ≡ true) (digits_value 10)
ten_digits = numerals_by_value _ (search rules)

pub digits_of_number : (n : ℕ) → n < 2 ^ 64 → list_all (is_digit 10) (decimal n) ≡ true
digits_of_number n h = digits_decimal ten_digits n h

-- a number has no leading zero
no_zero_first : (n : ℕ) → n < 2 ^ 64 → (ltb 1 (length (decimal n)) && eqb (get_or (decimal n) 0 0) 48) ≡ false
no_zero_first zero h = rw (decimal_digit 0 (omega arith)) refl
no_zero_first (suc n) h =
    let first = first_decimal (suc n) (omega arith) h in
    and_right (ltb 1 (length (decimal (suc n)))) (eqb (get_or (decimal (suc n)) 0 0) 48) (ne_eqb _ 48 (λ e. omega (arith, first, e)))

pub number_back : (limit n : ℕ) → n < limit → limit ≤ 2 ^ 64 → number_below 10 limit (decimal n) ≡ Some n
unfolding number_below
number_back limit n h most =
    let fits : n < 2 ^ 64 = omega arith in
    let some : eqb (length (decimal n)) 0 ≡ false = ne_eqb _ 0 (λ e. let more = decimal_nonempty n fits in omega (arith, more, e)) in
    let all : list_all (is_digit 10) (decimal n) ≡ true = digits_of_number n fits in
    let value : digits_value 10 (decimal n) ≡ n = digits_value-decimal ten_digits n fits in
    let below : ltb n limit ≡ true = lt-ltb n limit h in
    rw (some, all, no_zero_first n fits, value, below) refl
