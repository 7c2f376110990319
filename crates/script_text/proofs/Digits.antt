-- Numbers, as std reads them.
use Rattle.std.proofs.Common.{◌≡◌, ◌≢◌, ℕ, ◌+◌, ◌<◌, ◌≤◌, ◌^◌, true, leb, ltb, List, [], ◌∷◌, length, get_or, Result, Ok, Err, arith}
use Rattle.std.specs.List.{list_all}
use Rattle.std.specs.Char.{digit_value}
use Rattle.std.specs.Str.{IsUtf8}
use Rattle.std.specs.Str.Parse.{AllDigits, digits_value, ParsesUnsigned}
use Rattle.std.specs.Result.{result_ok}
use Rattle.std.specs.Option.{SomeIff}
use Rattle.std.proofs.lemmas.Bool.{and_parts, leb-true, ltb-true}
use Rattle.std.proofs.lemmas.Bool.Decides.{nat_tests}
use Rattle.std.proofs.lemmas.Str.{IsUtf8-from_ascii}
use Rattle.std.proofs.lemmas.Fmt.{IsAscii-from_digits}
use Rattle.std.proofs.lemmas.Str.Parse.{without_leading_plus_none}
use Rattle.script_text.specs.Words.{is_digit}

pub digit_range : (radix b : ℕ) → is_digit radix b ≡ true → (48 ≤ b) × (b < 48 + radix)
digit_range radix b h =
    let parts = and_parts (leb 48 b) (ltb b (48 + radix)) h in
    (leb-true _ _ parts.0, ltb-true _ _ parts.1)

digit_below : (radix b : ℕ) → radix ≤ 10 → 48 ≤ b → b < 48 + radix → digit_value b < radix
digit_below radix b ten low high = grind (arith, nat_tests)

all_digits : (radix most : ℕ) (ds : List ℕ) → radix ≤ 10 → radix ≤ most → list_all (is_digit radix) ds ≡ true → AllDigits most ds
all_digits radix most [] ten more h = tt
all_digits radix most (b ∷ ds) ten more h =
    let parts = and_parts (is_digit radix b) (list_all (is_digit radix) ds) h in
    let range = digit_range radix b parts.0 in
    let below : digit_value b < radix = digit_below radix b ten range.0 range.1 in
    (omega arith, all_digits radix most ds ten more parts.1)

-- digits begin with no sign
no_plus : (radix : ℕ) (ds : List ℕ) → list_all (is_digit radix) ds ≡ true → get_or ds 0 0 ≢ 43
no_plus radix [] h = λ e. omega (arith, e)
no_plus radix (b ∷ ds) h =
    let parts = and_parts (is_digit radix b) (list_all (is_digit radix) ds) h in
    let range = digit_range radix b parts.0 in
    λ e. omega (arith, e, range.0)

-- what reading gives of digits
pub parse-digits : {E : Type 0} (bits radix : ℕ) (ds : List ℕ) (r : Result ℕ E) → radix ≤ 10 → ParsesUnsigned bits radix ds r → list_all (is_digit radix) ds ≡ true
    → 0 < length ds → SomeIff (result_ok r) (digits_value radix ds < 2 ^ bits) (digits_value radix ds)
parse-digits bits radix ds (Ok n) ten h all some =
    let plain = without_leading_plus_none ds (no_plus radix ds all) in
    let gives = rw plain at h in
    (gives.0.1, gives.1)
parse-digits bits radix ds (Err e) ten h all some =
    let plain = without_leading_plus_none ds (no_plus radix ds all) in
    let none = rw plain at h in
    λ small. none ((some, all_digits radix radix ds ten (omega arith) all), small)

-- digits are text
pub utf8-digits : (radix : ℕ) (ds : List ℕ) → radix ≤ 10 → list_all (is_digit radix) ds ≡ true → IsUtf8 ds
utf8-digits radix ds ten all = IsUtf8-from_ascii ds (IsAscii-from_digits ds (all_digits radix 10 ds ten ten all))
