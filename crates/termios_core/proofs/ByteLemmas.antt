-- A text is read as a byte exactly where it is what `decimal` writes of one.
use Rattle.std.proofs.Common.{◌≡◌, ◌≢◌, ℕ, zero, suc, ◌<◌, ◌≤◌, ◌^◌, true, ltb, ◌&&◌, List, length, get_or, Some, None, Result, Ok, Err, refl, sym, ap, ◌∙◌, subst, inl, inr, ◌⊎◌, arith, lit<}
use Rattle.std.specs.Result.{OkIff, result_ok}
use Rattle.std.specs.Str.{IsUtf8, bytes_eq}
use Rattle.std.specs.Str.Parse.{AllDigits, digits_value, ParsesUnsigned}
use Rattle.std.specs.Fmt.{decimal}
use Rattle.std.proofs.lemmas.Bool.{ltb-true, lt-ltb}
use Rattle.std.proofs.lemmas.Slice.Eq.{bytes_eq-Decides}
use Rattle.std.proofs.lemmas.Str.{IsUtf8-from_ascii}
use Rattle.std.proofs.lemmas.Str.Parse.{digit_at, numerals_by_value, tells_digits, parse_plain}
use Rattle.std.proofs.lemmas.Fmt.{decimal_is_IsNumeral, decimal_digit, decimal_nonempty, first_decimal, IsAscii-decimal, decimal-digits_value}
use Rattle.termios_core.specs.Reading.{byte_of}
use Rattle.termios_core.proofs.CaseLemmas.{both, none_of_choice, some_of_choice}

-- what is no decimal text of a byte is not read
pub byte_of_other : (text : List ℕ) → ((n : ℕ) → n < 256 → text ≡ decimal n → ⊥) → byte_of text ≡ None
byte_of_other text other =
    none_of_choice (ltb (digits_value 10 text) 256 && bytes_eq (decimal (digits_value 10 text)) text) (digits_value 10 text) (λ e.
    let parts = both (ltb (digits_value 10 text) 256) (bytes_eq (decimal (digits_value 10 text)) text) e in
    other (digits_value 10 text) (ltb-true _ _ parts.0) (sym ((bytes_eq-Decides (decimal (digits_value 10 text)) text).0 parts.1)))

wide : (n : ℕ) → n < 256 → n < 2 ^ 64
wide n h = omega arith

-- the decimal text of a byte is read as that byte
pub byte_of-decimal : (n : ℕ) → n < 256 → byte_of (decimal n) ≡ Some n
byte_of-decimal n h =
    let value : digits_value 10 (decimal n) ≡ n = (decimal_is_IsNumeral n (wide n h)).1 in
    let same : bytes_eq (decimal n) (decimal n) ≡ true = (bytes_eq-Decides (decimal n) (decimal n)).1 refl in
    let low : ltb n 256 ≡ true = lt-ltb _ _ h in
    rw (value, low, same) refl

-- what is read is the decimal text of the byte
pub byte_of_some : (text : List ℕ) (n : ℕ) → byte_of text ≡ Some n → (text ≡ decimal n) × (n < 256)
byte_of_some text n e =
    let value = digits_value 10 text in
    let read = some_of_choice (ltb value 256 && bytes_eq (decimal value) text) value n e in
    let parts = both (ltb value 256) (bytes_eq (decimal value) text) read.0 in
    let low : value < 256 = ltb-true _ _ parts.0 in
    (sym ((bytes_eq-Decides (decimal value) text).0 parts.1) ∙ ap decimal read.1, omega (arith, read.1))

cases_zero : (n : ℕ) → (n ≡ 0) ⊎ (0 < n)
cases_zero zero = inl refl
cases_zero (suc n) = inr (omega arith)

pub byte_of_empty : (text : List ℕ) → length text ≡ 0 → byte_of text ≡ None
byte_of_empty text h = byte_of_other text (λ n low e. absurd (omega (arith, decimal_nonempty n (wide n low), ap length e)))

-- the first byte of a decimal text is a digit
first_digit : (n : ℕ) → n < 256 → 48 ≤ get_or (decimal n) 0 0
first_digit n low =
    let numeral = (decimal_is_IsNumeral n (wide n low)).0 in
    (digit_at (decimal n) 0 numeral.1 numeral.0).0

pub byte_of_plus : (text : List ℕ) → get_or text 0 0 ≡ 43 → byte_of text ≡ None
byte_of_plus text h = byte_of_other text (λ n low e. absurd (omega (arith, first_digit n low, ap (λ (t : List ℕ). get_or t 0 0) e)))

pub byte_of_zero : (text : List ℕ) → get_or text 0 0 ≡ 48 → 1 < length text → byte_of text ≡ None
byte_of_zero text h long = byte_of_other text (λ n low e. elim (cases_zero n) [
  | inl none ↦ absurd (omega (arith, ap length e, ap (λ (k : ℕ). length (decimal k)) none, ap length (decimal_digit 0 (lit< tt))))
  | inr more ↦ absurd (omega (arith, first_decimal n more (wide n low), ap (λ (t : List ℕ). get_or t 0 0) e))
])

pub byte_of_not_utf8 : (text : List ℕ) → ¬ (IsUtf8 text) → byte_of text ≡ None
byte_of_not_utf8 text h =
    byte_of_other text
    (λ n low e. absurd (h (let P : List ℕ → Type 0 = IsUtf8 in subst P (sym e) (IsUtf8-from_ascii (decimal n) (IsAscii-decimal n (wide n low))))))

parsed : {E : Type 0} (text : List ℕ) (r : Result ℕ E) → OkIff r (AllDigits 10 text × (0 < length text) × (digits_value 10 text < 2 ^ 8)) (digits_value 10 text)
    → 0 < length text → (get_or text 0 0 ≡ 48 → length text ≡ 1) → result_ok r ≡ byte_of text
parsed text (Ok x) h some zeros =
    let value = digits_value 10 text in
    let low : value < 256 = omega (arith, h.0.2) in
    let text_is : decimal value ≡ text = decimal-digits_value (numerals_by_value _ tells_digits) text h.0.0 some zeros (wide value low) in
    ap (λ (n : ℕ). Some n) h.1 ∙ sym (byte_of-decimal value low) ∙ ap byte_of text_is
parsed text (Err e) h some zeros = sym (byte_of_other text (λ n low is. absurd (h (
    let numeral = decimal_is_IsNumeral n (wide n low) in
    let value : digits_value 10 text ≡ n = ap (digits_value 10) is ∙ numeral.1 in
    let digits : AllDigits 10 text = subst (AllDigits 10) (sym is) numeral.0.1 in
    (digits, some, omega (arith, value))))))

-- what `parse` reads of a text with no sign and no leading zero
pub byte_of_parsed : {E : Type 0} (text : List ℕ) (r : Result ℕ E) → ParsesUnsigned 8 10 text r → 0 < length text → get_or text 0 0 ≢ 43
    → (get_or text 0 0 ≡ 48 → length text ≡ 1) → result_ok r ≡ byte_of text
byte_of_parsed text r h some plain zeros = parsed text r (parse_plain (numerals_by_value _ tells_digits) 8 text r h plain) some zeros

-- the texts of no byte
pub ruleset other_texts = (byte_of_empty, byte_of_plus, byte_of_zero, byte_of_not_utf8)
