-- The words of a line, and the numbers and bytes that they write.
use Rattle.std.specs.Prelude.{ℕ, ◌+◌, ◌*◌, Bool, not, ◌&&◌, ◌||◌, ◌==◌, List, [], length, Option, Some, None, nat_lt, nat_le, if◌then◌else◌, codes, slice_index}
use Rattle.std.specs.List.{slice_split, list_all}
use Rattle.std.specs.Str.{bytes_eq, byte}
use Rattle.std.specs.Str.Parse.{digits_value}
use Rattle.std.specs.Result.{result_ok}
use Rattle.hex.specs.Hex.{decode_of, encode_lower}
use Rattle.sys_types.specs.declared.limits.TheConstants.{PIECE_BYTES}

-- the parts of a text round each place of a byte
unfoldable pub parts_of : ℕ → List ℕ → List (List ℕ)
parts_of mark text = slice_split (λ b. b == mark) text

-- words are parted by one blank
abbrev pub words : List ℕ → List (List ℕ)
words line = parts_of (byte " ") line

-- the value, where a condition holds
abbrev pub only_if : {X : Type 0} → Bool → Option X → Option X
only_if condition value = if condition then value else None

-- a digit below a radix of at most ten
abbrev pub is_digit : ℕ → ℕ → Bool
is_digit radix b = nat_le (byte "0") b && nat_lt b (byte "0" + radix)

-- digits, of which the first is no 0 but where it stands alone
abbrev pub is_number : ℕ → List ℕ → Bool
is_number radix w = not (length w == 0) && list_all (is_digit radix) w && not (nat_lt 1 (length w) && (slice_index w 0 == byte "0"))

-- the number that a word writes, where that is below a limit
unfoldable pub number_below : ℕ → ℕ → List ℕ → Option ℕ
number_below radix limit w = if is_number radix w && nat_lt (digits_value radix w) limit then Some (digits_value radix w) else None

-- a dash for no bytes, or one pair of hex digits, in either case, for each of 1 to 512 bytes
unfoldable pub bytes_of_word : List ℕ → Option (List ℕ)
bytes_of_word w =
    if bytes_eq w (codes "-") then Some []
    else if length w == 0 || nat_lt (2 * PIECE_BYTES) (length w) then None
    else result_ok (decode_of w)

-- the word that is printed of bytes: pairs of hex digits in lower case, or a dash
unfoldable pub hex_word : List ℕ → List ℕ
hex_word bs = if length bs == 0 then codes "-" else encode_lower bs
