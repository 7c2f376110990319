-- The words of paths, and of the texts that calls answer. A byte outside 33 to 126, and the percent
-- sign, are written as a percent sign and two hex digits, in either case; no other byte is written
-- so. One percent sign alone is the empty path, and a dash the empty text.
use Rattle.std.specs.Prelude.{ℕ, ◌+◌, ◌*◌, Bool, not, ◌&&◌, ◌==◌, List, [], ◌∷◌, length, flat_map, Option, Some, None, nat_lt, nat_le, if◌then◌else◌, codes}
use Rattle.std.specs.Prelude.{option_map, option_and_then}
use Rattle.std.specs.Char.{digit_value}
use Rattle.std.specs.Str.{bytes_eq, byte}
use Rattle.hex.specs.Hex.{encode_lower}
use Rattle.sys_types.specs.declared.limits.TheConstants.{PATH_TEXT_BYTES}
use Rattle.script_text.specs.Words.{only_if}

-- a byte that is written as itself
abbrev pub is_plain : ℕ → Bool
is_plain b = nat_le 33 b && nat_le b 126 && not (b == byte "%")

-- the byte of two hex digits
abbrev pub pair_value : ℕ → ℕ → ℕ
pair_value high low = 16 * digit_value high + digit_value low

-- the byte that two hex digits write behind a percent sign
abbrev pub escape_value : ℕ → ℕ → Option ℕ
escape_value high low =
    only_if (nat_lt (digit_value high) 16 && nat_lt (digit_value low) 16 && not (is_plain (pair_value high low)))
    (Some (pair_value high low))

-- a first byte, and the others
abbrev pub then_bytes : Option ℕ → Option (List ℕ) → Option (List ℕ)
then_bytes first others = option_and_then (λ b. option_map (λ bs. b ∷ bs) others) first

-- the byte that is written as itself
abbrev pub plain_value : ℕ → Option ℕ
plain_value b = only_if (is_plain b) (Some b)

-- the bytes that a text of plain bytes and escapes writes
unfoldable pub path_bytes_of : List ℕ → Option (List ℕ)
path_bytes_of [] = Some []
path_bytes_of (b ∷ high ∷ low ∷ rest) =
    if b == byte "%" then then_bytes (escape_value high low) (path_bytes_of rest)
    else then_bytes (plain_value b) (path_bytes_of (high ∷ low ∷ rest))
path_bytes_of (b ∷ rest) = then_bytes (plain_value b) (path_bytes_of rest)

-- bytes that a path can have
abbrev pub if_short : Option (List ℕ) → Option (List ℕ)
if_short bytes = option_and_then (λ bs. only_if (nat_le (length bs) PATH_TEXT_BYTES) (Some bs)) bytes

-- the path of a word
unfoldable pub path_of : List ℕ → Option (List ℕ)
path_of w =
    if bytes_eq w (codes "%") then Some []
    else if length w == 0 then None
    else if_short (path_bytes_of w)

-- how a byte is printed
abbrev pub byte_text : ℕ → List ℕ
byte_text b = if is_plain b then b ∷ [] else byte "%" ∷ encode_lower (b ∷ [])

-- the word that is printed of a path
unfoldable pub path_word : List ℕ → List ℕ
path_word path = if length path == 0 then codes "%" else flat_map byte_text path

-- the word that is printed of a text
unfoldable pub text_word : List ℕ → List ℕ
text_word text = if length text == 0 then codes "-" else flat_map byte_text text
