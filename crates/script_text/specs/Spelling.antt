-- The words of paths as a grammar: ways to write a byte, how each is spelled, and what it means.
use Rattle.std.specs.Prelude.{◌≡◌, ℕ, ◌<◌, ◌≤◌, true, false, List, [], ◌∷◌, length, map, flat_map, codes}
use Rattle.std.specs.List.{AllByRecursion}
use Rattle.std.specs.Char.{digit_value}
use Rattle.std.specs.Str.{byte}
use Rattle.sys_types.specs.declared.limits.TheConstants.{PATH_TEXT_BYTES}
use Rattle.script_text.specs.Paths.{is_plain, pair_value}

-- a byte as it is, or two digits behind a percent sign
pub data Part : Type 0 where
  plain : ℕ → Part
  escape : ℕ → ℕ → Part

-- a byte from 33 to 126 other than the percent sign is plain; the hex digits, in either case, are
-- those of another byte
abbrev pub IsPart : Part → Type 0
IsPart (plain b) = is_plain b ≡ true
IsPart (escape high low) = (digit_value high < 16) × (digit_value low < 16) × (is_plain (pair_value high low) ≡ false)

abbrev pub part_text : Part → List ℕ
part_text (plain b) = b ∷ []
part_text (escape high low) = byte "%" ∷ high ∷ low ∷ []

-- the byte that it means
abbrev pub part_byte : Part → ℕ
part_byte (plain b) = b
part_byte (escape high low) = pair_value high low

-- the text is spelled by parts that mean these bytes
pub record IsSpelled (text bytes : List ℕ) : Type 0 where
  pub parts : List Part
  pub valid : AllByRecursion IsPart parts
  pub spelling : text ≡ flat_map part_text parts
  pub meaning : bytes ≡ map part_byte parts

-- the words that write a path: one percent sign for the empty path, and a spelling of 1 to 1,024
-- bytes
pub data WritesPath (word path : List ℕ) : Type 0 where
  lone_sign : word ≡ codes "%" → path ≡ [] → WritesPath word path
  by_parts : 0 < length path → length path ≤ PATH_TEXT_BYTES → IsSpelled word path → WritesPath word path
