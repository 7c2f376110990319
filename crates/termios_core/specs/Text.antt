-- The text of a termios, and the texts that spell one.
use Rattle.std.specs.Prelude.{◌≡◌, ℕ, ◌<◌, List, [], ◌∷◌, ◌++◌, length, map, codes}
use Rattle.std.specs.List.{AllByRecursion, join_with_byte}
use Rattle.std.specs.Fmt.{decimal}
use Rattle.termios_core.specs.declared.flags.Flag.{Flag}
use Rattle.termios_core.specs.declared.termios.Termios.{Termios}
use Rattle.termios_core.specs.Flags.{word, flags_of, on_flags}
use Rattle.termios_core.specs.Termios.{numbers, cooked, raw}

-- the byte between two words
abbrev pub comma : ℕ
comma = 44

-- the byte between two numbers
abbrev pub plus : ℕ
plus = 43

-- the byte between the flags and the numbers
abbrev pub colon : ℕ
colon = 58

-- the words of flags with a comma between each two, or a dash where there is no flag
abbrev pub flags_text : List Flag → List ℕ
flags_text [] = codes "-"
flags_text (flag ∷ flags) = join_with_byte comma (map word (flag ∷ flags))

-- the eleven numbers in decimal, with a plus between each two
abbrev pub numbers_text : Termios → List ℕ
numbers_text t = join_with_byte plus (map decimal (numbers t))

-- the text that is printed: the flags that are on, each once and in one order, and the numbers
unfoldable pub termios_text : Termios → List ℕ
termios_text t = flags_text (on_flags t.flags) ++ codes ":" ++ numbers_text t

-- the texts that spell a termios: two words, and any list of its flags with its numbers
pub data Spells (text : List ℕ) (t : Termios) : Type 0 where
  cooked_word : text ≡ codes "cooked" → t ≡ cooked → Spells text t
  raw_word : text ≡ codes "raw" → t ≡ raw → Spells text t
  settings : (flags : List Flag) → t.flags ≡ flags_of flags → text ≡ flags_text flags ++ codes ":" ++ numbers_text t → Spells text t

-- a byte of ASCII that is no blank and no control character
abbrev pub IsGraphic : ℕ → Type 0
IsGraphic b = (32 < b) × (b < 127)

-- one graphic byte or more: the text stands as one word in a line
pub record IsWord (text : List ℕ) : Type 0 where
  pub some : 0 < length text
  pub graphic : AllByRecursion IsGraphic text
