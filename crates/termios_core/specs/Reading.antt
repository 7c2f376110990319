-- What a text is read as, by a function that computes.
use Rattle.std.specs.Prelude.{ℕ, ◌+◌, ◌&&◌, ◌==◌, List, [], ◌∷◌, take, drop, find, position, nat_lt, if◌then◌else◌, codes, Option, Some, None, option_map, option_and_then}
use Rattle.std.specs.List.{slice_split}
use Rattle.std.specs.Str.{bytes_eq}
use Rattle.std.specs.Str.Parse.{digits_value}
use Rattle.std.specs.Fmt.{decimal}
use Rattle.termios_core.specs.declared.flags.Flag.{Flag}
use Rattle.termios_core.specs.declared.flags.Flags.{Flags}
use Rattle.termios_core.specs.declared.termios.Termios.{Termios}
use Rattle.termios_core.specs.Flags.{all_flags, word, flags_of}
use Rattle.termios_core.specs.Termios.{cooked, raw}
use Rattle.termios_core.specs.Text.{comma, plus, colon}

-- what a reader gives for each part, where it reads them all
abbrev pub each : {X : Type 0} → (List ℕ → Option X) → List (List ℕ) → Option (List X)
each read [] = Some []
each read (part ∷ parts) = option_and_then (λ x. option_map (λ xs. x ∷ xs) (each read parts)) (read part)

-- the parts of a text round each place of a byte
abbrev pub parts : ℕ → List ℕ → List (List ℕ)
parts byte text = slice_split (λ b. b == byte) text

-- the flag with this word
abbrev pub flag_of : List ℕ → Option Flag
flag_of name = find (λ flag. bytes_eq (word flag) name) all_flags

-- the flags of a dash, or of words with commas
abbrev pub flags_in : List ℕ → Option Flags
flags_in text = if bytes_eq text (codes "-") then Some (flags_of []) else option_map flags_of (each flag_of (parts comma text))

-- the byte of which this is the decimal text
abbrev pub byte_of : List ℕ → Option ℕ
byte_of text = if nat_lt (digits_value 10 text) 256 && bytes_eq (decimal (digits_value 10 text)) text then Some (digits_value 10 text) else None

-- the bytes of numbers with pluses
abbrev pub bytes_in : List ℕ → Option (List ℕ)
bytes_in text = each byte_of (parts plus text)

-- the termios of these flags and eleven numbers
abbrev pub with_numbers : Flags → List ℕ → Option Termios
with_numbers flags (intr ∷ quit ∷ erase ∷ kill ∷ eof ∷ eol ∷ start ∷ stop ∷ susp ∷ min ∷ time ∷ []) =
    Some
    (record {
      flags = flags;
      intr = intr;
      quit = quit;
      erase = erase;
      kill = kill;
      eof = eof;
      eol = eol;
      start = start;
      stop = stop;
      susp = susp;
      min = min;
      time = time;
    })
with_numbers flags _ = None

-- what stands before and after the first colon
abbrev pub around_colon : List ℕ → Option (List ℕ × List ℕ)
around_colon text = option_map (λ k. (take k text, drop (k + 1) text)) (position (λ b. b == colon) text)

-- the termios of flags and numbers
abbrev pub settings_of : List ℕ → List ℕ → Option Termios
settings_of flags numbers = option_and_then (λ f. option_and_then (λ ns. with_numbers f ns) (bytes_in numbers)) (flags_in flags)

-- the termios that a text spells
unfoldable pub termios_of : List ℕ → Option Termios
termios_of text =
    if bytes_eq text (codes "cooked") then Some cooked
    else (if bytes_eq text (codes "raw") then Some raw
    else option_and_then (λ sides. settings_of sides.0 sides.1) (around_colon text))
