-- The value that a word of each kind has.
use Rattle.std.specs.Prelude.{ℕ, ◌+◌, ◌^◌, Bool, false, not, ◌&&◌, ◌||◌, ◌==◌, List, [], ◌∷◌, ◌++◌, length, take, drop, count_by, Option, Some, None, nat_lt}
use Rattle.std.specs.Prelude.{nat_le, if◌then◌else◌, codes}
use Rattle.std.specs.List.{list_all}
use Rattle.std.specs.Fmt.{decimal, digits}
use Rattle.std.specs.Str.{bytes_eq, byte}
use Rattle.sys_types.specs.declared.limits.TheConstants.{SLOTS, LINES}
use Rattle.sys_types.specs.declared.limits.TheConstants.{PIECE_BYTES}
use Rattle.call_words.specs.declared.open.Access.{Access}
use Rattle.call_words.specs.declared.open.Access.TheVariants as access
use Rattle.call_words.specs.declared.open.OpenFlags.{OpenFlags}
use Rattle.script_text.specs.Words.{only_if, number_below}

-- the number of a slot
abbrev pub slot_of : List ℕ → Option ℕ
slot_of w = number_below 10 SLOTS w

-- the line of `ttyN`
abbrev pub line_of : List ℕ → Option ℕ
line_of w = only_if (bytes_eq (take 3 w) (codes "tty")) (number_below 10 LINES (drop 3 w))

-- a file descriptor fits a byte
abbrev pub fd_of : List ℕ → Option ℕ
fd_of w = number_below 10 (2 ^ 8) w

-- the status of an exit fits a byte (_exit(2))
abbrev pub status_of : List ℕ → Option ℕ
status_of w = number_below 10 (2 ^ 8) w

-- the number of a process, or of a group of processes, has 32 bits
abbrev pub pid_of : List ℕ → Option ℕ
pid_of w = number_below 10 (2 ^ 32) w

-- the most that a read gives fits two bytes
abbrev pub max_of : List ℕ → Option ℕ
max_of w = number_below 10 (2 ^ 16) w

-- the most that a taking gives is at most 512
abbrev pub take_max_of : List ℕ → Option ℕ
take_max_of w = number_below 10 (PIECE_BYTES + 1) w

-- how many names a listing passes over fits two bytes
abbrev pub from_of : List ℕ → Option ℕ
from_of w = number_below 10 (2 ^ 16) w

-- a mode (chmod(2)) is octal, up to 777
abbrev pub mode_of : List ℕ → Option ℕ
mode_of w = number_below 8 (8 ^ 3) w

-- the mode of an open that names none, octal 666
abbrev pub default_mode : ℕ
default_mode = 438

abbrev pub access_of : List ℕ → Option Access
access_of w =
    if bytes_eq w (codes "r") then Some access.Read
    else if bytes_eq w (codes "w") then Some access.Write
    else if bytes_eq w (codes "rw") then Some access.ReadWrite
    else None

abbrev pub no_flags : OpenFlags
no_flags = record { create = false; exclusive = false; truncate = false; append = false; nonblock = false; on_exec = false }

-- the letters of an open's flags, in the order in which they are printed
abbrev pub flag_letters : List ℕ
flag_letters = codes "cxtane"

abbrev pub is_flag_letter : ℕ → Bool
is_flag_letter b = b == byte "c" || b == byte "x" || b == byte "t" || b == byte "a" || b == byte "n" || b == byte "e"

-- how often a letter stands in a word
abbrev pub times : ℕ → List ℕ → ℕ
times letter w = count_by (λ b. b == letter) w

-- letters of flags, each at most once
abbrev pub are_flags : List ℕ → Bool
are_flags w = list_all is_flag_letter w && list_all (λ letter. nat_le (times letter w) 1) flag_letters

-- the flags whose letters stand in a word
abbrev pub flags_in : List ℕ → OpenFlags
flags_in w = record {
  create = nat_lt 0 (times (byte "c") w);
  exclusive = nat_lt 0 (times (byte "x") w);
  truncate = nat_lt 0 (times (byte "t") w);
  append = nat_lt 0 (times (byte "a") w);
  nonblock = nat_lt 0 (times (byte "n") w);
  on_exec = nat_lt 0 (times (byte "e") w);
}

-- a dash for no flags, or letters, each at most once, in any order
unfoldable pub flags_of : List ℕ → Option OpenFlags
flags_of w =
    if bytes_eq w (codes "-") then Some no_flags
    else only_if (not (length w == 0) && are_flags w) (Some (flags_in w))

-- the words that are printed of lines, modes, accesses and flags
abbrev pub line_word : ℕ → List ℕ
line_word line = codes "tty" ++ decimal line

abbrev pub mode_word : ℕ → List ℕ
mode_word mode = digits 8 false mode

abbrev pub access_word : Access → List ℕ
access_word access.Read = codes "r"
access_word access.Write = codes "w"
access_word access.ReadWrite = codes "rw"

abbrev pub letter_if : Bool → ℕ → List ℕ
letter_if on letter = if on then letter ∷ [] else []

abbrev pub letters_of : OpenFlags → List ℕ
letters_of f =
    letter_if f.create (byte "c") ++ letter_if f.exclusive (byte "x") ++ letter_if f.truncate (byte "t")
    ++ letter_if f.append (byte "a") ++ letter_if f.nonblock (byte "n") ++ letter_if f.on_exec (byte "e")

unfoldable pub flags_word : OpenFlags → List ℕ
flags_word f = if length (letters_of f) == 0 then codes "-" else letters_of f
