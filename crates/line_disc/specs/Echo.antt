-- What a line puts out for a byte: the output rule and the echo (termios(4), "Output Modes" and "Local Modes").
use Rattle.std.specs.Prelude.{ℕ, zero, suc, Bool, ◌&&◌, ◌||◌, not, ◌==◌, List, [], ◌∷◌, ◌++◌, nat_lt, if◌then◌else◌, bit_xor}
use Rattle.std.specs.List.{flat_map}
use Rattle.termios_core.specs.declared.termios.Termios.{Termios}

-- the bytes of ASCII that are spoken of by name
abbrev pub newline : ℕ
newline = 10

abbrev pub carriage_return : ℕ
carriage_return = 13

-- whether a byte is this control character, which is disabled where it is 255 (_POSIX_VDISABLE)
abbrev pub is_char : ℕ → ℕ → Bool
is_char char b = (b == char) && not (char == 255)

-- the output rule of a byte: what goes out for it (opost, onlcr, ocrnl)
abbrev pub shown_byte : Termios → ℕ → List ℕ
shown_byte t b =
    if t.flags.opost && t.flags.onlcr && (b == newline) then carriage_return ∷ newline ∷ []
    else (if t.flags.opost && t.flags.ocrnl && (b == carriage_return) then newline ∷ [] else b ∷ [])

-- what goes out for bytes
abbrev pub shown : Termios → List ℕ → List ℕ
shown t bytes = flat_map (shown_byte t) bytes

-- a byte that echoctl draws as `^` and a letter: a control character other than tab and newline, and delete
abbrev pub is_drawn : ℕ → Bool
is_drawn b = (nat_lt b 32 && not (b == 9) && not (b == newline)) || (b == 127)

-- how a byte is echoed (echoctl)
abbrev pub draw : Termios → ℕ → List ℕ
draw t b = if t.flags.echoctl && is_drawn b then 94 ∷ bit_xor b 64 ∷ [] else b ∷ []

-- the echo of a byte that came in (echo, echonl)
abbrev pub echo : Termios → ℕ → List ℕ
echo t b =
    if t.flags.echo then draw t b
    else (if t.flags.echonl && t.flags.icanon && (b == newline) then newline ∷ [] else [])

-- how many columns of the screen a byte took that was echoed
abbrev pub columns : Termios → ℕ → ℕ
columns t b = if is_drawn b then (if t.flags.echoctl then 2 else 0) else (if b == newline then 0 else 1)

-- back, blank, back: what wipes a column (echoe)
abbrev pub wipe : List ℕ
wipe = 8 ∷ 32 ∷ 8 ∷ []

-- what wipes so many columns, two at the most
abbrev pub wipes : ℕ → List ℕ
wipes zero = []
wipes (suc zero) = wipe
wipes _ = wipe ++ wipe

-- the echo of ERASE, which took a byte away (echoe)
abbrev pub erase_echo : Termios → ℕ → ℕ → List ℕ
erase_echo t b removed = if t.flags.echo then (if t.flags.echoe then wipes (columns t removed) else draw t b) else []

-- the echo of KILL (echok)
abbrev pub drop_line_echo : Termios → ℕ → List ℕ
drop_line_echo t b = if t.flags.echo then (if t.flags.echok then draw t b ++ newline ∷ [] else draw t b) else []
