-- What is read, written and taken at a line, and what changes its settings and empties it (termios(4)).
use Rattle.std.specs.Prelude.{ℕ, ◌+◌, ◌-◌, Bool, true, false, not, ◌&&◌, List, [], ◌∷◌, ◌++◌, length, map, take, drop, min, nat_le, nat_lt, if◌then◌else◌}
use Rattle.std.specs.Prelude.{Option, Some, None}
use Rattle.sys_types.specs.declared.limits.TheConstants.{OUTPUT_BYTES}
use Rattle.termios_core.specs.declared.termios.Termios.{Termios}
use Rattle.line_disc.specs.Echo.{shown_byte, shown}
use Rattle.line_disc.specs.Discipline.{Cells, ReadyLine, Input, Discipline, all_cells}

-- whether a list is empty
abbrev pub has_none : {A : Type 0} → List A → Bool
has_none [] = true
has_none (x ∷ xs) = false

-- the lines that are left of these after a read of so many bytes: the first goes when all its bytes are given
abbrev pub lines_after : {C : Type 0} → ℕ → List (ReadyLine C) → List (ReadyLine C)
lines_after max [] = []
lines_after max (line ∷ lines) = if has_none (drop max line.cells) then lines else record line { cells = drop max line.cells } ∷ lines

-- the cells that such a read gives
abbrev pub front_of : {C : Type 0} → ℕ → List (ReadyLine C) → List C
front_of max [] = []
front_of max (line ∷ lines) = take max line.cells

-- whether a read waits: for a ready line, or without icanon for MIN bytes, or fewer where fewer are asked
-- ("Canonical Mode Input Processing", "Noncanonical Mode Input Processing")
abbrev pub waits : {C : Type 0} → Discipline C → ℕ → Bool
waits d max =
    if d.termios.flags.icanon then has_none d.input.ready else nat_lt (length d.input.current) (min d.termios.min max)

-- what a read gives that does not wait
abbrev pub front : {C : Type 0} → Discipline C → ℕ → List C
front d max = if d.termios.flags.icanon then front_of max d.input.ready else take max d.input.current

-- the input after such a read
abbrev pub input_after : {C : Type 0} → Discipline C → ℕ → Input C
input_after d max =
    if d.termios.flags.icanon then record { ready = lines_after max d.input.ready; current = d.input.current }
    else record { ready = d.input.ready; current = drop max d.input.current }

-- what a read of so many bytes answers: none where it waits
abbrev pub read : {C : Type 0} → Discipline C → ℕ → Option (List C)
read d max = if waits d max then None else Some (front d max)

-- the line after it
abbrev pub after_read : {C : Type 0} → Discipline C → ℕ → Discipline C
after_read d max = if waits d max then d else record d { input = input_after d max }

-- how many of the bytes a write puts: each goes in where all that goes out for it fits
abbrev pub fit_count : Termios → ℕ → List ℕ → ℕ
fit_count t room [] = 0
fit_count t room (b ∷ bs) = if nat_le (length (shown_byte t b)) room then 1 + fit_count t (room - length (shown_byte t b)) bs else 0

-- how many of the bytes a write to this line puts
abbrev pub put_count : {C : Type 0} → Discipline C → List ℕ → ℕ
put_count d written = fit_count d.termios (OUTPUT_BYTES - length d.output) written

-- the line after a write
unfoldable pub put : {C : Type 0} → Cells C → Discipline C → List ℕ → Discipline C
put c d written = record d { output = d.output ++ map c.made (shown d.termios (take (put_count d written) written)) }

-- what is taken for sending, of so many bytes at most: nothing while the output is stopped
abbrev pub output_front : {C : Type 0} → Discipline C → ℕ → List C
output_front d max = if d.stopped then [] else take max d.output

-- the line after it
abbrev pub after_take : {C : Type 0} → Discipline C → ℕ → Discipline C
after_take d max = if d.stopped then d else record d { output = drop max d.output }

-- whether a taking would give a byte
abbrev pub is_takeable : {C : Type 0} → Discipline C → Bool
is_takeable d = not d.stopped && not (has_none d.output)

-- whether all output has been taken (tcdrain(3))
abbrev pub is_drained : {C : Type 0} → Discipline C → Bool
is_drained d = has_none d.output

-- cells, if any, as one ready line
abbrev pub as_line : {C : Type 0} → List C → List (ReadyLine C)
as_line [] = []
as_line (cell ∷ cells) = record { cells = cell ∷ cells; marked = false } ∷ []

-- the input where icanon goes off or comes on: all that is queued is one list, or one ready line
abbrev pub turn : {C : Type 0} → Bool → Bool → Input C → Input C
turn old new input =
    if old && not new then record { ready = []; current = all_cells input }
    else (if not old && new then record { ready = as_line (all_cells input); current = [] } else input)

-- a line with other settings (tcsetattr(3))
unfoldable pub retune : {C : Type 0} → Discipline C → Termios → Discipline C
retune d t = record d { termios = t; input = turn d.termios.flags.icanon t.flags.icanon d.input }
