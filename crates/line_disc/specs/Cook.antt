-- What a byte does that comes in at a line: the first of nine cases (termios(4)).
use Rattle.std.specs.Prelude.{ℕ, ◌+◌, ◌%◌, Bool, true, false, not, ◌&&◌, ◌||◌, ◌==◌, List, [], ◌∷◌, ◌++◌, length, map, reverse, nat_le, if◌then◌else◌, Option}
use Rattle.std.specs.Prelude.{Some, None}
use Rattle.sys_types.specs.declared.limits.TheConstants.{INPUT_PLACES, READY_LINE_BYTES, OUTPUT_BYTES}
use Rattle.sys_types.specs.declared.sig.Sig.{Sig}
use Rattle.sys_types.specs.declared.sig.Sig.TheVariants.{INT, QUIT, TSTP}
use Rattle.termios_core.specs.declared.termios.Termios.{Termios}
use Rattle.line_disc.specs.Echo.{newline, carriage_return, is_char, shown, echo, erase_echo, drop_line_echo}
use Rattle.line_disc.specs.Discipline.{Cells, Input, Discipline, no_input, places}

-- what goes out for bytes is put at the end of the output, and is dropped whole where it does not fit
abbrev pub put_whole : {C : Type 0} → Cells C → Discipline C → List ℕ → Discipline C
put_whole c d out =
    if nat_le (length d.output + length (shown d.termios out)) OUTPUT_BYTES then record d { output = d.output ++ map c.made (shown d.termios out) } else d

-- istrip
abbrev pub strip : Termios → ℕ → ℕ
strip t b = if t.flags.istrip then b % 128 else b

-- case 1: STOP and START (ixon)
abbrev pub is_flow : Termios → ℕ → Bool
is_flow t b = t.flags.ixon && (is_char t.stop b || is_char t.start b)

abbrev pub set_flow : {C : Type 0} → Discipline C → ℕ → Discipline C
set_flow d b = record d { stopped = is_char d.termios.stop b }

-- case 2: INTR, QUIT and SUSP (isig), and what they send
abbrev pub signal_of : Termios → ℕ → Option Sig
signal_of t b =
    if t.flags.isig && is_char t.intr b then Some INT
    else (if t.flags.isig && is_char t.quit b then Some QUIT
    else (if t.flags.isig && is_char t.susp b then Some TSTP else None))

-- the queues are emptied, those that are named (tcflush(3))
abbrev pub flush : {C : Type 0} → Discipline C → Bool → Bool → Discipline C
flush d input output = record d {
  input = if input then no_input else d.input;
  output = if output then [] else d.output;
}

-- both queues are emptied unless noflsh is on, and the byte is echoed
unfoldable pub interrupt : {C : Type 0} → Cells C → Discipline C → ℕ → Discipline C
interrupt c d b = put_whole c (flush d (not d.termios.flags.noflsh) (not d.termios.flags.noflsh)) (echo d.termios b)

-- case 3: what carriage return and newline are read as (igncr, icrnl, inlcr)
abbrev pub translate : Termios → ℕ → Option ℕ
translate t b =
    if b == carriage_return then (if t.flags.igncr then None else (if t.flags.icrnl then Some newline else Some b))
    else (if (b == newline) && t.flags.inlcr then Some carriage_return else Some b)

-- case 4: ERASE takes the last byte of the current line
abbrev pub erase_last : {C : Type 0} → Cells C → Discipline C → ℕ → List C → Discipline C
erase_last c d b [] = d
erase_last c d b (last ∷ before) =
    put_whole c (record d { input = record { ready = d.input.ready; current = reverse before } }) (erase_echo d.termios b (c.byte last))

unfoldable pub erase : {C : Type 0} → Cells C → Discipline C → ℕ → Discipline C
erase c d b = erase_last c d b (reverse d.input.current)

-- case 5: KILL takes the current line
unfoldable pub drop_line : {C : Type 0} → Cells C → Discipline C → ℕ → Discipline C
drop_line c d b = put_whole c (record d { input = record { ready = d.input.ready; current = [] } }) (drop_line_echo d.termios b)

-- case 6: all places are taken
abbrev pub is_full : {C : Type 0} → Discipline C → Bool
is_full d = nat_le INPUT_PLACES (places d.input)

-- the current line is ready
abbrev pub make_ready : {C : Type 0} → Input C → List C → Bool → Input C
make_ready input cells marked = record { ready = input.ready ++ record { cells = cells; marked = marked } ∷ []; current = [] }

-- case 7: EOF makes the current line ready, with a mark, and is not echoed
unfoldable pub end_file : {C : Type 0} → Discipline C → Discipline C
end_file d = record d { input = make_ready d.input d.input.current true }

-- case 8: newline and EOL end the current line, which is then ready
unfoldable pub end_line : {C : Type 0} → Cells C → Discipline C → ℕ → Discipline C
end_line c d b = put_whole c (record d { input = make_ready d.input (d.input.current ++ c.made b ∷ []) false }) (echo d.termios b)

-- case 9: any other byte joins the current line, which has 255 bytes at most while lines are edited (MAX_CANON)
abbrev pub is_long : {C : Type 0} → Discipline C → Bool
is_long d = d.termios.flags.icanon && nat_le READY_LINE_BYTES (length d.input.current)

unfoldable pub add_byte : {C : Type 0} → Cells C → Discipline C → ℕ → Discipline C
add_byte c d b = put_whole c (record d { input = record { ready = d.input.ready; current = d.input.current ++ c.made b ∷ [] } }) (echo d.termios b)

-- cases 4 to 9
abbrev pub enter : {C : Type 0} → Cells C → Discipline C → ℕ → Discipline C
enter c d b =
    if d.termios.flags.icanon && is_char d.termios.erase b then erase c d b
    else (if d.termios.flags.icanon && is_char d.termios.kill b then drop_line c d b
    else (if is_full d then d
    else (if d.termios.flags.icanon && is_char d.termios.eof b then end_file d
    else (if d.termios.flags.icanon && ((b == newline) || is_char d.termios.eol b) then end_line c d b
    else (if is_long d then d else add_byte c d b)))))

-- cases 3 to 9
abbrev pub enter_as : {C : Type 0} → Cells C → Discipline C → Option ℕ → Discipline C
enter_as c d None = d
enter_as c d (Some b) = enter c d b

-- all nine cases, of a byte that istrip has cut
abbrev pub cook_by_case : {C : Type 0} → Cells C → Discipline C → ℕ → Option Sig → Discipline C
cook_by_case c d b (Some signal) = interrupt c d b
cook_by_case c d b None = enter_as c d (translate d.termios b)

abbrev pub cook_cut : {C : Type 0} → Cells C → Discipline C → ℕ → Discipline C × Option Sig
cook_cut c d b =
    if is_flow d.termios b then (set_flow d b, None) else (cook_by_case c d b (signal_of d.termios b), signal_of d.termios b)

-- what a byte makes of a line, and the signal that it sends to the foreground
unfoldable pub cook : {C : Type 0} → Cells C → Discipline C → ℕ → Discipline C × Option Sig
cook c d b = cook_cut c d (strip d.termios b)
