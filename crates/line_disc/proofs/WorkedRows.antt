-- Rows of the line discipline, worked out by hand: a list of what comes in, and what is then read, is to go out, or is sent.
use Rattle.std.proofs.Common.{◌≡◌, ℕ, Bool, true, false, List, [], ◌∷◌, ◌++◌, length, replicate, refl, Option, Some, None}
use Rattle.sys_types.specs.declared.sig.Sig.{Sig}
use Rattle.sys_types.specs.declared.sig.Sig.TheVariants.{INT, QUIT, TSTP}
use Rattle.termios_core.specs.declared.flags.Flag.{Flag}
use Rattle.termios_core.specs.declared.flags.Flag.TheVariants.{Istrip, Inlcr, Igncr, Icrnl, Ixon, Opost, Onlcr, Ocrnl, Isig, Icanon, Echo, Echoe, Echok}
use Rattle.termios_core.specs.declared.flags.Flag.TheVariants.{Echonl, Echoctl, Noflsh}
use Rattle.termios_core.specs.Flags.{with_flag}
use Rattle.termios_core.specs.declared.termios.Termios.{Termios}
use Rattle.termios_core.specs.Termios.{cooked, raw}
use Rattle.line_disc.specs.Discipline.{Discipline, bytes, fresh, places}
use Rattle.line_disc.specs.Cook.{cook, interrupt, erase, drop_line, end_file, end_line, add_byte, flush}
use Rattle.line_disc.specs.Transfers.{read, after_read, put_count, put, output_front, after_take, is_takeable, is_drained, retune}

-- a line after bytes have come in
abbrev pub type_in : Discipline ℕ → List ℕ → Discipline ℕ
type_in d [] = d
type_in d (b ∷ bs) = type_in ((cook bytes d b).0) bs

-- what it sends for one more
abbrev pub signal_after : Discipline ℕ → ℕ → Option Sig
signal_after d b = (cook bytes d b).1

-- settings with a flag on or off
abbrev pub with : Termios → Flag → Bool → Termios
with t flag on = record t { flags = with_flag t.flags flag on }

-- one place of the input is free
abbrev one_place : Discipline ℕ
one_place = record (fresh cooked) { input = record { ready = record { cells = replicate 1022 97; marked = true } ∷ []; current = [] } }

-- the current line has 255 bytes
abbrev pub line_of_255 : Discipline ℕ
line_of_255 = record (fresh cooked) { input = record { ready = []; current = replicate 255 97 } }

-- row cooked echo
cooked_line : read (type_in (fresh cooked) (104 ∷ 10 ∷ [])) 100 ≡ Some (104 ∷ 10 ∷ [])
unfolding cook interrupt erase drop_line end_file end_line add_byte retune put
cooked_line = refl

-- and what goes out
cooked_echo : (type_in (fresh cooked) (104 ∷ 10 ∷ [])).output ≡ 104 ∷ 13 ∷ 10 ∷ []
unfolding cook interrupt erase drop_line end_file end_line add_byte retune put
cooked_echo = refl

-- row line editing: ERASE on an empty line, and after two bytes
edited_line : read (type_in (fresh cooked) (127 ∷ 97 ∷ 98 ∷ 127 ∷ 10 ∷ [])) 9 ≡ Some (97 ∷ 10 ∷ [])
unfolding cook interrupt erase drop_line end_file end_line add_byte retune put
edited_line = refl

-- and what goes out
edited_echo : (type_in (fresh cooked) (127 ∷ 97 ∷ 98 ∷ 127 ∷ 10 ∷ [])).output ≡ 97 ∷ 98 ∷ 8 ∷ 32 ∷ 8 ∷ 13 ∷ 10 ∷ []
unfolding cook interrupt erase drop_line end_file end_line add_byte retune put
edited_echo = refl

-- a line that EOF ends has no delimiter
ended_by_eof : read (type_in (fresh cooked) (97 ∷ 98 ∷ 4 ∷ [])) 5 ≡ Some (97 ∷ 98 ∷ [])
unfolding cook interrupt erase drop_line end_file end_line add_byte retune put
ended_by_eof = refl

-- EOF on an empty line is a read of no bytes
empty_by_eof : read (type_in (fresh cooked) (4 ∷ [])) 5 ≡ Some []
unfolding cook interrupt erase drop_line end_file end_line add_byte retune put
empty_by_eof = refl

-- a read waits without a ready line
no_line_waits : read (type_in (fresh cooked) (97 ∷ 98 ∷ [])) 5 ≡ None
unfolding cook interrupt erase drop_line end_file end_line add_byte retune put
no_line_waits = refl

-- a line is read in two parts
in_two_reads : read (after_read (type_in (fresh cooked) (97 ∷ 98 ∷ 99 ∷ 100 ∷ 10 ∷ [])) 2) 9 ≡ Some (99 ∷ 100 ∷ 10 ∷ [])
unfolding cook interrupt erase drop_line end_file end_line add_byte retune put
in_two_reads = refl

-- an end of file goes with the last byte of its line
eof_goes_with_its_line : read (after_read (type_in (fresh cooked) (97 ∷ 98 ∷ 4 ∷ 99 ∷ 10 ∷ [])) 2) 9 ≡ Some (99 ∷ 10 ∷ [])
unfolding cook interrupt erase drop_line end_file end_line add_byte retune put
eof_goes_with_its_line = refl

-- row caught interrupt: both queues are emptied, and the character is echoed
interrupt_echo : (type_in (fresh cooked) (97 ∷ 3 ∷ [])).output ≡ 94 ∷ 67 ∷ []
unfolding cook interrupt erase drop_line end_file end_line add_byte retune put
interrupt_echo = refl

-- with noflsh they are not
interrupt_noflsh : (type_in (fresh (with cooked Noflsh true)) (97 ∷ 3 ∷ [])).output ≡ 97 ∷ 94 ∷ 67 ∷ []
unfolding cook interrupt erase drop_line end_file end_line add_byte retune put
interrupt_noflsh = refl

-- nor is the input then
interrupt_input : (type_in (fresh (with cooked Noflsh true)) (97 ∷ 3 ∷ [])).input.current ≡ 97 ∷ []
unfolding cook interrupt erase drop_line end_file end_line add_byte retune put
interrupt_input = refl

-- which is emptied without it
interrupt_empties : (type_in (fresh cooked) (97 ∷ 10 ∷ 97 ∷ 3 ∷ [])).input ≡ record { ready = []; current = [] }
unfolding cook interrupt erase drop_line end_file end_line add_byte retune put
interrupt_empties = refl

-- INTR sends INT
intr_sends : signal_after (fresh cooked) 3 ≡ Some INT
unfolding cook interrupt erase drop_line end_file end_line add_byte retune put
intr_sends = refl

-- QUIT sends QUIT
quit_sends : signal_after (fresh cooked) 28 ≡ Some QUIT
unfolding cook interrupt erase drop_line end_file end_line add_byte retune put
quit_sends = refl

-- SUSP sends TSTP
susp_sends : signal_after (fresh cooked) 26 ≡ Some TSTP
unfolding cook interrupt erase drop_line end_file end_line add_byte retune put
susp_sends = refl

-- without isig it is a byte like others
no_isig : signal_after (fresh (with cooked Isig false)) 3 ≡ None
unfolding cook interrupt erase drop_line end_file end_line add_byte retune put
no_isig = refl

-- which joins the line
no_isig_byte : (type_in (fresh (with cooked Isig false)) (3 ∷ [])).input.current ≡ 3 ∷ []
unfolding cook interrupt erase drop_line end_file end_line add_byte retune put
no_isig_byte = refl

-- INTR comes before QUIT where they are one character
intr_first : signal_after (fresh (record cooked { quit = 3 })) 3 ≡ Some INT
unfolding cook interrupt erase drop_line end_file end_line add_byte retune put
intr_first = refl

-- and QUIT before SUSP
quit_before_susp : signal_after (fresh (record cooked { susp = 28 })) 28 ≡ Some QUIT
unfolding cook interrupt erase drop_line end_file end_line add_byte retune put
quit_before_susp = refl

-- a character that is 255 is disabled
disabled_char : signal_after (fresh (record cooked { intr = 255 })) 255 ≡ None
unfolding cook interrupt erase drop_line end_file end_line add_byte retune put
disabled_char = refl

-- STOP stops the output
stop : (type_in (fresh cooked) (19 ∷ [])).stopped ≡ true
unfolding cook interrupt erase drop_line end_file end_line add_byte retune put
stop = refl

-- START lets it go on
start : (type_in (fresh cooked) (19 ∷ 17 ∷ [])).stopped ≡ false
unfolding cook interrupt erase drop_line end_file end_line add_byte retune put
start = refl

-- STOP comes first where they are one character
stop_first : (type_in (fresh (record cooked { start = 19 })) (19 ∷ [])).stopped ≡ true
unfolding cook interrupt erase drop_line end_file end_line add_byte retune put
stop_first = refl

-- without ixon STOP is a byte like others
no_ixon : (type_in (fresh (with cooked Ixon false)) (19 ∷ [])).stopped ≡ false
unfolding cook interrupt erase drop_line end_file end_line add_byte retune put
no_ixon = refl

-- STOP and START are not read
flow_is_no_input : (type_in (fresh cooked) (19 ∷ 17 ∷ [])).input.current ≡ []
unfolding cook interrupt erase drop_line end_file end_line add_byte retune put
flow_is_no_input = refl

-- nor echoed
flow_is_not_echoed : (type_in (fresh cooked) (19 ∷ 17 ∷ [])).output ≡ []
unfolding cook interrupt erase drop_line end_file end_line add_byte retune put
flow_is_not_echoed = refl

-- nothing is taken while output is stopped
stopped_sends_nothing : output_front (type_in (fresh cooked) (97 ∷ 19 ∷ [])) 9 ≡ []
unfolding cook interrupt erase drop_line end_file end_line add_byte retune put
stopped_sends_nothing = refl

-- and it stays
stopped_keeps : (after_take (type_in (fresh cooked) (97 ∷ 19 ∷ [])) 9).output ≡ 97 ∷ []
unfolding cook interrupt erase drop_line end_file end_line add_byte retune put
stopped_keeps = refl

-- so nothing is to be taken
stopped_not_takeable : is_takeable (type_in (fresh cooked) (97 ∷ 19 ∷ [])) ≡ false
unfolding cook interrupt erase drop_line end_file end_line add_byte retune put
stopped_not_takeable = refl

-- else there is
takes_some : is_takeable (type_in (fresh cooked) (97 ∷ [])) ≡ true
unfolding cook interrupt erase drop_line end_file end_line add_byte retune put
takes_some = refl

-- output is drained when it has been taken
not_drained : is_drained (type_in (fresh cooked) (97 ∷ [])) ≡ false
unfolding cook interrupt erase drop_line end_file end_line add_byte retune put
not_drained = refl

-- and not before
drained_when_all_is_taken : is_drained (after_take (type_in (fresh cooked) (97 ∷ [])) 9) ≡ true
unfolding cook interrupt erase drop_line end_file end_line add_byte retune put
drained_when_all_is_taken = refl

-- output is taken from its front
taken_in_parts : output_front (after_take (type_in (fresh cooked) (97 ∷ 98 ∷ 99 ∷ [])) 2) 9 ≡ 99 ∷ []
unfolding cook interrupt erase drop_line end_file end_line add_byte retune put
taken_in_parts = refl

-- istrip cuts a byte to seven bits
istrip : (type_in (fresh (with cooked Istrip true)) (225 ∷ [])).input.current ≡ 97 ∷ []
unfolding cook interrupt erase drop_line end_file end_line add_byte retune put
istrip = refl

-- and without it none is
no_istrip : (type_in (fresh cooked) (225 ∷ [])).input.current ≡ 225 ∷ []
unfolding cook interrupt erase drop_line end_file end_line add_byte retune put
no_istrip = refl

-- icrnl makes a newline of a carriage return
icrnl : read (type_in (fresh cooked) (97 ∷ 13 ∷ [])) 9 ≡ Some (97 ∷ 10 ∷ [])
unfolding cook interrupt erase drop_line end_file end_line add_byte retune put
icrnl = refl

-- and without it none is
no_icrnl : (type_in (fresh (with cooked Icrnl false)) (97 ∷ 13 ∷ [])).input.current ≡ 97 ∷ 13 ∷ []
unfolding cook interrupt erase drop_line end_file end_line add_byte retune put
no_icrnl = refl

-- igncr drops it before icrnl
igncr : (type_in (fresh (with cooked Igncr true)) (97 ∷ 13 ∷ [])).input ≡ record { ready = []; current = 97 ∷ [] }
unfolding cook interrupt erase drop_line end_file end_line add_byte retune put
igncr = refl

-- inlcr makes a carriage return of a newline
inlcr : (type_in (fresh (with cooked Inlcr true)) (97 ∷ 10 ∷ [])).input.current ≡ 97 ∷ 13 ∷ []
unfolding cook interrupt erase drop_line end_file end_line add_byte retune put
inlcr = refl

-- a newline that icrnl made stays one
icrnl_then_no_inlcr : read (type_in (fresh (with cooked Inlcr true)) (97 ∷ 13 ∷ [])) 9 ≡ Some (97 ∷ 10 ∷ [])
unfolding cook interrupt erase drop_line end_file end_line add_byte retune put
icrnl_then_no_inlcr = refl

-- EOL ends a line too
eol : read (type_in (fresh (record cooked { eol = 59 })) (97 ∷ 59 ∷ [])) 9 ≡ Some (97 ∷ 59 ∷ [])
unfolding cook interrupt erase drop_line end_file end_line add_byte retune put
eol = refl

-- and is echoed as it is
eol_echo : (type_in (fresh (record cooked { eol = 59 })) (97 ∷ 59 ∷ [])).output ≡ 97 ∷ 59 ∷ []
unfolding cook interrupt erase drop_line end_file end_line add_byte retune put
eol_echo = refl

-- without icanon a newline ends no line
no_icanon_newline : (type_in (fresh (with cooked Icanon false)) (97 ∷ 10 ∷ [])).input ≡ record { ready = []; current = 97 ∷ 10 ∷ [] }
unfolding cook interrupt erase drop_line end_file end_line add_byte retune put
no_icanon_newline = refl

-- nor does ERASE edit one
no_icanon_erase : (type_in (fresh (with cooked Icanon false)) (97 ∷ 127 ∷ [])).input.current ≡ 97 ∷ 127 ∷ []
unfolding cook interrupt erase drop_line end_file end_line add_byte retune put
no_icanon_erase = refl

-- nor KILL
no_icanon_kill : (type_in (fresh (with cooked Icanon false)) (97 ∷ 21 ∷ [])).input.current ≡ 97 ∷ 21 ∷ []
unfolding cook interrupt erase drop_line end_file end_line add_byte retune put
no_icanon_kill = refl

-- nor is EOF an end
no_icanon_eof : (type_in (fresh (with cooked Icanon false)) (97 ∷ 4 ∷ [])).input.current ≡ 97 ∷ 4 ∷ []
unfolding cook interrupt erase drop_line end_file end_line add_byte retune put
no_icanon_eof = refl

-- ERASE after byte 61
erase_plain : (type_in (fresh cooked) (97 ∷ 127 ∷ [])).output ≡ 97 ∷ 8 ∷ 32 ∷ 8 ∷ []
unfolding cook interrupt erase drop_line end_file end_line add_byte retune put
erase_plain = refl

-- and without echoctl
erase_plain_no_echoctl : (type_in (fresh (with cooked Echoctl false)) (97 ∷ 127 ∷ [])).output ≡ 97 ∷ 8 ∷ 32 ∷ 8 ∷ []
unfolding cook interrupt erase drop_line end_file end_line add_byte retune put
erase_plain_no_echoctl = refl

-- and without echoe: ERASE is echoed
erase_plain_no_echoe : (type_in (fresh (with cooked Echoe false)) (97 ∷ 127 ∷ [])).output ≡ 97 ∷ 94 ∷ 63 ∷ []
unfolding cook interrupt erase drop_line end_file end_line add_byte retune put
erase_plain_no_echoe = refl

-- ERASE after byte 01
erase_control : (type_in (fresh cooked) (1 ∷ 127 ∷ [])).output ≡ 94 ∷ 65 ∷ 8 ∷ 32 ∷ 8 ∷ 8 ∷ 32 ∷ 8 ∷ []
unfolding cook interrupt erase drop_line end_file end_line add_byte retune put
erase_control = refl

-- and without echoctl
erase_control_no_echoctl : (type_in (fresh (with cooked Echoctl false)) (1 ∷ 127 ∷ [])).output ≡ 1 ∷ []
unfolding cook interrupt erase drop_line end_file end_line add_byte retune put
erase_control_no_echoctl = refl

-- and without echoe: ERASE is echoed
erase_control_no_echoe : (type_in (fresh (with cooked Echoe false)) (1 ∷ 127 ∷ [])).output ≡ 94 ∷ 65 ∷ 94 ∷ 63 ∷ []
unfolding cook interrupt erase drop_line end_file end_line add_byte retune put
erase_control_no_echoe = refl

-- ERASE after byte 09
erase_tab : (type_in (fresh cooked) (9 ∷ 127 ∷ [])).output ≡ 9 ∷ 8 ∷ 32 ∷ 8 ∷ []
unfolding cook interrupt erase drop_line end_file end_line add_byte retune put
erase_tab = refl

-- and without echoctl
erase_tab_no_echoctl : (type_in (fresh (with cooked Echoctl false)) (9 ∷ 127 ∷ [])).output ≡ 9 ∷ 8 ∷ 32 ∷ 8 ∷ []
unfolding cook interrupt erase drop_line end_file end_line add_byte retune put
erase_tab_no_echoctl = refl

-- and without echoe: ERASE is echoed
erase_tab_no_echoe : (type_in (fresh (with cooked Echoe false)) (9 ∷ 127 ∷ [])).output ≡ 9 ∷ 94 ∷ 63 ∷ []
unfolding cook interrupt erase drop_line end_file end_line add_byte retune put
erase_tab_no_echoe = refl

-- ERASE after byte ff
erase_high : (type_in (fresh cooked) (255 ∷ 127 ∷ [])).output ≡ 255 ∷ 8 ∷ 32 ∷ 8 ∷ []
unfolding cook interrupt erase drop_line end_file end_line add_byte retune put
erase_high = refl

-- and without echoctl
erase_high_no_echoctl : (type_in (fresh (with cooked Echoctl false)) (255 ∷ 127 ∷ [])).output ≡ 255 ∷ 8 ∷ 32 ∷ 8 ∷ []
unfolding cook interrupt erase drop_line end_file end_line add_byte retune put
erase_high_no_echoctl = refl

-- and without echoe: ERASE is echoed
erase_high_no_echoe : (type_in (fresh (with cooked Echoe false)) (255 ∷ 127 ∷ [])).output ≡ 255 ∷ 94 ∷ 63 ∷ []
unfolding cook interrupt erase drop_line end_file end_line add_byte retune put
erase_high_no_echoe = refl

-- ERASE after byte 7e
erase_delete_like : (type_in (fresh cooked) (126 ∷ 127 ∷ [])).output ≡ 126 ∷ 8 ∷ 32 ∷ 8 ∷ []
unfolding cook interrupt erase drop_line end_file end_line add_byte retune put
erase_delete_like = refl

-- and without echoctl
erase_delete_like_no_echoctl : (type_in (fresh (with cooked Echoctl false)) (126 ∷ 127 ∷ [])).output ≡ 126 ∷ 8 ∷ 32 ∷ 8 ∷ []
unfolding cook interrupt erase drop_line end_file end_line add_byte retune put
erase_delete_like_no_echoctl = refl

-- and without echoe: ERASE is echoed
erase_delete_like_no_echoe : (type_in (fresh (with cooked Echoe false)) (126 ∷ 127 ∷ [])).output ≡ 126 ∷ 94 ∷ 63 ∷ []
unfolding cook interrupt erase drop_line end_file end_line add_byte retune put
erase_delete_like_no_echoe = refl

-- ERASE after a delete, which is drawn in two columns
erase_delete : (type_in (fresh (record cooked { erase = 8 })) (127 ∷ 8 ∷ [])).output ≡ 94 ∷ 63 ∷ 8 ∷ 32 ∷ 8 ∷ 8 ∷ 32 ∷ 8 ∷ []
unfolding cook interrupt erase drop_line end_file end_line add_byte retune put
erase_delete = refl

-- and in none without echoctl
erase_delete_no_echoctl : (type_in (fresh (record (with cooked Echoctl false) { erase = 8 })) (127 ∷ 8 ∷ [])).output ≡ 127 ∷ []
unfolding cook interrupt erase drop_line end_file end_line add_byte retune put
erase_delete_no_echoctl = refl

-- the columns are those of the present settings
erase_present : (type_in (retune (type_in (fresh cooked) (1 ∷ [])) (with cooked Echoctl false)) (127 ∷ [])).output ≡ 94 ∷ 65 ∷ []
unfolding cook interrupt erase drop_line end_file end_line add_byte retune put
erase_present = refl

-- ERASE on an empty line echoes nothing
erase_empty : (type_in (fresh cooked) (127 ∷ [])).output ≡ []
unfolding cook interrupt erase drop_line end_file end_line add_byte retune put
erase_empty = refl

-- nor without echoe
erase_empty_no_echoe : (type_in (fresh (with cooked Echoe false)) (127 ∷ [])).output ≡ []
unfolding cook interrupt erase drop_line end_file end_line add_byte retune put
erase_empty_no_echoe = refl

-- ERASE leaves a ready line
erase_ready : (type_in (fresh cooked) (97 ∷ 10 ∷ 127 ∷ [])).output ≡ 97 ∷ 13 ∷ 10 ∷ []
unfolding cook interrupt erase drop_line end_file end_line add_byte retune put
erase_ready = refl

-- which is read whole
erase_ready_read : read (type_in (fresh cooked) (97 ∷ 10 ∷ 127 ∷ [])) 9 ≡ Some (97 ∷ 10 ∷ [])
unfolding cook interrupt erase drop_line end_file end_line add_byte retune put
erase_ready_read = refl

-- without echo nothing goes out
erase_no_echo : (type_in (fresh (with cooked Echo false)) (97 ∷ 127 ∷ [])).output ≡ []
unfolding cook interrupt erase drop_line end_file end_line add_byte retune put
erase_no_echo = refl

-- but the byte goes
erase_no_echo_line : (type_in (fresh (with cooked Echo false)) (97 ∷ 98 ∷ 127 ∷ [])).input.current ≡ 97 ∷ []
unfolding cook interrupt erase drop_line end_file end_line add_byte retune put
erase_no_echo_line = refl

-- ERASE takes the last byte
erase_last : (type_in (fresh cooked) (97 ∷ 98 ∷ 99 ∷ 127 ∷ [])).input.current ≡ 97 ∷ 98 ∷ []
unfolding cook interrupt erase drop_line end_file end_line add_byte retune put
erase_last = refl

-- KILL on an empty line is echoed, with a newline
kill_empty : (type_in (fresh cooked) (21 ∷ [])).output ≡ 94 ∷ 85 ∷ 13 ∷ 10 ∷ []
unfolding cook interrupt erase drop_line end_file end_line add_byte retune put
kill_empty = refl

-- and after a byte
kill_some : (type_in (fresh cooked) (97 ∷ 21 ∷ [])).output ≡ 97 ∷ 94 ∷ 85 ∷ 13 ∷ 10 ∷ []
unfolding cook interrupt erase drop_line end_file end_line add_byte retune put
kill_some = refl

-- whose line it takes
kill_line : (type_in (fresh cooked) (97 ∷ 98 ∷ 21 ∷ [])).input.current ≡ []
unfolding cook interrupt erase drop_line end_file end_line add_byte retune put
kill_line = refl

-- KILL leaves ready lines
kill_ready : (type_in (fresh cooked) (97 ∷ 10 ∷ 98 ∷ 21 ∷ [])).input ≡ record { ready = record { cells = 97 ∷ 10 ∷ []; marked = false } ∷ []; current = [] }
unfolding cook interrupt erase drop_line end_file end_line add_byte retune put
kill_ready = refl

-- without echok there is no newline
kill_no_echok : (type_in (fresh (with cooked Echok false)) (97 ∷ 21 ∷ [])).output ≡ 97 ∷ 94 ∷ 85 ∷ []
unfolding cook interrupt erase drop_line end_file end_line add_byte retune put
kill_no_echok = refl

-- without echo there is nothing
kill_no_echo : (type_in (fresh (with cooked Echo false)) (97 ∷ 21 ∷ [])).output ≡ []
unfolding cook interrupt erase drop_line end_file end_line add_byte retune put
kill_no_echo = refl

-- without echoctl KILL is echoed as it is
kill_no_echoctl : (type_in (fresh (with cooked Echoctl false)) (21 ∷ [])).output ≡ 21 ∷ 13 ∷ 10 ∷ []
unfolding cook interrupt erase drop_line end_file end_line add_byte retune put
kill_no_echoctl = refl

-- a tab is echoed as it is
echo_tab : (type_in (fresh cooked) (9 ∷ [])).output ≡ 9 ∷ []
unfolding cook interrupt erase drop_line end_file end_line add_byte retune put
echo_tab = refl

-- a control character as ^ and a letter
echo_control : (type_in (fresh cooked) (1 ∷ [])).output ≡ 94 ∷ 65 ∷ []
unfolding cook interrupt erase drop_line end_file end_line add_byte retune put
echo_control = refl

-- and without echoctl as it is
echo_control_plain : (type_in (fresh (with cooked Echoctl false)) (1 ∷ [])).output ≡ 1 ∷ []
unfolding cook interrupt erase drop_line end_file end_line add_byte retune put
echo_control_plain = refl

-- a byte over 127 as it is
echo_high : (type_in (fresh cooked) (225 ∷ [])).output ≡ 225 ∷ []
unfolding cook interrupt erase drop_line end_file end_line add_byte retune put
echo_high = refl

-- without echo nothing is echoed
no_echo : (type_in (fresh (with cooked Echo false)) (97 ∷ 10 ∷ [])).output ≡ []
unfolding cook interrupt erase drop_line end_file end_line add_byte retune put
no_echo = refl

-- but a newline with echonl
echonl : (type_in (fresh (with (with cooked Echo false) Echonl true)) (97 ∷ 10 ∷ [])).output ≡ 13 ∷ 10 ∷ []
unfolding cook interrupt erase drop_line end_file end_line add_byte retune put
echonl = refl

-- unless lines are not edited
echonl_no_icanon : (type_in (fresh (with (with (with cooked Echo false) Echonl true) Icanon false)) (97 ∷ 10 ∷ [])).output ≡ []
unfolding cook interrupt erase drop_line end_file end_line add_byte retune put
echonl_no_icanon = refl

-- and no other EOL
echonl_eol : (type_in (fresh (record (with (with cooked Echo false) Echonl true) { eol = 59 })) (97 ∷ 59 ∷ [])).output ≡ []
unfolding cook interrupt erase drop_line end_file end_line add_byte retune put
echonl_eol = refl

-- EOF is not echoed
eof_not_echoed : (type_in (fresh cooked) (97 ∷ 4 ∷ [])).output ≡ 97 ∷ []
unfolding cook interrupt erase drop_line end_file end_line add_byte retune put
eof_not_echoed = refl

-- without onlcr a newline goes out as it is
no_onlcr : (type_in (fresh (with cooked Onlcr false)) (10 ∷ [])).output ≡ 10 ∷ []
unfolding cook interrupt erase drop_line end_file end_line add_byte retune put
no_onlcr = refl

-- nor without opost
no_opost : (type_in (fresh (with cooked Opost false)) (10 ∷ [])).output ≡ 10 ∷ []
unfolding cook interrupt erase drop_line end_file end_line add_byte retune put
no_opost = refl

-- ocrnl makes a newline of a carriage return
ocrnl : (put bytes (fresh (with cooked Ocrnl true)) (13 ∷ [])).output ≡ 10 ∷ []
unfolding cook interrupt erase drop_line end_file end_line add_byte retune put
ocrnl = refl

-- but without opost it stays
ocrnl_no_opost : (put bytes (fresh (with (with cooked Ocrnl true) Opost false)) (13 ∷ [])).output ≡ 13 ∷ []
unfolding cook interrupt erase drop_line end_file end_line add_byte retune put
ocrnl_no_opost = refl

-- a written newline goes out as two bytes
write_newline : (put bytes (fresh cooked) (97 ∷ 10 ∷ 98 ∷ [])).output ≡ 97 ∷ 13 ∷ 10 ∷ 98 ∷ []
unfolding cook interrupt erase drop_line end_file end_line add_byte retune put
write_newline = refl

-- a written newline wants room for two bytes
newline_needs_two : put_count {C = ℕ} (record (fresh cooked) { output = replicate 4095 97 }) (10 ∷ []) ≡ 0
unfolding cook interrupt erase drop_line end_file end_line add_byte retune put
newline_needs_two = refl

-- and what is behind it is not put
newline_stops_a_write : put_count {C = ℕ} (record (fresh cooked) { output = replicate 4094 97 }) (98 ∷ 10 ∷ 99 ∷ []) ≡ 1
unfolding cook interrupt erase drop_line end_file end_line add_byte retune put
newline_stops_a_write = refl

-- where there is
newline_has_two : put_count {C = ℕ} (record (fresh cooked) { output = replicate 4094 97 }) (10 ∷ 98 ∷ []) ≡ 1
unfolding cook interrupt erase drop_line end_file end_line add_byte retune put
newline_has_two = refl

-- an echo that does not fit is dropped whole
echo_in_part : length (type_in (record (fresh cooked) { output = replicate 4095 97 }) (1 ∷ [])).output ≡ 4095
unfolding cook interrupt erase drop_line end_file end_line add_byte retune put
echo_in_part = refl

-- one that fits is put
echo_that_fits : length (type_in (record (fresh cooked) { output = replicate 4095 97 }) (97 ∷ [])).output ≡ 4096
unfolding cook interrupt erase drop_line end_file end_line add_byte retune put
echo_that_fits = refl

-- and its byte comes in all the same
echo_dropped_line : (type_in (record (fresh cooked) { output = replicate 4095 97 }) (1 ∷ [])).input.current ≡ 1 ∷ []
unfolding cook interrupt erase drop_line end_file end_line add_byte retune put
echo_dropped_line = refl

-- a byte after the 255th is dropped
long_line : length (type_in line_of_255 (98 ∷ [])).input.current ≡ 255
unfolding cook interrupt erase drop_line end_file end_line add_byte retune put
long_line = refl

-- and not echoed
long_line_echo : (type_in line_of_255 (98 ∷ [])).output ≡ []
unfolding cook interrupt erase drop_line end_file end_line add_byte retune put
long_line_echo = refl

-- a newline ends the line
long_line_ends : (type_in line_of_255 (98 ∷ 10 ∷ [])).input.ready ≡ record { cells = replicate 255 97 ++ 10 ∷ []; marked = false } ∷ []
unfolding cook interrupt erase drop_line end_file end_line add_byte retune put
long_line_ends = refl

-- without icanon it goes on
raw_line_grows : length
    (type_in (record (fresh (with cooked Icanon false)) { input = record { ready = []; current = replicate 255 97 } }) (98 ∷ [])).input.current ≡ 256
unfolding cook interrupt erase drop_line end_file end_line add_byte retune put
raw_line_grows = refl

-- an end of file takes a place
marks_take_places : places {C = ℕ} one_place.input ≡ 1023
unfolding cook interrupt erase drop_line end_file end_line add_byte retune put
marks_take_places = refl

-- the last place is taken by an end of file
last_place : places (type_in one_place (4 ∷ [])).input ≡ 1024
unfolding cook interrupt erase drop_line end_file end_line add_byte retune put
last_place = refl

-- then a byte is dropped
no_place : (type_in one_place (4 ∷ 97 ∷ [])).input.current ≡ []
unfolding cook interrupt erase drop_line end_file end_line add_byte retune put
no_place = refl

-- and an end of file
no_place_eof : places (type_in one_place (4 ∷ 4 ∷ [])).input ≡ 1024
unfolding cook interrupt erase drop_line end_file end_line add_byte retune put
no_place_eof = refl

-- and a newline, without an echo
no_place_newline : (type_in one_place (4 ∷ 10 ∷ [])).output ≡ []
unfolding cook interrupt erase drop_line end_file end_line add_byte retune put
no_place_newline = refl

-- but ERASE still takes a byte
no_place_erase : (type_in one_place (97 ∷ 127 ∷ [])).input.current ≡ []
unfolding cook interrupt erase drop_line end_file end_line add_byte retune put
no_place_erase = refl

-- and INTR empties the queues
no_place_intr : places (type_in one_place (4 ∷ 3 ∷ [])).input ≡ 0
unfolding cook interrupt erase drop_line end_file end_line add_byte retune put
no_place_intr = refl

-- without icanon a read waits for MIN bytes
raw_waits : read (type_in (fresh (record raw { min = 3 })) (97 ∷ 98 ∷ [])) 9 ≡ None
unfolding cook interrupt erase drop_line end_file end_line add_byte retune put
raw_waits = refl

-- and gives them
raw_min : read (type_in (fresh (record raw { min = 3 })) (97 ∷ 98 ∷ 99 ∷ [])) 9 ≡ Some (97 ∷ 98 ∷ 99 ∷ [])
unfolding cook interrupt erase drop_line end_file end_line add_byte retune put
raw_min = refl

-- or waits for as many as are asked, where that is less
raw_max : read (type_in (fresh (record raw { min = 3 })) (97 ∷ 98 ∷ [])) 2 ≡ Some (97 ∷ 98 ∷ [])
unfolding cook interrupt erase drop_line end_file end_line add_byte retune put
raw_max = refl

-- it gives more than MIN where there are more
raw_more : read (type_in (fresh (record raw { min = 1 })) (97 ∷ 98 ∷ 99 ∷ [])) 2 ≡ Some (97 ∷ 98 ∷ [])
unfolding cook interrupt erase drop_line end_file end_line add_byte retune put
raw_more = refl

-- with MIN 0 it does not wait
raw_min_0 : read (type_in (fresh (record raw { min = 0 })) []) 9 ≡ Some []
unfolding cook interrupt erase drop_line end_file end_line add_byte retune put
raw_min_0 = refl

-- what is not given stays
raw_left : (after_read (type_in (fresh raw) (97 ∷ 98 ∷ 99 ∷ [])) 2).input.current ≡ 99 ∷ []
unfolding cook interrupt erase drop_line end_file end_line add_byte retune put
raw_left = refl

-- a read that waits changes nothing
waiting_read_leaves : (after_read (type_in (fresh cooked) (97 ∷ [])) 2).input.current ≡ 97 ∷ []
unfolding cook interrupt erase drop_line end_file end_line add_byte retune put
waiting_read_leaves = refl

-- where icanon goes off, all is one list without ends of file
retune_off : (retune (type_in (fresh cooked) (97 ∷ 10 ∷ 98 ∷ 4 ∷ 99 ∷ [])) raw).input ≡ record { ready = []; current = 97 ∷ 10 ∷ 98 ∷ 99 ∷ [] }
unfolding cook interrupt erase drop_line end_file end_line add_byte retune put
retune_off = refl

-- where it comes on, all is one ready line
retune_on : (retune (type_in (fresh raw) (97 ∷ 10 ∷ 98 ∷ [])) cooked).input ≡
    record { ready = record { cells = 97 ∷ 10 ∷ 98 ∷ []; marked = false } ∷ []; current = [] }
unfolding cook interrupt erase drop_line end_file end_line add_byte retune put
retune_on = refl

-- or none
retune_on_empty : (retune {C = ℕ} (fresh raw) cooked).input ≡ record { ready = []; current = [] }
unfolding cook interrupt erase drop_line end_file end_line add_byte retune put
retune_on_empty = refl

-- else it stays
retune_same : (retune (type_in (fresh cooked) (97 ∷ 10 ∷ 98 ∷ [])) (with cooked Echo false)).input.current ≡ 98 ∷ []
unfolding cook interrupt erase drop_line end_file end_line add_byte retune put
retune_same = refl

-- output stays stopped
retune_stopped : (retune (type_in (fresh cooked) (19 ∷ [])) raw).stopped ≡ true
unfolding cook interrupt erase drop_line end_file end_line add_byte retune put
retune_stopped = refl

-- and what is to go out stays
retune_output : (retune (type_in (fresh cooked) (97 ∷ [])) raw).output ≡ 97 ∷ []
unfolding cook interrupt erase drop_line end_file end_line add_byte retune put
retune_output = refl

-- the input is emptied alone
flush_input : (flush (type_in (fresh cooked) (97 ∷ [])) true false).output ≡ 97 ∷ []
unfolding cook interrupt erase drop_line end_file end_line add_byte retune put
flush_input = refl

-- and the output alone
flush_output : (flush (type_in (fresh cooked) (97 ∷ [])) false true).input.current ≡ 97 ∷ []
unfolding cook interrupt erase drop_line end_file end_line add_byte retune put
flush_output = refl

-- output stays stopped
flush_stopped : (flush (type_in (fresh cooked) (19 ∷ [])) true true).stopped ≡ true
unfolding cook interrupt erase drop_line end_file end_line add_byte retune put
flush_stopped = refl

-- row flood of bytes: what is behind the 255th goes unseen
flood_of_bytes : (type_in (fresh cooked) (replicate 300 97)).output ≡ replicate 255 97
unfolding cook interrupt erase drop_line end_file end_line add_byte retune put
flood_of_bytes = refl
