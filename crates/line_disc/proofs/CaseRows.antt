-- Rows of the order of the nine cases, of the drawing of bytes, and of queues that are full, worked out by hand.
use Rattle.std.proofs.Common.{◌≡◌, ℕ, true, false, [], ◌∷◌, length, replicate, refl, Some, None}
use Rattle.sys_types.specs.declared.sig.Sig.TheVariants.{INT}
use Rattle.termios_core.specs.declared.flags.Flag.TheVariants.{Istrip, Inlcr, Igncr, Icrnl, Onlcr, Ocrnl, Isig, Icanon, Echo, Echok}
use Rattle.termios_core.specs.declared.flags.Flag.TheVariants.{Echoe, Echonl, Echoctl}
use Rattle.termios_core.specs.Termios.{cooked, raw}
use Rattle.line_disc.specs.Echo.{draw, columns, shown}
use Rattle.line_disc.specs.Discipline.{Discipline, bytes, fresh, places, all_cells}
use Rattle.line_disc.specs.Cook.{cook, interrupt, erase, drop_line, end_file, end_line, add_byte, flush}
use Rattle.line_disc.specs.Transfers.{read, after_read, waits, put_count, put, output_front, is_takeable, is_drained, retune}
use Rattle.line_disc.proofs.WorkedRows.{type_in, signal_after, with, line_of_255}

-- one place of the input is free: the others are bytes of a line that is not edited; or bytes of a ready line, its end of file and a current line
abbrev raw_1023 : Discipline ℕ
raw_1023 = record (fresh (with cooked Icanon false)) { input = record { ready = []; current = replicate 1023 97 } }

abbrev mixed_1023 : Discipline ℕ
mixed_1023 = record (fresh cooked) { input = record { ready = record { cells = replicate 1000 97; marked = true } ∷ []; current = replicate 22 98 } }

-- a byte is cut to seven bits before it is looked at: it may be STOP
istrip_stop : (type_in (fresh (with cooked Istrip true)) (147 ∷ [])).stopped ≡ true
unfolding cook interrupt erase drop_line end_file end_line add_byte retune put
istrip_stop = refl

-- or INTR
istrip_intr : signal_after (fresh (with cooked Istrip true)) 131 ≡ Some INT
unfolding cook interrupt erase drop_line end_file end_line add_byte retune put
istrip_intr = refl

-- or a newline
istrip_newline : read (type_in (fresh (with cooked Istrip true)) (97 ∷ 138 ∷ [])) 9 ≡ Some (97 ∷ 10 ∷ [])
unfolding cook interrupt erase drop_line end_file end_line add_byte retune put
istrip_newline = refl

-- STOP comes before INTR where they are one character
stop_before_intr : signal_after (fresh (record cooked { stop = 3 })) 3 ≡ None
unfolding cook interrupt erase drop_line end_file end_line add_byte retune put
stop_before_intr = refl

-- and STOP stops then
stop_before_intr_stops : (type_in (fresh (record cooked { stop = 3 })) (3 ∷ [])).stopped ≡ true
unfolding cook interrupt erase drop_line end_file end_line add_byte retune put
stop_before_intr_stops = refl

-- a signal character is one before carriage return is read as newline
intr_before_icrnl : signal_after (fresh (record cooked { intr = 13 })) 13 ≡ Some INT
unfolding cook interrupt erase drop_line end_file end_line add_byte retune put
intr_before_icrnl = refl

-- a carriage return is read as newline before editing keys are looked for
icrnl_before_erase : (type_in (fresh (record cooked { erase = 10 })) (97 ∷ 98 ∷ 13 ∷ [])).input.current ≡ 97 ∷ []
unfolding cook interrupt erase drop_line end_file end_line add_byte retune put
icrnl_before_erase = refl

-- but ERASE does not come before it
erase_behind_icrnl : read (type_in (fresh (record cooked { erase = 13 })) (97 ∷ 13 ∷ [])) 9 ≡ Some (97 ∷ 10 ∷ [])
unfolding cook interrupt erase drop_line end_file end_line add_byte retune put
erase_behind_icrnl = refl

-- ERASE comes before KILL where they are one character
erase_before_kill : (type_in (fresh (record cooked { kill = 127 })) (97 ∷ 98 ∷ 127 ∷ [])).input.current ≡ 97 ∷ []
unfolding cook interrupt erase drop_line end_file end_line add_byte retune put
erase_before_kill = refl

-- KILL before EOF
kill_before_eof : (type_in (fresh (record cooked { kill = 4 })) (97 ∷ 4 ∷ [])).input ≡ record { ready = []; current = [] }
unfolding cook interrupt erase drop_line end_file end_line add_byte retune put
kill_before_eof = refl

-- EOF before newline
eof_before_newline : read (type_in (fresh (record cooked { eof = 10 })) (97 ∷ 10 ∷ [])) 9 ≡ Some (97 ∷ [])
unfolding cook interrupt erase drop_line end_file end_line add_byte retune put
eof_before_newline = refl

-- EOF before EOL
eof_before_eol : read (type_in (fresh (record cooked { eol = 4 })) (97 ∷ 4 ∷ [])) 9 ≡ Some (97 ∷ [])
unfolding cook interrupt erase drop_line end_file end_line add_byte retune put
eof_before_eol = refl

-- EOL that is disabled ends no line
eol_disabled : (type_in (fresh cooked) (255 ∷ [])).input.current ≡ 255 ∷ []
unfolding cook interrupt erase drop_line end_file end_line add_byte retune put
eol_disabled = refl

-- QUIT without isig is a byte
no_isig_quit : signal_after (fresh (with cooked Isig false)) 28 ≡ None
unfolding cook interrupt erase drop_line end_file end_line add_byte retune put
no_isig_quit = refl

-- and SUSP
no_isig_susp : signal_after (fresh (with cooked Isig false)) 26 ≡ None
unfolding cook interrupt erase drop_line end_file end_line add_byte retune put
no_isig_susp = refl

-- signals are sent where lines are not edited too
intr_without_icanon : signal_after (fresh (with raw Isig true)) 3 ≡ Some INT
unfolding cook interrupt erase drop_line end_file end_line add_byte retune put
intr_without_icanon = refl

-- and empty the input
intr_without_icanon_empties : (type_in (fresh (with raw Isig true)) (97 ∷ 3 ∷ [])).input.current ≡ []
unfolding cook interrupt erase drop_line end_file end_line add_byte retune put
intr_without_icanon_empties = refl

-- without echo a signal character is not echoed
intr_no_echo : (type_in (fresh (with cooked Echo false)) (97 ∷ 3 ∷ [])).output ≡ []
unfolding cook interrupt erase drop_line end_file end_line add_byte retune put
intr_no_echo = refl

-- QUIT empties both queues too
quit_empties : (type_in (fresh cooked) (97 ∷ 28 ∷ [])) ≡ record (fresh cooked) { output = 94 ∷ 92 ∷ [] }
unfolding cook interrupt erase drop_line end_file end_line add_byte retune put
quit_empties = refl

-- and SUSP
susp_empties : (type_in (fresh cooked) (97 ∷ 26 ∷ [])) ≡ record (fresh cooked) { output = 94 ∷ 90 ∷ [] }
unfolding cook interrupt erase drop_line end_file end_line add_byte retune put
susp_empties = refl

-- a signal character leaves output stopped
intr_stays_stopped : (type_in (fresh cooked) (19 ∷ 3 ∷ [])).stopped ≡ true
unfolding cook interrupt erase drop_line end_file end_line add_byte retune put
intr_stays_stopped = refl

-- inlcr leaves a carriage return
inlcr_alone : (type_in (fresh (with (with cooked Icrnl false) Inlcr true)) (13 ∷ [])).input.current ≡ 13 ∷ []
unfolding cook interrupt erase drop_line end_file end_line add_byte retune put
inlcr_alone = refl

-- igncr leaves a newline
igncr_newline : read (type_in (fresh (with cooked Igncr true)) (97 ∷ 10 ∷ [])) 9 ≡ Some (97 ∷ 10 ∷ [])
unfolding cook interrupt erase drop_line end_file end_line add_byte retune put
igncr_newline = refl

-- a carriage return that igncr drops is not echoed
igncr_echo : (type_in (fresh (with cooked Igncr true)) (13 ∷ [])).output ≡ []
unfolding cook interrupt erase drop_line end_file end_line add_byte retune put
igncr_echo = refl

-- lines are read in the order in which they came
lines_in_order : read (type_in (fresh cooked) (97 ∷ 10 ∷ 98 ∷ 10 ∷ [])) 9 ≡ Some (97 ∷ 10 ∷ [])
unfolding cook interrupt erase drop_line end_file end_line add_byte retune put
lines_in_order = refl

-- and the next is behind them
next_line : read (after_read (type_in (fresh cooked) (97 ∷ 10 ∷ 98 ∷ 10 ∷ [])) 9) 9 ≡ Some (98 ∷ 10 ∷ [])
unfolding cook interrupt erase drop_line end_file end_line add_byte retune put
next_line = refl

-- a line goes when exactly its bytes are read
line_of_two : read (after_read (type_in (fresh cooked) (97 ∷ 10 ∷ 98 ∷ 10 ∷ [])) 2) 9 ≡ Some (98 ∷ 10 ∷ [])
unfolding cook interrupt erase drop_line end_file end_line add_byte retune put
line_of_two = refl

-- and stays with the rest when fewer are
rest_of_line : (after_read (type_in (fresh cooked) (97 ∷ 10 ∷ 98 ∷ 10 ∷ [])) 1).input.ready
    ≡ record { cells = 10 ∷ []; marked = false } ∷ record { cells = 98 ∷ 10 ∷ []; marked = false } ∷ []
unfolding cook interrupt erase drop_line end_file end_line add_byte retune put
rest_of_line = refl

-- the current line stays
read_leaves_current : (after_read (type_in (fresh cooked) (97 ∷ 10 ∷ 98 ∷ [])) 9).input ≡ record { ready = []; current = 98 ∷ [] }
unfolding cook interrupt erase drop_line end_file end_line add_byte retune put
read_leaves_current = refl

-- an end of file behind bytes stays until they are read
mark_stays : (after_read (type_in (fresh cooked) (97 ∷ 98 ∷ 4 ∷ [])) 1).input.ready ≡ record { cells = 98 ∷ []; marked = true } ∷ []
unfolding cook interrupt erase drop_line end_file end_line add_byte retune put
mark_stays = refl

-- two ends of file are two reads of no bytes
two_ends_of_file : read (after_read (type_in (fresh cooked) (4 ∷ 4 ∷ [])) 9) 9 ≡ Some []
unfolding cook interrupt erase drop_line end_file end_line add_byte retune put
two_ends_of_file = refl

-- behind which a read waits
after_two_ends : read (after_read (after_read (type_in (fresh cooked) (4 ∷ 4 ∷ [])) 9) 9) 9 ≡ None
unfolding cook interrupt erase drop_line end_file end_line add_byte retune put
after_two_ends = refl

-- an end of file comes behind the lines before it
eof_behind_a_line : (type_in (fresh cooked) (97 ∷ 10 ∷ 98 ∷ 4 ∷ [])).input.ready
    ≡ record { cells = 97 ∷ 10 ∷ []; marked = false } ∷ record { cells = 98 ∷ []; marked = true } ∷ []
unfolding cook interrupt erase drop_line end_file end_line add_byte retune put
eof_behind_a_line = refl

-- KILL after a control byte
kill_control : (type_in (fresh cooked) (1 ∷ 21 ∷ [])).output ≡ 94 ∷ 65 ∷ 94 ∷ 85 ∷ 13 ∷ 10 ∷ []
unfolding cook interrupt erase drop_line end_file end_line add_byte retune put
kill_control = refl

-- and without echoctl
kill_control_no_echoctl : (type_in (fresh (with cooked Echoctl false)) (1 ∷ 21 ∷ [])).output ≡ 1 ∷ 21 ∷ 13 ∷ 10 ∷ []
unfolding cook interrupt erase drop_line end_file end_line add_byte retune put
kill_control_no_echoctl = refl

-- KILL after a byte over 127
kill_high : (type_in (fresh cooked) (225 ∷ 21 ∷ [])).output ≡ 225 ∷ 94 ∷ 85 ∷ 13 ∷ 10 ∷ []
unfolding cook interrupt erase drop_line end_file end_line add_byte retune put
kill_high = refl

-- without echoe KILL is the same
kill_no_echoe : (type_in (fresh (with cooked Echoe false)) (97 ∷ 21 ∷ [])).output ≡ 97 ∷ 94 ∷ 85 ∷ 13 ∷ 10 ∷ []
unfolding cook interrupt erase drop_line end_file end_line add_byte retune put
kill_no_echoe = refl

-- with echonl too
kill_echonl : (type_in (fresh (with cooked Echonl true)) (97 ∷ 21 ∷ [])).output ≡ 97 ∷ 94 ∷ 85 ∷ 13 ∷ 10 ∷ []
unfolding cook interrupt erase drop_line end_file end_line add_byte retune put
kill_echonl = refl

-- without echo echonl echoes no KILL
kill_echonl_no_echo : (type_in (fresh (with (with cooked Echo false) Echonl true)) (97 ∷ 21 ∷ [])).output ≡ []
unfolding cook interrupt erase drop_line end_file end_line add_byte retune put
kill_echonl_no_echo = refl

-- without echok ERASE is the same
erase_no_echok : (type_in (fresh (with cooked Echok false)) (97 ∷ 127 ∷ [])).output ≡ 97 ∷ 8 ∷ 32 ∷ 8 ∷ []
unfolding cook interrupt erase drop_line end_file end_line add_byte retune put
erase_no_echok = refl

-- with echonl too
erase_echonl : (type_in (fresh (with cooked Echonl true)) (97 ∷ 127 ∷ [])).output ≡ 97 ∷ 8 ∷ 32 ∷ 8 ∷ []
unfolding cook interrupt erase drop_line end_file end_line add_byte retune put
erase_echonl = refl

-- without echo echonl echoes no ERASE
erase_echonl_no_echo : (type_in (fresh (with (with cooked Echo false) Echonl true)) (97 ∷ 127 ∷ [])).output ≡ []
unfolding cook interrupt erase drop_line end_file end_line add_byte retune put
erase_echonl_no_echo = refl

-- EOF on an empty line, after a control byte and after a byte over 127 is not echoed
eof_empty : (type_in (fresh cooked) (4 ∷ [])).output ≡ []
unfolding cook interrupt erase drop_line end_file end_line add_byte retune put
eof_empty = refl

eof_control : (type_in (fresh cooked) (1 ∷ 4 ∷ [])).output ≡ 94 ∷ 65 ∷ []
unfolding cook interrupt erase drop_line end_file end_line add_byte retune put
eof_control = refl

eof_high : (type_in (fresh cooked) (225 ∷ 4 ∷ [])).output ≡ 225 ∷ []
unfolding cook interrupt erase drop_line end_file end_line add_byte retune put
eof_high = refl

-- without echoctl it is not either
eof_no_echoctl : (type_in (fresh (with cooked Echoctl false)) (97 ∷ 4 ∷ [])).output ≡ 97 ∷ []
unfolding cook interrupt erase drop_line end_file end_line add_byte retune put
eof_no_echoctl = refl

-- with echo echonl adds nothing to a newline
echonl_with_echo : (type_in (fresh (with cooked Echonl true)) (10 ∷ [])).output ≡ 13 ∷ 10 ∷ []
unfolding cook interrupt erase drop_line end_file end_line add_byte retune put
echonl_with_echo = refl

-- a newline of echonl goes through the output rule
echonl_no_onlcr : (type_in (fresh (with (with (with cooked Echo false) Echonl true) Onlcr false)) (10 ∷ [])).output ≡ 10 ∷ []
unfolding cook interrupt erase drop_line end_file end_line add_byte retune put
echonl_no_onlcr = refl

-- which bytes are drawn with two columns: all below 32 but tab and newline, and delete
draw_0 : draw cooked 0 ≡ 94 ∷ 64 ∷ []
unfolding cook interrupt erase drop_line end_file end_line add_byte retune put
draw_0 = refl

draw_8 : draw cooked 8 ≡ 94 ∷ 72 ∷ []
unfolding cook interrupt erase drop_line end_file end_line add_byte retune put
draw_8 = refl

draw_9 : draw cooked 9 ≡ 9 ∷ []
unfolding cook interrupt erase drop_line end_file end_line add_byte retune put
draw_9 = refl

draw_10 : draw cooked 10 ≡ 10 ∷ []
unfolding cook interrupt erase drop_line end_file end_line add_byte retune put
draw_10 = refl

draw_11 : draw cooked 11 ≡ 94 ∷ 75 ∷ []
unfolding cook interrupt erase drop_line end_file end_line add_byte retune put
draw_11 = refl

draw_31 : draw cooked 31 ≡ 94 ∷ 95 ∷ []
unfolding cook interrupt erase drop_line end_file end_line add_byte retune put
draw_31 = refl

draw_32 : draw cooked 32 ≡ 32 ∷ []
unfolding cook interrupt erase drop_line end_file end_line add_byte retune put
draw_32 = refl

draw_126 : draw cooked 126 ≡ 126 ∷ []
unfolding cook interrupt erase drop_line end_file end_line add_byte retune put
draw_126 = refl

draw_127 : draw cooked 127 ≡ 94 ∷ 63 ∷ []
unfolding cook interrupt erase drop_line end_file end_line add_byte retune put
draw_127 = refl

draw_128 : draw cooked 128 ≡ 128 ∷ []
unfolding cook interrupt erase drop_line end_file end_line add_byte retune put
draw_128 = refl

-- how many columns bytes take
columns_9 : columns cooked 9 ≡ 1
unfolding cook interrupt erase drop_line end_file end_line add_byte retune put
columns_9 = refl

columns_10 : columns cooked 10 ≡ 0
unfolding cook interrupt erase drop_line end_file end_line add_byte retune put
columns_10 = refl

columns_31 : columns cooked 31 ≡ 2
unfolding cook interrupt erase drop_line end_file end_line add_byte retune put
columns_31 = refl

columns_32 : columns cooked 32 ≡ 1
unfolding cook interrupt erase drop_line end_file end_line add_byte retune put
columns_32 = refl

columns_255 : columns cooked 255 ≡ 1
unfolding cook interrupt erase drop_line end_file end_line add_byte retune put
columns_255 = refl

-- and without echoctl
columns_9_plain : columns (with cooked Echoctl false) 9 ≡ 1
unfolding cook interrupt erase drop_line end_file end_line add_byte retune put
columns_9_plain = refl

columns_10_plain : columns (with cooked Echoctl false) 10 ≡ 0
unfolding cook interrupt erase drop_line end_file end_line add_byte retune put
columns_10_plain = refl

columns_31_plain : columns (with cooked Echoctl false) 31 ≡ 0
unfolding cook interrupt erase drop_line end_file end_line add_byte retune put
columns_31_plain = refl

columns_127_plain : columns (with cooked Echoctl false) 127 ≡ 0
unfolding cook interrupt erase drop_line end_file end_line add_byte retune put
columns_127_plain = refl

-- a carriage return goes out as it is without ocrnl
no_ocrnl : shown cooked (13 ∷ []) ≡ 13 ∷ []
unfolding cook interrupt erase drop_line end_file end_line add_byte retune put
no_ocrnl = refl

-- and a newline with ocrnl as onlcr says
ocrnl_newline : shown (with cooked Ocrnl true) (13 ∷ 10 ∷ 97 ∷ []) ≡ 10 ∷ 13 ∷ 10 ∷ 97 ∷ []
unfolding cook interrupt erase drop_line end_file end_line add_byte retune put
ocrnl_newline = refl

-- without icanon 1,024 bytes come in
raw_last_place : length (type_in raw_1023 (98 ∷ [])).input.current ≡ 1024
unfolding cook interrupt erase drop_line end_file end_line add_byte retune put
raw_last_place = refl

-- and no more
raw_no_place : length (type_in raw_1023 (98 ∷ 99 ∷ [])).input.current ≡ 1024
unfolding cook interrupt erase drop_line end_file end_line add_byte retune put
raw_no_place = refl

-- what is dropped is not echoed
raw_no_place_echo : (type_in raw_1023 (98 ∷ 99 ∷ [])).output ≡ 98 ∷ []
unfolding cook interrupt erase drop_line end_file end_line add_byte retune put
raw_no_place_echo = refl

-- ready lines, an end of file and the current line share the places: the last is free
shared_places : places mixed_1023.input ≡ 1023
unfolding cook interrupt erase drop_line end_file end_line add_byte retune put
shared_places = refl

-- and an end of file takes it
shared_places_eof : places (type_in mixed_1023 (4 ∷ 97 ∷ [])).input ≡ 1024
unfolding cook interrupt erase drop_line end_file end_line add_byte retune put
shared_places_eof = refl

-- where all places are taken KILL still takes the current line
no_place_kill : (type_in mixed_1023 (97 ∷ 21 ∷ [])).input.current ≡ []
unfolding cook interrupt erase drop_line end_file end_line add_byte retune put
no_place_kill = refl

-- and STOP still stops
no_place_stop : (type_in mixed_1023 (97 ∷ 19 ∷ [])).stopped ≡ true
unfolding cook interrupt erase drop_line end_file end_line add_byte retune put
no_place_stop = refl

-- a line of 254 bytes takes one more
long_line_254 : length (type_in (record (fresh cooked) { input = record { ready = []; current = replicate 254 97 } }) (98 ∷ [])).input.current ≡ 255
unfolding cook interrupt erase drop_line end_file end_line add_byte retune put
long_line_254 = refl

-- a line of 255 bytes that EOF ends
long_line_eof : (type_in line_of_255 (98 ∷ 4 ∷ [])).input.ready ≡ record { cells = replicate 255 97; marked = true } ∷ []
unfolding cook interrupt erase drop_line end_file end_line add_byte retune put
long_line_eof = refl

-- a line that ends with newline takes a place for each byte alone
places_of_line : places (type_in (fresh cooked) (97 ∷ 10 ∷ 98 ∷ [])).input ≡ 3
unfolding cook interrupt erase drop_line end_file end_line add_byte retune put
places_of_line = refl

-- and one that EOF ended one more
places_of_mark : places (type_in (fresh cooked) (97 ∷ 98 ∷ 4 ∷ [])).input ≡ 3
unfolding cook interrupt erase drop_line end_file end_line add_byte retune put
places_of_mark = refl

-- 4,094 bytes and a newline are 4,096
output_full : length (put bytes (record (fresh cooked) { output = replicate 4094 97 }) (10 ∷ 98 ∷ [])).output ≡ 4096
unfolding cook interrupt erase drop_line end_file end_line add_byte retune put
output_full = refl

-- what does not fit is not put
output_newline : length (put bytes (record (fresh cooked) { output = replicate 4095 97 }) (10 ∷ 98 ∷ [])).output ≡ 4095
unfolding cook interrupt erase drop_line end_file end_line add_byte retune put
output_newline = refl

-- and a byte that fits is
output_last : put_count {C = ℕ} (record (fresh cooked) { output = replicate 4095 97 }) (98 ∷ []) ≡ 1
unfolding cook interrupt erase drop_line end_file end_line add_byte retune put
output_last = refl

-- into a full output none
output_none : put_count {C = ℕ} (record (fresh cooked) { output = replicate 4096 97 }) (98 ∷ []) ≡ 0
unfolding cook interrupt erase drop_line end_file end_line add_byte retune put
output_none = refl

-- an echo of two bytes fits where two are free
echo_of_two : length (type_in (record (fresh cooked) { output = replicate 4094 97 }) (1 ∷ [])).output ≡ 4096
unfolding cook interrupt erase drop_line end_file end_line add_byte retune put
echo_of_two = refl

-- the echo of KILL is put whole or not at all
kill_echo_whole : length (type_in (record (fresh cooked) { output = replicate 4093 97 }) (21 ∷ [])).output ≡ 4093
unfolding cook interrupt erase drop_line end_file end_line add_byte retune put
kill_echo_whole = refl

-- and that of an ERASE of two columns
erase_echo_whole : length (type_in (record (fresh cooked) { input = record { ready = []; current = 1 ∷ [] }; output = replicate 4091 97 }) (127 ∷ [])).output
    ≡ 4091
unfolding cook interrupt erase drop_line end_file end_line add_byte retune put
erase_echo_whole = refl

-- a write is put though output is stopped
stopped_put : (put bytes (type_in (fresh cooked) (19 ∷ [])) (97 ∷ [])).output ≡ 97 ∷ []
unfolding cook interrupt erase drop_line end_file end_line add_byte retune put
stopped_put = refl

-- nothing is to be taken where there is no output
nothing_takeable : is_takeable {C = ℕ} (fresh cooked) ≡ false
unfolding cook interrupt erase drop_line end_file end_line add_byte retune put
nothing_takeable = refl

-- what is taken is at most what is asked
take_two : output_front (type_in (fresh cooked) (97 ∷ 98 ∷ 99 ∷ [])) 2 ≡ 97 ∷ 98 ∷ []
unfolding cook interrupt erase drop_line end_file end_line add_byte retune put
take_two = refl

-- stopped output is not drained
stopped_not_drained : is_drained (type_in (fresh cooked) (97 ∷ 19 ∷ [])) ≡ false
unfolding cook interrupt erase drop_line end_file end_line add_byte retune put
stopped_not_drained = refl

-- without icanon a read of fewer than MIN waits for no more
raw_waits_max : waits (type_in (fresh (record raw { min = 3 })) (97 ∷ [])) 1 ≡ false
unfolding cook interrupt erase drop_line end_file end_line add_byte retune put
raw_waits_max = refl

-- and with none it waits
raw_waits_none : waits {C = ℕ} (fresh raw) 9 ≡ true
unfolding cook interrupt erase drop_line end_file end_line add_byte retune put
raw_waits_none = refl

-- a read of a ready line does not wait for MIN
cooked_no_min : waits (type_in (fresh (record cooked { min = 9 })) (97 ∷ 10 ∷ [])) 100 ≡ false
unfolding cook interrupt erase drop_line end_file end_line add_byte retune put
cooked_no_min = refl

-- a read without icanon leaves what was not asked for
raw_rest : (after_read (type_in (fresh raw) (97 ∷ 98 ∷ 99 ∷ [])) 2).input ≡ record { ready = []; current = 99 ∷ [] }
unfolding cook interrupt erase drop_line end_file end_line add_byte retune put
raw_rest = refl

-- a read that waits leaves all
raw_wait_leaves : (after_read (type_in (fresh (record raw { min = 3 })) (97 ∷ [])) 9).input.current ≡ 97 ∷ []
unfolding cook interrupt erase drop_line end_file end_line add_byte retune put
raw_wait_leaves = refl

-- the settings are the new ones
retune_settings : (retune {C = ℕ} (fresh cooked) raw).termios ≡ raw
unfolding cook interrupt erase drop_line end_file end_line add_byte retune put
retune_settings = refl

-- ready lines stay where icanon stays on
retune_keeps_lines : (retune (type_in (fresh cooked) (97 ∷ 10 ∷ 98 ∷ 4 ∷ 99 ∷ [])) (with cooked Echo false)).input
    ≡ record { ready = record { cells = 97 ∷ 10 ∷ []; marked = false } ∷ record { cells = 98 ∷ []; marked = true } ∷ []; current = 99 ∷ [] }
unfolding cook interrupt erase drop_line end_file end_line add_byte retune put
retune_keeps_lines = refl

-- and bytes where it stays off
retune_keeps_bytes : (retune (type_in (fresh raw) (97 ∷ 98 ∷ [])) (record raw { min = 5 })).input ≡ record { ready = []; current = 97 ∷ 98 ∷ [] }
unfolding cook interrupt erase drop_line end_file end_line add_byte retune put
retune_keeps_bytes = refl

-- an end of file alone is nothing where icanon goes off
retune_off_mark : (retune (type_in (fresh cooked) (4 ∷ [])) raw).input ≡ record { ready = []; current = [] }
unfolding cook interrupt erase drop_line end_file end_line add_byte retune put
retune_off_mark = refl

-- off and on again is one ready line without an end of file
retune_twice : (retune (retune (type_in (fresh cooked) (97 ∷ 10 ∷ 98 ∷ 4 ∷ 99 ∷ [])) raw) cooked).input.ready
    ≡ record { cells = 97 ∷ 10 ∷ 98 ∷ 99 ∷ []; marked = false } ∷ []
unfolding cook interrupt erase drop_line end_file end_line add_byte retune put
retune_twice = refl

-- which is read in one
retune_twice_read : read (retune (retune (type_in (fresh cooked) (97 ∷ 10 ∷ 98 ∷ 4 ∷ 99 ∷ [])) raw) cooked) 9 ≡ Some (97 ∷ 10 ∷ 98 ∷ 99 ∷ [])
unfolding cook interrupt erase drop_line end_file end_line add_byte retune put
retune_twice_read = refl

-- bytes that came as one line may still be joined by none: the current line is empty
retune_on_current : (retune (type_in (fresh raw) (97 ∷ 98 ∷ [])) cooked).input.current ≡ []
unfolding cook interrupt erase drop_line end_file end_line add_byte retune put
retune_on_current = refl

-- both queues are emptied
flush_both : flush (type_in (fresh cooked) (97 ∷ 10 ∷ 98 ∷ [])) true true ≡ fresh cooked
unfolding cook interrupt erase drop_line end_file end_line add_byte retune put
flush_both = refl

-- and neither where neither is named
flush_none : (flush (type_in (fresh cooked) (97 ∷ 98 ∷ [])) false false).input.current ≡ 97 ∷ 98 ∷ []
unfolding cook interrupt erase drop_line end_file end_line add_byte retune put
flush_none = refl

flush_none_output : (flush (type_in (fresh cooked) (97 ∷ 98 ∷ [])) false false).output ≡ 97 ∷ 98 ∷ []
unfolding cook interrupt erase drop_line end_file end_line add_byte retune put
flush_none_output = refl

-- all cells are those of ready lines and then of the current one
all_in_order : all_cells (type_in (fresh cooked) (97 ∷ 10 ∷ 98 ∷ 4 ∷ 99 ∷ [])).input ≡ 97 ∷ 10 ∷ 98 ∷ 99 ∷ []
unfolding cook interrupt erase drop_line end_file end_line add_byte retune put
all_in_order = refl
