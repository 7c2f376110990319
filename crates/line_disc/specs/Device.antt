-- A terminal line as a device: what open, last close, carrier, the end of the line, revoke(2) and each call at it make of it (tty(4)).
use Rattle.std.specs.Prelude.{ℕ, Bool, true, false, ◌&&◌, ◌||◌, not, List, [], Option, Some, None, option_map, option_and_then, unwrap_or, is_some}
use Rattle.std.specs.Prelude.{if◌then◌else◌}
use Rattle.sys_types.specs.declared.sig.Sig.{Sig}
use Rattle.termios_core.specs.declared.termios.Termios.{Termios}
use Rattle.line_disc.specs.Discipline.{Cells, Discipline, fresh, map_discipline}
use Rattle.line_disc.specs.Cook as cooking
use Rattle.line_disc.specs.Transfers as transfers

-- a line: its discipline, which it has while a file of it is live; its carrier; whether its carrier was lost since the first
-- open (a zombie); whether it has ended for good; and the session and foreground group that it has
pub record Device (C : Type 0) : Type 0 where
  pub discipline : Option (Discipline C)
  pub carrier : Bool
  pub zombie : Bool
  pub ended : Bool
  pub session : Option ℕ
  pub foreground : ℕ

-- a line before its first open
abbrev pub closed_device : {C : Type 0} → Device C
closed_device = record { discipline = None; carrier = false; zombie = false; ended = false; session = None; foreground = 0 }

-- a file is opened: the first one finds the settings of the boot, empty queues and output that is not stopped
abbrev pub open_discipline : {C : Type 0} → Termios → Option (Discipline C) → Discipline C
open_discipline boot None = fresh boot
open_discipline boot (Some d) = d

abbrev pub open_file : {C : Type 0} → Termios → Device C → Device C
open_file boot line = record line { discipline = Some (open_discipline boot line.discipline) }

-- the last live file is closed: both queues go and the zombie mark, and the session stays
abbrev pub close_last : {C : Type 0} → Device C → Device C
close_last line = record line { discipline = None; zombie = false }

-- whether the carrier of a line with these settings is not looked at (clocal)
abbrev pub is_local : {C : Type 0} → Discipline C → Bool
is_local d = d.termios.flags.clocal

-- whether a byte is dropped: the line is a zombie or has ended, or has no carrier, which is looked at
abbrev pub drops : {C : Type 0} → Device C → Discipline C → Bool
drops line d = line.zombie || line.ended || (not line.carrier && not (is_local d))

abbrev pub cook_at : {C : Type 0} → Cells C → Device C → ℕ → Option (Discipline C) → Device C × Option Sig
cook_at c line b None = (line, None)
cook_at c line b (Some d) = if drops line d then (line, None) else (record line { discipline = Some ((cooking.cook c d b).0) }, (cooking.cook c d b).1)

-- a byte comes in, which is dropped where no file is live
abbrev pub receive : {C : Type 0} → Cells C → Device C → ℕ → Device C × Option Sig
receive c line b = cook_at c line b line.discipline

-- output is taken for sending, none where no file is live
abbrev pub output_of : {C : Type 0} → ℕ → Option (Discipline C) → List C
output_of max None = []
output_of max (Some d) = transfers.output_front d max

abbrev pub take_output : {C : Type 0} → Device C → ℕ → Device C
take_output line max = record line { discipline = option_map (λ d. transfers.after_take d max) line.discipline }

-- whether a loss of carrier disconnects the line: a file is live and the carrier is looked at
abbrev pub is_connected : {C : Type 0} → Option (Discipline C) → Bool
is_connected None = false
is_connected (Some d) = not (is_local d)

-- a modem disconnect ("Modem Disconnect"): both queues are emptied and the line is a zombie
abbrev pub disconnect : {C : Type 0} → Device C → Device C
disconnect line =
    if is_connected line.discipline then record line { discipline = option_map (λ d. cooking.flush d true true) line.discipline; zombie = true } else line

-- the carrier comes or goes, unless the line has ended
abbrev pub set_carrier : {C : Type 0} → Device C → Bool → Device C
set_carrier line up =
    if line.ended then line
    else (if up then record line { carrier = true } else disconnect (record line { carrier = false }))

-- whether this disconnects the line, of which its session's leader is told
abbrev pub hangs_up : {C : Type 0} → Device C → Bool → Bool
hangs_up line up = not line.ended && not up && is_connected line.discipline

-- the line ends for good: its carrier is lost
abbrev pub end_for_good : {C : Type 0} → Device C → Device C
end_for_good line = record (set_carrier line false) { ended = true }

-- the line is revoked (revoke(2)): no file of it is live, nothing is queued, and it has no session
abbrev pub revoke : {C : Type 0} → Device C → Device C
revoke line = record line { discipline = None; zombie = false; session = None; foreground = 0 }

-- whether a file of the line is live
abbrev pub is_live : {C : Type 0} → Device C → Bool
is_live line = is_some line.discipline

-- Calls on a line of which a file is live. Where none is, they change nothing, and there is nothing to tell.

-- its settings (tcgetattr(3))
abbrev pub settings : {C : Type 0} → Device C → Option Termios
settings line = option_map (λ d. d.termios) line.discipline

-- it gets other settings (tcsetattr(3))
abbrev pub retune : {C : Type 0} → Device C → Termios → Device C
retune line t = record line { discipline = option_map (λ d. transfers.retune d t) line.discipline }

-- its input, its output, or both are emptied (tcflush(3))
abbrev pub flush : {C : Type 0} → Device C → Bool → Bool → Device C
flush line input output = record line { discipline = option_map (λ d. cooking.flush d input output) line.discipline }

-- bytes are written (write(2)), and how many of them are put
abbrev pub put : {C : Type 0} → Cells C → Device C → List ℕ → Device C
put c line written = record line { discipline = option_map (λ d. transfers.put c d written) line.discipline }

abbrev pub put_count : {C : Type 0} → Device C → List ℕ → ℕ
put_count line written = unwrap_or (option_map (λ d. transfers.put_count d written) line.discipline) 0

-- whether a read of so many bytes waits (read(2)), what it gives, none where it waits, and the line after it
abbrev pub waits : {C : Type 0} → Device C → ℕ → Bool
waits line max = unwrap_or (option_map (λ d. transfers.waits d max) line.discipline) false

abbrev pub read : {C : Type 0} → Device C → ℕ → Option (List C)
read line max = option_and_then (λ d. transfers.read d max) line.discipline

abbrev pub after_read : {C : Type 0} → Device C → ℕ → Device C
after_read line max = record line { discipline = option_map (λ d. transfers.after_read d max) line.discipline }

-- whether a taking would give a byte
abbrev pub is_takeable : {C : Type 0} → Device C → Bool
is_takeable line = unwrap_or (option_map (λ d. transfers.is_takeable d) line.discipline) false

-- whether all output has been taken (tcdrain(3))
abbrev pub is_drained : {C : Type 0} → Device C → Bool
is_drained line = unwrap_or (option_map (λ d. transfers.is_drained d) line.discipline) true

-- the line becomes the controlling terminal of a session (tcsetsid(3)), with a group in the foreground
abbrev pub set_session : {C : Type 0} → Device C → ℕ → ℕ → Device C
set_session line session foreground = record line { session = Some session; foreground = foreground }

-- another group of its session comes to the foreground (tcsetpgrp(3))
abbrev pub set_foreground : {C : Type 0} → Device C → ℕ → Device C
set_foreground line foreground = record line { foreground = foreground }

-- the same line, with something else for each cell
abbrev pub map_device : {B C : Type 0} → (B → C) → Device B → Device C
map_device f line = record {
  discipline = option_map (map_discipline f) line.discipline;
  carrier = line.carrier;
  zombie = line.zombie;
  ended = line.ended;
  session = line.session;
  foreground = line.foreground;
}
