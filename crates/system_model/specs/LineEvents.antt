-- The rows of what happens at a line: a byte, the carrier, a taking of output, the end of the other side (termios(4), tty(4)).
use Rattle.std.specs.Prelude.{ℕ, Bool, false, List, [], ◌∷◌, ◌++◌, Option, Some, None, if◌then◌else◌}
use Rattle.std.specs.List.{list_all}
use Rattle.sys_types.specs.declared.sig.Sig.{Sig}
use Rattle.sys_types.specs.declared.sig.Sig.TheVariants as sig
use Rattle.call_words.specs.declared.signal.To.TheVariants.{Pid, Group}
use Rattle.line_disc.specs.Discipline.{bytes as byte_cells}
use Rattle.line_disc.specs.Device.{Device}
use Rattle.line_disc.specs.Device as device
use Rattle.system_model.specs.State.{View}
use Rattle.line_disc.specs.Lines.{change_line}
use Rattle.system_model.specs.LineEffects.{receive_byte, take_output, set_carrier, end_line}
use Rattle.system_model.specs.ProcessEffects.{post}
use Rattle.system_model.specs.Effects.{Effect, on_lines, on_processes, halt}
use Rattle.system_model.specs.Rows.{Row, answer_if, taken, noted}
use Rattle.system_model.specs.Looks.{line_of}

-- a signal goes to the foreground group of a line that has a session
abbrev pub signal_foreground : ℕ → Option Sig → Option ℕ → List Effect
signal_foreground group None session = []
signal_foreground group (Some signal) None = []
signal_foreground group (Some signal) (Some session) = on_processes (post signal (Group group)) ∷ []

-- the signal that a byte sends
abbrev pub signal_by : Device ℕ → ℕ → Option Sig
signal_by line b = (device.receive byte_cells line b).1

abbrev pub byte_row : View → ℕ → ℕ → Row
byte_row v n b = record {
  checks = [];
  effects = on_lines (receive_byte n b) ∷ signal_foreground (line_of v n).foreground (signal_by (line_of v n) b) (line_of v n).session;
  answer = noted;
}

abbrev pub hang_up_leader : Option ℕ → List Effect
hang_up_leader None = []
hang_up_leader (Some session) = on_processes (post sig.HUP (Pid session)) ∷ []

-- a loss of carrier that disconnects the line is told to its session's leader
abbrev pub hang_up : Device ℕ → Bool → List Effect
hang_up line up = if device.hangs_up line up then hang_up_leader line.session else []

abbrev pub carrier_row : View → ℕ → Bool → Row
carrier_row v n up = record {
  checks = [];
  effects = on_lines (set_carrier n up) ∷ hang_up (line_of v n) up;
  answer = noted;
}

abbrev pub take_row : View → ℕ → ℕ → Row
take_row v n max = record {
  checks = [];
  effects = on_lines (take_output n max) ∷ [];
  answer = taken (device.output_of max (line_of v n).discipline);
}

abbrev pub is_ended : Device ℕ → Bool
is_ended line = line.ended

-- the end of the last line halts the system
abbrev pub halt_with_last : View → ℕ → List Effect
halt_with_last v n = if list_all is_ended (change_line device.end_for_good v.lines n) then halt ∷ [] else []

-- the end of a line is a loss of its carrier; a line ends once
abbrev pub end_row : View → ℕ → Row
end_row v n = record {
  checks = answer_if (line_of v n).ended noted ∷ [];
  effects = on_lines (end_line n) ∷ hang_up (line_of v n) false ++ halt_with_last v n;
  answer = noted;
}
