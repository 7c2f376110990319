-- What events change of terminal lines (termios(4), tty(4), revoke(2)).
use Rattle.std.specs.Prelude.{ℕ, Bool, List, ◌∷◌}
use Rattle.termios_core.specs.declared.termios.Termios.{Termios}
use Rattle.line_disc.specs.Device as device
use Rattle.system_model.specs.Parts.{Parts}
use Rattle.system_model.specs.State.{Revokes}
use Rattle.system_model.specs.Keeping.{Keeping}
use Rattle.line_disc.specs.Lines.{change_line}

pub data LineEffect : Type 0 where
  -- a file of the line is opened; its first one finds these settings
  open_line : ℕ → Termios → LineEffect
  -- a byte comes in
  receive_byte : ℕ → ℕ → LineEffect
  -- at most so many bytes are read
  read_line : ℕ → ℕ → LineEffect
  -- as many of these bytes as fit are put out
  write_line : ℕ → List ℕ → LineEffect
  -- at most so many bytes of the output are taken for sending
  take_output : ℕ → ℕ → LineEffect
  -- the carrier comes, or is lost
  set_carrier : ℕ → Bool → LineEffect
  -- the other side is gone for good
  end_line : ℕ → LineEffect
  -- every open file of the line is dead from now on
  revoke_line : ℕ → LineEffect
  -- the input is emptied, the output, or both
  flush_line : ℕ → Bool → Bool → LineEffect
  -- the line has these settings
  retune_line : ℕ → Termios → LineEffect
  -- the line is the controlling terminal of a session, with this foreground group
  set_session : ℕ → ℕ → ℕ → LineEffect
  -- the line has this foreground group
  set_foreground : ℕ → ℕ → LineEffect

unfoldable pub change_lines : {F C : Type 0} → Keeping F C → Parts F C → LineEffect → Parts F C
change_lines keeping m (open_line n termios) = record m { lines = change_line (device.open_file termios) m.lines n }
change_lines keeping m (receive_byte n b) = record m { lines = change_line (λ line. (device.receive keeping.cells line b).0) m.lines n }
change_lines keeping m (read_line n max) = record m { lines = change_line (λ line. device.after_read line max) m.lines n }
change_lines keeping m (write_line n bytes) = record m { lines = change_line (λ line. device.put keeping.cells line bytes) m.lines n }
change_lines keeping m (take_output n max) = record m { lines = change_line (λ line. device.take_output line max) m.lines n }
change_lines keeping m (set_carrier n up) = record m { lines = change_line (λ line. device.set_carrier line up) m.lines n }
change_lines keeping m (end_line n) = record m { lines = change_line device.end_for_good m.lines n }
change_lines keeping m (revoke_line n) =
    record m { lines = change_line device.revoke m.lines n; descriptors = keeping.revoke n m.descriptors }
change_lines keeping m (flush_line n input output) = record m { lines = change_line (λ line. device.flush line input output) m.lines n }
change_lines keeping m (retune_line n termios) = record m { lines = change_line (λ line. device.retune line termios) m.lines n }
change_lines keeping m (set_session n session group) = record m { lines = change_line (λ line. device.set_session line session group) m.lines n }
change_lines keeping m (set_foreground n group) = record m { lines = change_line (λ line. device.set_foreground line group) m.lines n }

-- the revokes after an effect of the event at position p
unfoldable pub revokes_after : Revokes → ℕ → LineEffect → Revokes
revokes_after revokes p (revoke_line n) = (n, p) ∷ revokes
revokes_after revokes p (open_line n termios) = revokes
revokes_after revokes p (receive_byte n b) = revokes
revokes_after revokes p (read_line n max) = revokes
revokes_after revokes p (write_line n bytes) = revokes
revokes_after revokes p (take_output n max) = revokes
revokes_after revokes p (set_carrier n up) = revokes
revokes_after revokes p (end_line n) = revokes
revokes_after revokes p (flush_line n input output) = revokes
revokes_after revokes p (retune_line n termios) = revokes
revokes_after revokes p (set_session n session group) = revokes
revokes_after revokes p (set_foreground n group) = revokes
