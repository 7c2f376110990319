-- The rows of the calls on terminal lines: tcsetsid(3), tcgetattr(3), tcsetattr(3), tcflush(3), tcdrain(3), tcsetpgrp(3), tcgetpgrp(3),
-- fdevname(3), revoke(2).
use Rattle.std.specs.Prelude.{ℕ, Bool, true, false, not, ◌==◌, List, [], ◌∷◌, ◌++◌, Option, Some, None, is_none, is_some, option_and_then}
use Rattle.std.specs.Prelude.{if◌then◌else◌, codes}
use Rattle.sys_types.specs.declared.sig.Sig.TheVariants as sig
use Rattle.sys_types.specs.declared.node.Kind.{Kind}
use Rattle.sys_types.specs.declared.node.Kind.TheVariants as kind
use Rattle.sys_types.specs.declared.rules.Rule.TheVariants as rule
use Rattle.call_words.specs.declared.event.Reason.TheVariants as reason
use Rattle.call_words.specs.declared.signal.To.TheVariants.{Pid}
use Rattle.call_words.specs.declared.tty.When.{When}
use Rattle.call_words.specs.declared.tty.When.TheVariants as when
use Rattle.call_words.specs.declared.tty.WhichQueue.{WhichQueue}
use Rattle.call_words.specs.declared.tty.WhichQueue.TheVariants as queue
use Rattle.termios_core.specs.declared.termios.Termios.{Termios}
use Rattle.termios_core.specs.Text.{termios_text}
use Rattle.line_disc.specs.Device as device
use Rattle.tree_model.specs.Tree.{NodeRecord}
use Rattle.tree_model.specs.Standard.{line_name}
use Rattle.proc_table.specs.Processes.{Process, has_member_in}
use Rattle.system_model.specs.Parts.{Path, Target, node, read_end, write_end, tty}
use Rattle.system_model.specs.State.{OpenFile, View}
use Rattle.system_model.specs.LineEffects.{revoke_line, flush_line, retune_line, set_session, set_foreground}
use Rattle.system_model.specs.ProcessEffects.{post}
use Rattle.system_model.specs.Effects.{Effect, on_lines, on_processes}
use Rattle.system_model.specs.Rows.{Check, Row, deny, sleep_if, number, text, behind, no_row, only}
use Rattle.system_model.specs.Looks.{caller_of, file_at, holds_of, on_node, node_at, node_dominates, is_not_owner, line_of, termios_of, has_session}
use Rattle.system_model.specs.Looks.{line_of_session}
use Rattle.system_model.specs.Background.{background_write}

-- the line that an open file is of
abbrev pub tty_of : Target → Option ℕ
tty_of (node path) = None
tty_of (read_end k) = None
tty_of (write_end k) = None
tty_of (tty n) = Some n

abbrev pub tty_at : View → ℕ → ℕ → Option ℕ
tty_at v slot fd = option_and_then (λ f. tty_of f.file.target) (file_at v slot fd)

-- the rules of a call on the line of a number
abbrev pub tty_checks : View → ℕ → ℕ → List (Option Check)
tty_checks v slot fd =
    deny (is_none (file_at v slot fd)) rule.BadFd
    ∷ deny (holds_of (λ f. f.dead) (file_at v slot fd)) rule.Dead
    ∷ deny (is_none (tty_at v slot fd)) rule.NotLine
    ∷ []

abbrev pub on_line_row : (ℕ → Row) → Option ℕ → Row
on_line_row row None = no_row
on_line_row row (Some n) = row n

-- the row of a call on the line of a number
abbrev pub on_tty : View → ℕ → ℕ → (ℕ → Row) → Row
on_tty v slot fd row = behind (tty_checks v slot fd) (on_line_row row (tty_at v slot fd))

-- a session leader takes a line that no session has as its controlling terminal
abbrev pub setctty_on : View → ℕ → ℕ → Row
setctty_on v slot n = record {
  checks = deny (not ((caller_of v slot).pid == (caller_of v slot).session)) rule.NotLeader
      ∷ deny (is_some (line_of_session v (caller_of v slot).session)) rule.HasTty
      ∷ deny (is_some (line_of v n).session) rule.LineTaken
      ∷ [];
  effects = on_lines (set_session n (caller_of v slot).session (caller_of v slot).group) ∷ [];
  answer = number 0;
}

abbrev pub setctty_row : View → ℕ → ℕ → Row
setctty_row v slot fd = on_tty v slot fd (setctty_on v slot)

abbrev pub tcgetattr_row : View → ℕ → ℕ → Row
tcgetattr_row v slot fd = on_tty v slot fd (λ n. only (text (termios_text (termios_of v n))))

-- a change of a line is denied to a zombie, and stops a process in the background
abbrev pub change_checks : View → ℕ → ℕ → List (Option Check)
change_checks v slot n = deny (line_of v n).zombie rule.Zombie ∷ background_write v n (caller_of v slot)

-- with `flush` the input is emptied first
abbrev pub flush_first : When → ℕ → List Effect
flush_first when.Now n = []
flush_first when.Flush n = on_lines (flush_line n true false) ∷ []

-- timed reads are not there yet
abbrev pub tcsetattr_on : View → ℕ → When → Termios → ℕ → Row
tcsetattr_on v slot at termios n = record {
  checks = change_checks v slot n ++ deny (not (termios.time == 0)) rule.Time ∷ [];
  effects = flush_first at n ++ on_lines (retune_line n termios) ∷ [];
  answer = number 0;
}

abbrev pub tcsetattr_row : View → ℕ → ℕ → When → Termios → Row
tcsetattr_row v slot fd at termios = on_tty v slot fd (tcsetattr_on v slot at termios)

abbrev pub is_input : WhichQueue → Bool
is_input queue.In = true
is_input queue.Out = false
is_input queue.Both = true

abbrev pub is_output : WhichQueue → Bool
is_output queue.In = false
is_output queue.Out = true
is_output queue.Both = true

abbrev pub tcflush_on : View → ℕ → WhichQueue → ℕ → Row
tcflush_on v slot which n = record {
  checks = change_checks v slot n;
  effects = on_lines (flush_line n (is_input which) (is_output which)) ∷ [];
  answer = number 0;
}

abbrev pub tcflush_row : View → ℕ → ℕ → WhichQueue → Row
tcflush_row v slot fd which = on_tty v slot fd (tcflush_on v slot which)

abbrev pub tcdrain_on : View → ℕ → ℕ → Row
tcdrain_on v slot n = record {
  checks = change_checks v slot n ++ sleep_if (not (device.is_drained (line_of v n))) (caller_of v slot) reason.Drain ∷ [];
  effects = [];
  answer = number 0;
}

abbrev pub tcdrain_row : View → ℕ → ℕ → Row
tcdrain_row v slot fd = on_tty v slot fd (tcdrain_on v slot)

-- the line is not the controlling terminal of the caller
abbrev pub is_not_own : View → ℕ → ℕ → Bool
is_not_own v slot n = not (has_session (caller_of v slot).session (line_of v n))

abbrev pub tcsetpgrp_on : View → ℕ → ℕ → ℕ → Row
tcsetpgrp_on v slot group n = record {
  checks = deny (is_not_own v slot n) rule.NotCtty
      ∷ background_write v n (caller_of v slot)
      ++ deny (not (has_member_in v.processes group (caller_of v slot).session)) rule.Group
      ∷ [];
  effects = on_lines (set_foreground n group) ∷ [];
  answer = number 0;
}

abbrev pub tcsetpgrp_row : View → ℕ → ℕ → ℕ → Row
tcsetpgrp_row v slot fd group = on_tty v slot fd (tcsetpgrp_on v slot group)

abbrev pub tcgetpgrp_on : View → ℕ → ℕ → Row
tcgetpgrp_on v slot n = record {
  checks = deny (is_not_own v slot n) rule.NotCtty ∷ [];
  effects = [];
  answer = number (line_of v n).foreground;
}

abbrev pub tcgetpgrp_row : View → ℕ → ℕ → Row
tcgetpgrp_row v slot fd = on_tty v slot fd (tcgetpgrp_on v slot)

-- what an open file is of, in a word
abbrev pub target_name : Target → List ℕ
target_name (node path) = codes "file"
target_name (read_end k) = codes "pipe"
target_name (write_end k) = codes "pipe"
target_name (tty n) = line_name n

abbrev pub name_of : Option OpenFile → List ℕ
name_of None = []
name_of (Some f) = target_name f.file.target

abbrev pub fdname_row : View → ℕ → ℕ → Row
fdname_row v slot fd = record {
  checks = deny (is_none (file_at v slot fd)) rule.BadFd
      ∷ deny (holds_of (λ f. f.dead) (file_at v slot fd)) rule.Dead
      ∷ [];
  effects = [];
  answer = text (name_of (file_at v slot fd));
}

-- ---- revoke(2)

abbrev pub tty_of_kind : Kind → Option ℕ
tty_of_kind kind.File = None
tty_of_kind kind.Dir = None
tty_of_kind (kind.Line n) = Some n
tty_of_kind kind.Tty = None

abbrev pub tty_of_node : Option NodeRecord → Option ℕ
tty_of_node None = None
tty_of_node (Some what) = tty_of_kind what.kind

-- the former leader of the line's session learns of it, unless it is the caller
abbrev pub tell_leader : Process Path → Option ℕ → List Effect
tell_leader who None = []
tell_leader who (Some session) = if who.pid == session then [] else on_processes (post sig.HUP (Pid session)) ∷ []

-- every open file of the line is dead from now on
abbrev pub revoke_effects : View → Process Path → Option ℕ → List Effect
revoke_effects v who None = []
revoke_effects v who (Some n) = on_lines (revoke_line n) ∷ tell_leader who (line_of v n).session

abbrev pub revoke_at : View → ℕ → Path → Row
revoke_at v slot place = record {
  checks = deny (is_none (tty_of_node (node_at v place))) rule.NoRevoke
      ∷ deny (not (node_dominates (caller_of v slot) (node_at v place))) rule.LabelWrite
      ∷ deny (is_not_owner (caller_of v slot) (node_at v place)) rule.Owner
      ∷ [];
  effects = revoke_effects v (caller_of v slot) (tty_of_node (node_at v place));
  answer = number 0;
}

abbrev pub revoke_row : View → ℕ → List ℕ → Row
revoke_row v slot path = on_node v slot path (revoke_at v slot)
