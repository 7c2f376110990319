-- Reads and writes from the background of a terminal (termios(4), "Terminal Access Control"). The terminal is given by the session whose controlling
-- terminal it is, if it is one, and by its foreground group.
use Rattle.std.specs.Prelude.{ℕ, Bool, true, false, ◌==◌, ◌&&◌, ◌||◌, not, Option}
use Rattle.sys_types.specs.declared.sig.Sig.TheVariants as sig
use Rattle.call_words.specs.declared.signal.Action.{Action}
use Rattle.call_words.specs.declared.signal.Action.TheVariants as action
use Rattle.proc_table.specs.declared.proc.TheConstants.{INIT}
use Rattle.proc_table.specs.Processes.{Process, Processes, action_of, is_orphaned}
use Rattle.proc_table.specs.Groups.{is_number}

-- the terminal is that of the process's session, and another group is in its foreground
abbrev pub is_background : {D : Type 0} → Option ℕ → ℕ → Process D → Bool
is_background session foreground who = is_number who.session session && not (foreground == who.group)

abbrev pub is_ignore : Action → Bool
is_ignore action.Normal = false
is_ignore action.Ignore = true
is_ignore action.Catch = false

-- TTIN would not stop the process: it is ignored, the group is orphaned, or the process is pid 1
abbrev pub may_not_stop : {D : Type 0} → Processes D → Process D → Bool
may_not_stop t who = is_ignore (action_of who.actions sig.TTIN) || is_orphaned t who.group || (who.pid == INIT)

-- what writes or changes a terminal from the background is allowed where TTOU is ignored, and to pid 1
abbrev pub is_stopped_by_write : {D : Type 0} → Option ℕ → ℕ → Process D → Bool
is_stopped_by_write session foreground who = is_background session foreground who && not (is_ignore (action_of who.actions sig.TTOU)) && not (who.pid == INIT)
