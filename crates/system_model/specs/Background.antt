-- Reads and writes from the background of a terminal (termios(4), "Terminal Access Control").
use Rattle.std.specs.Prelude.{ℕ, Bool, ◌&&◌, List, [], ◌∷◌, Option, if◌then◌else◌}
use Rattle.sys_types.specs.declared.sig.Sig.{Sig}
use Rattle.sys_types.specs.declared.sig.Sig.TheVariants as sig
use Rattle.sys_types.specs.declared.rules.Rule.TheVariants.{Signal, Background}
use Rattle.call_words.specs.declared.event.Reason.TheVariants as reason
use Rattle.call_words.specs.declared.signal.To.TheVariants.{Group}
use Rattle.proc_table.specs.Processes.{Process, action_of, is_orphaned}
use Rattle.proc_table.specs.Posts.{is_catch}
use Rattle.proc_table.specs.Background as process
use Rattle.system_model.specs.Parts.{Path}
use Rattle.system_model.specs.State.{View}
use Rattle.system_model.specs.ProcessEffects.{post}
use Rattle.system_model.specs.Effects.{Effect, on_processes}
use Rattle.system_model.specs.Rows.{Outcome, Check, refused, asleep, check, deny}
use Rattle.system_model.specs.Looks.{line_of}

-- the line is that of the process's session, and another group is in its foreground
abbrev pub is_background : View → ℕ → Process Path → Bool
is_background v n who = process.is_background (line_of v n).session (line_of v n).foreground who

-- a signal to the group of the process, which then stops in this call, or is interrupted where it catches the signal
abbrev pub stop_by : Sig → Process Path → Outcome
stop_by signal who = if is_catch (action_of who.actions signal) then refused Signal else asleep reason.Stop

abbrev pub post_to_group : Sig → Process Path → List Effect
post_to_group signal who = on_processes (post signal (Group who.group)) ∷ []

-- a read is denied where TTIN would not stop the process
abbrev pub may_not_stop : View → Process Path → Bool
may_not_stop v who = process.may_not_stop v.processes who

abbrev pub background_read : View → ℕ → Process Path → List (Option Check)
background_read v n who =
    deny (is_background v n who && may_not_stop v who) Background
    ∷ check (is_background v n who) (stop_by sig.TTIN who) (post_to_group sig.TTIN who)
    ∷ []

-- what writes or changes a line from the background is stopped
abbrev pub is_stopped_by_write : View → ℕ → Process Path → Bool
is_stopped_by_write v n who = process.is_stopped_by_write (line_of v n).session (line_of v n).foreground who

abbrev pub background_write : View → ℕ → Process Path → List (Option Check)
background_write v n who =
    deny (is_stopped_by_write v n who && is_orphaned v.processes who.group) Background
    ∷ check (is_stopped_by_write v n who) (stop_by sig.TTOU who) (post_to_group sig.TTOU who)
    ∷ []
