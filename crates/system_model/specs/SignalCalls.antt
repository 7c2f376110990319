-- The rows of the calls on signals: kill(2), sigaction(2), sigwait(2), pause(3).
use Rattle.std.specs.Prelude.{ℕ, true, List, [], ◌∷◌, map, Option, Some, None}
use Rattle.sys_types.specs.declared.sig.Sig.{Sig}
use Rattle.sys_types.specs.Signals.{sig_number}
use Rattle.sys_types.specs.declared.rules.Rule.TheVariants.{SigFixed}
use Rattle.call_words.specs.declared.event.Reason.TheVariants as reason
use Rattle.call_words.specs.declared.signal.Action.{Action}
use Rattle.call_words.specs.declared.signal.To.{To}
use Rattle.call_words.specs.declared.signal.To.TheVariants.{Pid}
use Rattle.proc_table.specs.Processes.{Process, drop_caught, least_caught}
use Rattle.proc_table.specs.Changes.{act_on}
use Rattle.proc_table.specs.Posts.{is_fixed}
use Rattle.proc_table.specs.Kills.{targets, receivers, kill_refusal}
use Rattle.system_model.specs.Parts.{Path}
use Rattle.system_model.specs.State.{View}
use Rattle.system_model.specs.ProcessEffects.{set_process, post}
use Rattle.system_model.specs.Effects.{Effect, on_processes}
use Rattle.system_model.specs.Rows.{Row, deny, deny_by, sleep_if, number, only}
use Rattle.system_model.specs.Looks.{caller_of}

-- ---- kill(2): each process that the number or the group names is tried by the rules

abbrev pub post_each : Sig → List (Process Path) → List Effect
post_each signal whom = map (λ p. on_processes (post signal (Pid p.pid))) whom

abbrev pub kill_row : View → ℕ → To → Sig → Row
kill_row v slot to signal = record {
  checks = deny_by (kill_refusal (caller_of v slot) (targets v.processes (caller_of v slot) to)) ∷ [];
  effects = post_each signal (receivers (caller_of v slot) (targets v.processes (caller_of v slot) to));
  answer = number 0;
}

-- ---- sigaction(2), sigwait(2), pause(3)

abbrev pub sigset_row : View → ℕ → Sig → Action → Row
sigset_row v slot signal action = record {
  checks = deny (is_fixed signal) SigFixed ∷ [];
  effects = on_processes (set_process slot (act_on signal action (caller_of v slot))) ∷ [];
  answer = number 0;
}

abbrev pub sigtake_of : ℕ → Process Path → Option Sig → Row
sigtake_of slot who None = only (number 0)
sigtake_of slot who (Some signal) = record {
  checks = [];
  effects = on_processes (set_process slot (drop_caught signal who)) ∷ [];
  answer = number (sig_number signal);
}

abbrev pub sigtake_row : View → ℕ → Row
sigtake_row v slot = sigtake_of slot (caller_of v slot) (least_caught (caller_of v slot))

abbrev pub pause_row : View → ℕ → Row
pause_row v slot = record { checks = sleep_if true (caller_of v slot) reason.Pause ∷ []; effects = []; answer = number 0 }
