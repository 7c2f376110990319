-- What a process learns of its children (wait4(2)).
use Rattle.std.specs.Prelude.{ℕ, Bool, true, ◌==◌, ◌&&◌, ◌||◌, not, if◌then◌else◌, Option, Some, None, Result, Ok, Err, slice_get}
use Rattle.std.specs.List.{list_any}
use Rattle.sys_types.specs.declared.rules.Rule.{Rule}
use Rattle.sys_types.specs.declared.rules.Rule.TheVariants as rule
use Rattle.sys_types.specs.declared.sig.Sig.{Sig}
use Rattle.call_words.specs.declared.event.How.{How}
use Rattle.call_words.specs.declared.event.How.TheVariants as how
use Rattle.proc_table.specs.Processes.{Process, Processes, is_running, is_stopped, process_at, change_process, remove, holds, pid_of, slots_by_pid}

-- a child of a process that a wait names: the one of a pid, or any where that is 0
abbrev pub is_child : {D : Type 0} → ℕ → ℕ → Process D → Bool
is_child parent who p = p.parent == parent && (who == 0 || p.pid == who)

-- a child that has ended
abbrev pub is_zombie_child : {D : Type 0} → ℕ → ℕ → Process D → Bool
is_zombie_child parent who p = is_child parent who p && not (is_running p)

-- a child that is stopped, which no wait has told yet
abbrev pub is_stopped_child : {D : Type 0} → ℕ → ℕ → Process D → Bool
is_stopped_child parent who p = is_child parent who p && is_running p && is_stopped p && not p.reported

-- the slot of the least pid among those that pass a test
abbrev pub least : {D : Type 0} → (Process D → Bool) → Processes D → Option ℕ
least test t = slice_get (slots_by_pid test t) 0

abbrev pub AfterWait : Type 0 → Type 0
AfterWait D = Processes D × Result (Option (ℕ × How)) Rule

-- how a child ended, which then is no more
abbrev pub reap_ended : {D : Type 0} → Processes D → ℕ → Process D → Option How → AfterWait D
reap_ended t slot p None = (t, Ok None)
reap_ended t slot p (Some why) = (remove t slot, Ok (Some (p.pid, why)))

abbrev pub reap_zombie : {D : Type 0} → Processes D → ℕ → Option (Process D) → AfterWait D
reap_zombie t slot None = (t, Ok None)
reap_zombie t slot (Some p) = reap_ended t slot p p.ending

abbrev pub report : {D : Type 0} → Process D → Process D
report p = record p { reported = true }

-- which signal stopped a child, and this is told
abbrev pub report_signal : {D : Type 0} → Processes D → ℕ → Process D → Option Sig → AfterWait D
report_signal t slot p None = (t, Ok None)
report_signal t slot p (Some signal) = (change_process report t slot, Ok (Some (p.pid, how.Stop signal)))

abbrev pub report_stop : {D : Type 0} → Processes D → ℕ → Option (Process D) → AfterWait D
report_stop t slot None = (t, Ok None)
report_stop t slot (Some p) = report_signal t slot p p.stopped

abbrev pub report_or_none : {D : Type 0} → Processes D → Option ℕ → AfterWait D
report_or_none t None = (t, Ok None)
report_or_none t (Some slot) = report_stop t slot (process_at t slot)

abbrev pub reap_or_report : {D : Type 0} → Processes D → ℕ → ℕ → Bool → Option ℕ → AfterWait D
reap_or_report t parent who untraced (Some slot) = reap_zombie t slot (process_at t slot)
reap_or_report t parent who untraced None = if untraced then report_or_none t (least (is_stopped_child parent who) t) else (t, Ok None)

-- a process waits for a child, or any where that is 0: it has none, or the zombie of least pid goes, or the stop of least pid that is not told yet
-- is told, where that is asked; else there is no news
abbrev pub reap_by : {D : Type 0} → Processes D → ℕ → ℕ → Bool → AfterWait D
reap_by t parent who untraced =
    if list_any (λ s. holds (is_child parent who) s.process) t.slots
    then reap_or_report t parent who untraced (least (is_zombie_child parent who) t)
    else (t, Err rule.NoChild)

abbrev pub reap : {D : Type 0} → Processes D → ℕ → ℕ → Bool → AfterWait D
reap t caller who untraced = reap_by t (pid_of (process_at t caller)) who untraced
