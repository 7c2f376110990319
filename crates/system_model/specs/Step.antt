-- A step of the machine.
use Rattle.std.specs.Prelude.{ℕ, Bool, true, false, not, ◌&&◌, ◌==◌, List, [], ◌∷◌, ◌++◌, length, filter, Option, Some, None, is_some, if◌then◌else◌}
use Rattle.std.specs.List.{range_with_len}
use Rattle.sys_types.specs.declared.limits.TheConstants.{SLOTS, LINES, PIECE_BYTES}
use Rattle.sys_types.specs.declared.rules.Rule.TheVariants.{Asleep, Awake}
use Rattle.call_words.specs.declared.call.Call.{Call}
use Rattle.call_words.specs.declared.call.Call.TheVariants as call
use Rattle.call_words.specs.declared.event.Event.{Event}
use Rattle.call_words.specs.declared.event.Event.TheVariants as event
use Rattle.call_words.specs.declared.event.Decision.{Decision}
use Rattle.call_words.specs.declared.event.Decision.TheVariants.{Answer, Sleep, Taken, Noted}
use Rattle.call_words.specs.declared.event.Reason.{Reason}
use Rattle.call_words.specs.declared.event.Reason.TheVariants as reason
use Rattle.call_words.specs.Events.{WakeList}
use Rattle.proc_table.specs.Processes.{Process, is_stopped, running_at, pending_at, is_left}
use Rattle.proc_table.specs.Forks.{is_begin}
use Rattle.system_model.specs.Parts.{Path}
use Rattle.system_model.specs.State.{State, View, view}
use Rattle.system_model.specs.ProcessEffects.{set_pending, tell}
use Rattle.system_model.specs.Effects.{Effect, on_processes, tag_all, change_all}
use Rattle.system_model.specs.Rows.{refused, early, asleep, Check, Row, check, deny, answer_if, gone, behind, first, decision, done}
use Rattle.system_model.specs.Rows.{ended_by}
use Rattle.system_model.specs.OpenCalls.{open_row, close_row, dup_row, dup2_row}
use Rattle.system_model.specs.IoCalls.{read_row, write_row}
use Rattle.system_model.specs.PipeCalls.{pipe_row}
use Rattle.system_model.specs.DirCalls.{chdir_row, mkdir_row, rmdir_row, unlink_row, list_row}
use Rattle.system_model.specs.AttrCalls.{info_row, chmod_row, chown_row, setacl_row, getacl_row, setlabel_row, getlabel_row}
use Rattle.system_model.specs.CredCalls.{setcred_row, setproclabel_row, umask_row, ident_row}
use Rattle.system_model.specs.ProcCalls.{begin_row, exec_row, fork_row, exit_row, wait_row, setsid_row, setpgid_row, ps_row, halt_row}
use Rattle.system_model.specs.SignalCalls.{kill_row, sigset_row, sigtake_row, pause_row}
use Rattle.system_model.specs.TtyCalls.{setctty_row, tcgetattr_row, tcsetattr_row, tcflush_row, tcdrain_row, tcsetpgrp_row, tcgetpgrp_row, fdname_row}
use Rattle.system_model.specs.TtyCalls.{revoke_row}
use Rattle.system_model.specs.LineEvents.{byte_row, carrier_row, take_row, end_row}
use Rattle.system_model.specs.Endings.{endings_of}

-- the row of a call, of a slot with a running process that is not stopped
abbrev pub call_row : View → ℕ → Call → Row
call_row v slot (call.Open path access flags mode) = open_row v slot path access flags mode
call_row v slot (call.Close fd) = close_row v slot fd
call_row v slot (call.Dup fd) = dup_row v slot fd
call_row v slot (call.Dup2 fd to) = dup2_row v slot fd to
call_row v slot (call.Read fd max) = read_row v slot fd max
call_row v slot (call.Write fd bytes) = write_row v slot fd bytes
call_row v slot call.Pipe = pipe_row v slot
call_row v slot (call.Chdir path) = chdir_row v slot path
call_row v slot (call.Mkdir path mode) = mkdir_row v slot path mode
call_row v slot (call.Rmdir path) = rmdir_row v slot path
call_row v slot (call.Unlink path) = unlink_row v slot path
call_row v slot (call.List path from) = list_row v slot path from
call_row v slot (call.Info path) = info_row v slot path
call_row v slot (call.Chmod path mode) = chmod_row v slot path mode
call_row v slot (call.Chown path uid gid) = chown_row v slot path uid gid
call_row v slot (call.SetAcl path which list) = setacl_row v slot path which list
call_row v slot (call.GetAcl path which) = getacl_row v slot path which
call_row v slot (call.SetLabel path element) = setlabel_row v slot path element
call_row v slot (call.GetLabel path) = getlabel_row v slot path
call_row v slot (call.SetProcLabel subject) = setproclabel_row v slot subject
call_row v slot call.Ident = ident_row v slot
call_row v slot (call.SetCred cred) = setcred_row v slot cred
call_row v slot (call.Umask mode) = umask_row v slot mode
call_row v slot call.Begin = begin_row v slot
call_row v slot (call.Fork note) = fork_row v slot note
call_row v slot (call.Exec path args) = exec_row v slot path args
call_row v slot (call.Exit status) = exit_row v slot status
call_row v slot (call.Wait pid flags) = wait_row v slot pid flags
call_row v slot call.SetSid = setsid_row v slot
call_row v slot (call.SetPgid pid group) = setpgid_row v slot pid group
call_row v slot call.Ps = ps_row v slot
call_row v slot call.Halt = halt_row v slot
call_row v slot (call.Kill to sig) = kill_row v slot to sig
call_row v slot (call.SigSet sig action) = sigset_row v slot sig action
call_row v slot call.SigTake = sigtake_row v slot
call_row v slot call.Pause = pause_row v slot
call_row v slot (call.SetCtty fd) = setctty_row v slot fd
call_row v slot (call.TcGetAttr fd) = tcgetattr_row v slot fd
call_row v slot (call.TcSetAttr fd when termios) = tcsetattr_row v slot fd when termios
call_row v slot (call.TcFlush fd which) = tcflush_row v slot fd which
call_row v slot (call.TcDrain fd) = tcdrain_row v slot fd
call_row v slot (call.TcSetPgrp fd group) = tcsetpgrp_row v slot fd group
call_row v slot (call.TcGetPgrp fd) = tcgetpgrp_row v slot fd
call_row v slot (call.FdName fd) = fdname_row v slot fd
call_row v slot (call.Revoke path) = revoke_row v slot path

-- a call of a stopped process sleeps until it is continued
abbrev pub run_row : View → ℕ → Process Path → Call → Row
run_row v slot who c = behind (check (is_stopped who) (asleep reason.Stop) [] ∷ []) (call_row v slot c)

-- ---- a slot without a running process: its call is gone, and `begin` sleeps until there is a process. Either tells that its last process
-- was ended.

abbrev pub tell_if_left : View → ℕ → List Effect
tell_if_left v slot = if is_left v.processes slot then on_processes (tell slot) ∷ [] else []

abbrev pub gone_row : View → ℕ → Row
gone_row v slot = record { checks = []; effects = tell_if_left v slot ++ on_processes (set_pending slot None) ∷ []; answer = gone }

abbrev pub begin_sleeps : View → ℕ → List Effect → Row
begin_sleeps v slot pending = record { checks = check true (asleep reason.Begin) (tell_if_left v slot ++ pending) ∷ []; effects = []; answer = gone }

-- ---- a call that is asked now

-- it is pending from now on where it sleeps
abbrev pub enter_row : View → ℕ → Call → Option (Process Path) → Row
enter_row v slot c None = if is_begin c then begin_sleeps v slot (on_processes (set_pending slot (Some c)) ∷ []) else gone_row v slot
enter_row v slot c (Some who) =
    behind (deny (is_some (pending_at v.processes slot)) Asleep ∷ [])
    (ended_by (on_processes (set_pending slot (Some c)) ∷ []) [] (run_row v slot who c))

-- ---- a pending call that is tried again

-- it is pending no more where it does not sleep
abbrev pub retry_row : View → ℕ → Process Path → Option Call → Row
retry_row v slot who None = record { checks = deny true Awake ∷ []; effects = []; answer = gone }
retry_row v slot who (Some c) = ended_by [] (on_processes (set_pending slot None) ∷ []) (run_row v slot who c)

abbrev pub is_begin_pending : Option Call → Bool
is_begin_pending None = false
is_begin_pending (Some c) = is_begin c

abbrev pub again_row : View → ℕ → Option (Process Path) → Row
again_row v slot None = if is_begin_pending (pending_at v.processes slot) then begin_sleeps v slot [] else gone_row v slot
again_row v slot (Some who) = retry_row v slot who (pending_at v.processes slot)

-- ---- all events

abbrev pub event_row : View → Event → Row
event_row v (event.Call slot c) = enter_row v slot c (running_at v.processes slot)
event_row v (event.Again slot) = again_row v slot (running_at v.processes slot)
event_row v (event.Byte n b) = byte_row v n b
event_row v (event.Carrier n up) = carrier_row v n up
event_row v (event.Take n max) = take_row v n max
event_row v (event.Ended n) = end_row v n

-- after a halt each event is gone and changes nothing
abbrev pub row : View → Event → Row
row v e = behind (answer_if v.halted gone ∷ []) (event_row v e)

-- what an event does: the effects of its row, and then those of the endings
abbrev pub effects_of : View → Event → List Effect
effects_of v e = let now = done (row v e) in now ++ endings_of (change_all v now)

unfoldable pub answer_to : View → Event → Decision
answer_to v e = decision (row v e)

-- the state after the event at position p, and its decision
abbrev pub step : State → ℕ → Event → State × Decision
step s p e = (tag_all s p (effects_of (view s) e), answer_to (view s) e)

-- the same as calls see it
unfoldable pub view_after : View → Event → View
view_after v e = change_all v (effects_of v e)

-- ---- who can go on

abbrev pub has_none : List Effect → Bool
has_none [] = true
has_none (e ∷ es) = false

-- a check that sleeps and changes nothing
abbrev pub is_idle_check : Option Check → Bool
is_idle_check None = false
is_idle_check (Some (refused rule, es)) = false
is_idle_check (Some (early given, es)) = false
is_idle_check (Some (asleep reason, es)) = has_none es

-- another try of the slot's pending call would sleep and change nothing
abbrev pub is_idle : View → ℕ → Bool
is_idle v slot = is_idle_check (first (row v (event.Again slot)).checks)

abbrev pub can_go_on : View → ℕ → Bool
can_go_on v slot = is_some (pending_at v.processes slot) && not (is_idle v slot)

abbrev pub reason_of_check : Option Check → Option Reason
reason_of_check None = None
reason_of_check (Some (refused rule, es)) = None
reason_of_check (Some (early given, es)) = None
reason_of_check (Some (asleep reason, es)) = if has_none es then Some reason else None

-- what the pending call of a slot waits for, where another try would be idle
unfoldable pub waits : View → ℕ → Option Reason
waits v slot = if is_some (pending_at v.processes slot) then reason_of_check (first (row v (event.Again slot)).checks) else None

abbrev pub gives_a_byte : Decision → Bool
gives_a_byte (Answer reply) = false
gives_a_byte (Taken bs) = not (length bs == 0)
gives_a_byte (Sleep reason) = false
gives_a_byte Noted = false

-- every slot whose pending call another try would not leave idle, and every line of which a taking of 512 would give a byte
unfoldable pub wakes : View → WakeList
wakes v = record {
  slots = filter (can_go_on v) (range_with_len 0 SLOTS);
  lines = filter (λ n. gives_a_byte (answer_to v (event.Take n PIECE_BYTES))) (range_with_len 0 LINES);
}
