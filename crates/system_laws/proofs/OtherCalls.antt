-- Of all calls six alone wait: another try of any other changes something, or does not sleep.
use Rattle.std.proofs.Common.{◌≡◌, ℕ, Bool, true, false, List, [], ◌∷◌, ◌++◌, refl}
use Rattle.std.specs.Prelude.{Option, Some, None, if◌then◌else◌}
use Rattle.sys_types.specs.declared.rules.Rule.{Rule}
use Rattle.sys_types.specs.declared.rules.Rule.TheVariants as rules
use Rattle.sys_types.specs.declared.sig.Sig.{Sig}
use Rattle.sys_types.specs.declared.sig.Sig.TheVariants as sig
use Rattle.call_words.specs.declared.call.Call.{Call}
use Rattle.call_words.specs.declared.call.Call.TheVariants as call
use Rattle.call_words.specs.declared.event.Reason.TheVariants as reason
use Rattle.tree_model.specs.Tree.{WalkEnd, found, absent, missing, not_dir, name_long, path_long}
use Rattle.proc_table.specs.Processes.{Process, least_caught, action_of}
use Rattle.proc_table.specs.Posts.{is_catch}
use Rattle.proc_table.specs.Jobs.{setpgid_target}
use Rattle.system_model.specs.Parts.{Path}
use Rattle.system_model.specs.State.{View}
use Rattle.system_model.specs.Rows.{Given, refused, asleep, Check, Row, check, deny, deny_by, answer_if, first}
use Rattle.system_model.specs.Background.{stop_by, post_to_group, is_stopped_by_write, background_write}
use Rattle.system_model.specs.DirCalls as dirs
use Rattle.system_model.specs.AttrCalls as attrs
use Rattle.system_model.specs.ProcCalls as procs
use Rattle.system_model.specs.SignalCalls as signals
use Rattle.system_model.specs.TtyCalls as ttys
use Rattle.system_model.specs.Looks.{on_node, caller_of}
use Rattle.system_model.specs.Step.{call_row, reason_of_check}
use Rattle.system_laws.specs.WaitingCalls.{may_wait}

-- a check, where it holds, is no sleep that changes nothing
data IsBusy : Option Check → Type 0 where
  is_busy : (c : Option Check) → reason_of_check c ≡ None → IsBusy c

data AreBusy : List (Option Check) → Type 0 where
  no_busy : AreBusy []
  next_busy : (c : Option Check) (cs : List (Option Check)) → IsBusy c → AreBusy cs → AreBusy (c ∷ cs)

busy-deny : (c : Bool) (rule : Rule) → IsBusy (deny c rule)
busy-deny true rule = is_busy _ refl
busy-deny false rule = is_busy _ refl

busy-answer : (c : Bool) (given : Given) → IsBusy (answer_if c given)
busy-answer true given = is_busy _ refl
busy-answer false given = is_busy _ refl

busy-rule : (rule : Option Rule) → IsBusy (deny_by rule)
busy-rule None = is_busy _ refl
busy-rule (Some r) = is_busy _ refl

-- who stops in the background sends a signal to its group
busy-stop : (c : Bool) (signal : Sig) (who : Process Path) → IsBusy (check c (stop_by signal who) (post_to_group signal who))
busy-stop false signal who = is_busy _ refl
busy-stop true signal who = by_catch (is_catch (action_of who.actions signal))
  where
    by_catch : (b : Bool) → IsBusy (check true (if b then refused rules.Signal else asleep reason.Stop) (post_to_group signal who))
    by_catch true = is_busy _ refl
    by_catch false = is_busy _ refl

busy-append : (cs ds : List (Option Check)) → AreBusy cs → AreBusy ds → AreBusy (cs ++ ds)
busy-append [] ds no_busy are = are
busy-append (c ∷ cs) ds (next_busy _ _ is more) are = next_busy c (cs ++ ds) is (busy-append cs ds more are)

ruleset busy = (no_busy, next_busy, busy-deny, busy-answer, busy-rule, busy-append)

busy_background_write : (v : View) (n : ℕ) (who : Process Path) → AreBusy (background_write v n who)
busy_background_write v n who = next_busy _ _ (busy-deny _ _) (next_busy _ _ (busy-stop (is_stopped_by_write v n who) sig.TTOU who) no_busy)

-- ---- rows

busy_on_node : (v : View) (slot : ℕ) (path : List ℕ) (row : Path → Row) → ((place : Path) → AreBusy (row place).checks)
    → AreBusy (on_node v slot path row).checks
busy_on_node v slot path row are = next_busy _ _ (busy-rule _) (are _)

busy_mkdir : (v : View) (slot mode : ℕ) (end : WalkEnd) → AreBusy (dirs.mkdir_at v slot mode end).checks
busy_mkdir v slot mode (found place) = search busy
busy_mkdir v slot mode (absent dir name) = search busy
busy_mkdir v slot mode missing = no_busy
busy_mkdir v slot mode not_dir = no_busy
busy_mkdir v slot mode name_long = no_busy
busy_mkdir v slot mode path_long = no_busy

busy_on_line : (row : ℕ → Row) (n : Option ℕ) → ((n : ℕ) → AreBusy (row n).checks) → AreBusy (ttys.on_line_row row n).checks
busy_on_line row None are = no_busy
busy_on_line row (Some n) are = are n

busy_on_tty : (v : View) (slot fd : ℕ) (row : ℕ → Row) → ((n : ℕ) → AreBusy (row n).checks) → AreBusy (ttys.on_tty v slot fd row).checks
busy_on_tty v slot fd row are = search (busy, busy_on_line row (ttys.tty_at v slot fd) are)

busy_setpgid : (v : View) (slot group : ℕ) (target : Option (Process Path)) → AreBusy (procs.setpgid_on v slot group target).checks
busy_setpgid v slot group None = search busy
busy_setpgid v slot group (Some target) = search busy

busy_sigtake : (slot : ℕ) (who : Process Path) (signal : Option Sig) → AreBusy (signals.sigtake_of slot who signal).checks
busy_sigtake slot who None = no_busy
busy_sigtake slot who (Some signal) = no_busy

-- ---- calls

busy_call : (v : View) (slot : ℕ) (c : Call) → may_wait c ≡ false → AreBusy (call_row v slot c).checks
busy_call v slot (call.Open path access flags mode) other = cc
busy_call v slot (call.Close fd) other = search busy
busy_call v slot (call.Dup fd) other = search busy
busy_call v slot (call.Dup2 fd into) other = search busy
busy_call v slot (call.Read fd max) other = cc
busy_call v slot (call.Write fd bytes) other = cc
busy_call v slot call.Pipe other = search busy
busy_call v slot (call.Chdir path) other = busy_on_node v slot path (dirs.chdir_at v slot) (λ place. search busy depth 9)
busy_call v slot (call.Mkdir path mode) other = search (busy, busy_mkdir)
busy_call v slot (call.Rmdir path) other = busy_on_node v slot path (dirs.rmdir_at v slot) (λ place. search busy depth 9)
busy_call v slot (call.Unlink path) other = busy_on_node v slot path (dirs.unlink_at v slot) (λ place. search busy depth 9)
busy_call v slot (call.List path from) other = busy_on_node v slot path (dirs.list_at v slot from) (λ place. search busy depth 9)
busy_call v slot (call.Info path) other = busy_on_node v slot path (attrs.info_at v slot) (λ place. search busy depth 9)
busy_call v slot (call.Chmod path mode) other = busy_on_node v slot path (attrs.chmod_at v slot mode) (λ place. search busy depth 9)
busy_call v slot (call.Chown path uid gid) other = busy_on_node v slot path (attrs.chown_at v slot uid gid) (λ place. search busy depth 9)
busy_call v slot (call.SetAcl path which list) other = busy_on_node v slot path (attrs.setacl_at v slot which list) (λ place. search busy depth 9)
busy_call v slot (call.GetAcl path which) other = busy_on_node v slot path (attrs.getacl_at v slot which) (λ place. search busy depth 9)
busy_call v slot (call.SetLabel path element) other = busy_on_node v slot path (attrs.setlabel_at v slot element) (λ place. search busy depth 9)
busy_call v slot (call.GetLabel path) other = busy_on_node v slot path (attrs.getlabel_at v slot) (λ place. search busy depth 9)
busy_call v slot (call.SetProcLabel subject) other = search busy
busy_call v slot call.Ident other = no_busy
busy_call v slot (call.SetCred cred) other = search busy
busy_call v slot (call.Umask mode) other = no_busy
busy_call v slot call.Begin other = search busy
busy_call v slot (call.Fork note) other = search busy
busy_call v slot (call.Exec path args) other = busy_on_node v slot path (procs.exec_at v slot args) (λ place. search busy depth 9)
busy_call v slot (call.Exit status) other = search busy
busy_call v slot (call.Wait pid flags) other = cc
busy_call v slot call.SetSid other = search busy
busy_call v slot (call.SetPgid pid group) other = busy_setpgid v slot group (setpgid_target v.processes (caller_of v slot) pid)
busy_call v slot call.Ps other = no_busy
busy_call v slot call.Halt other = search busy
busy_call v slot (call.Kill to signal) other = search busy
busy_call v slot (call.SigSet signal action) other = search busy
busy_call v slot call.SigTake other = busy_sigtake slot (caller_of v slot) (least_caught (caller_of v slot))
busy_call v slot call.Pause other = cc
busy_call v slot (call.SetCtty fd) other = busy_on_tty v slot fd (ttys.setctty_on v slot) (λ n. search busy depth 9)
busy_call v slot (call.TcGetAttr fd) other = busy_on_tty v slot fd _ (λ n. no_busy)
busy_call v slot (call.TcSetAttr fd when termios) other =
    busy_on_tty v slot fd (ttys.tcsetattr_on v slot when termios) (λ n. search (busy, busy_background_write) depth 9)
busy_call v slot (call.TcFlush fd which) other = busy_on_tty v slot fd (ttys.tcflush_on v slot which) (λ n. search (busy, busy_background_write) depth 9)
busy_call v slot (call.TcDrain fd) other = cc
busy_call v slot (call.TcSetPgrp fd group) other = busy_on_tty v slot fd (ttys.tcsetpgrp_on v slot group) (λ n. search (busy, busy_background_write) depth 9)
busy_call v slot (call.TcGetPgrp fd) other = busy_on_tty v slot fd (ttys.tcgetpgrp_on v slot) (λ n. search busy depth 9)
busy_call v slot (call.FdName fd) other = search busy
busy_call v slot (call.Revoke path) other = busy_on_node v slot path (ttys.revoke_at v slot) (λ place. search busy depth 9)

first-busy : (cs : List (Option Check)) → AreBusy cs → reason_of_check (first cs) ≡ None
first-busy [] no_busy = refl
first-busy (None ∷ cs) (next_busy _ _ is more) = first-busy cs more
first-busy (Some c ∷ cs) (next_busy _ _ (is_busy _ is) more) = is

pub others_do_not_wait : (v : View) (slot : ℕ) (c : Call) → may_wait c ≡ false → reason_of_check (first (call_row v slot c).checks) ≡ None
others_do_not_wait v slot c other = first-busy (call_row v slot c).checks (busy_call v slot c other)
