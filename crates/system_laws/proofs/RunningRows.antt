-- Of all calls exit alone puts a process on the list of those to be ended, and none takes away a running one.
use Rattle.std.proofs.Common.{◌≡◌, ℕ, Bool, true, false, cond, List, [], ◌∷◌, ◌++◌, refl, ap, ◌∙◌}
use Rattle.std.specs.Prelude.{◌==◌, Option, Some, None, is_none}
use Rattle.sys_types.specs.declared.sig.Sig.{Sig}
use Rattle.call_words.specs.declared.call.Call.{Call}
use Rattle.call_words.specs.declared.call.Call.TheVariants as call
use Rattle.call_words.specs.declared.signal.To.{To}
use Rattle.call_words.specs.declared.tty.When.{When}
use Rattle.call_words.specs.declared.tty.When.TheVariants as when
use Rattle.proc_table.specs.Processes.{Process, is_running, least_caught}
use Rattle.tree_model.specs.Paths.{path_at}
use Rattle.termios_core.specs.Text.{termios_text}
use Rattle.sys_types.specs.declared.node.Kind.{Kind}
use Rattle.sys_types.specs.declared.node.Kind.TheVariants as kind
use Rattle.call_words.specs.declared.open.Access.{Access}
use Rattle.call_words.specs.declared.open.OpenFlags.{OpenFlags}
use Rattle.tree_model.specs.Tree.{NodeRecord, WalkEnd, found, absent, missing, not_dir, name_long, path_long}
use Rattle.proc_table.specs.Jobs.{setpgid_target}
use Rattle.system_model.specs.Parts.{Path, Target, node, read_end, write_end, tty}
use Rattle.system_model.specs.State.{OpenFile, View}
use Rattle.system_model.specs.FileEffects.{FileEffect}
use Rattle.system_model.specs.PipeEffects.{PipeEffect}
use Rattle.system_model.specs.LineEffects.{LineEffect}
use Rattle.system_model.specs.TreeEffects.{TreeEffect}
use Rattle.system_model.specs.ProcessEffects.{set_process, fork_process, reap_child, tell, post, add_ending, bury}
use Rattle.system_model.specs.Effects.{Effect, on_files, on_pipes, on_lines, on_tree, on_processes, halt}
use Rattle.system_model.specs.Rows.{Row, text, only, first}
use Rattle.system_model.specs.Looks.{caller_of, line_of, file_at, node_at, end_of, termios_of}
use Rattle.system_model.specs.OpenCalls as opens
use Rattle.system_model.specs.IoCalls as io
use Rattle.system_model.specs.DirCalls as dirs
use Rattle.system_model.specs.ProcCalls as procs
use Rattle.system_model.specs.SignalCalls as signals
use Rattle.system_model.specs.TtyCalls as ttys
use Rattle.system_model.specs.Step.{call_row}
use Rattle.system_laws.proofs.RunningCallers.{caller-runs, drop-runs, target-runs}

-- an effect ends no process, and puts none on the list of those to be ended but by a post
abbrev pub is_lively : Effect → Bool
is_lively (on_processes (set_process slot p)) = is_running p
is_lively (on_processes (add_ending slot why)) = false
is_lively (on_processes (bury slot why)) = false
is_lively _ = true

abbrev pub is_exit : Call → Bool
is_exit (call.Exit status) = true
is_exit _ = false

-- each of some effects
pub data AreLively : List Effect → Type 0 where
  no_effect : AreLively []
  next_effect : (e : Effect) (es : List Effect) → is_lively e ≡ true → AreLively es → AreLively (e ∷ es)

pub lvl-append : (es fs : List Effect) → AreLively es → AreLively fs → AreLively (es ++ fs)
lvl-append [] fs no_effect none = none
lvl-append (e ∷ es) fs (next_effect _ _ is more) none = next_effect e (es ++ fs) is (lvl-append es fs more none)

pub lvl-if : (t : Bool) (es fs : List Effect) → AreLively es → AreLively fs → AreLively (cond t es fs)
lvl-if true es fs first second = first
lvl-if false es fs first second = second

lvl-tree : (e : TreeEffect) (es : List Effect) → AreLively es → AreLively (on_tree e ∷ es)
lvl-tree e es are = next_effect _ _ refl are

lvl-pipe : (e : PipeEffect) (es : List Effect) → AreLively es → AreLively (on_pipes e ∷ es)
lvl-pipe e es are = next_effect _ _ refl are

lvl-line : (e : LineEffect) (es : List Effect) → AreLively es → AreLively (on_lines e ∷ es)
lvl-line e es are = next_effect _ _ refl are

lvl-file : (e : FileEffect) (es : List Effect) → AreLively es → AreLively (on_files e ∷ es)
lvl-file e es are = next_effect _ _ refl are

lvl-halt : (es : List Effect) → AreLively es → AreLively (halt ∷ es)
lvl-halt es are = next_effect _ _ refl are

lvl-set : (slot : ℕ) (p : Process Path) (es : List Effect) → is_running p ≡ true → AreLively es → AreLively (on_processes (set_process slot p) ∷ es)
lvl-set slot p es runs are = next_effect _ _ runs are

lvl-fork : (slot : ℕ) (note : List ℕ) (es : List Effect) → AreLively es → AreLively (on_processes (fork_process slot note) ∷ es)
lvl-fork slot note es are = next_effect _ _ refl are

lvl-reap : (slot who : ℕ) (untraced : Bool) (es : List Effect) → AreLively es → AreLively (on_processes (reap_child slot who untraced) ∷ es)
lvl-reap slot who untraced es are = next_effect _ _ refl are

lvl-tell : (slot : ℕ) (es : List Effect) → AreLively es → AreLively (on_processes (tell slot) ∷ es)
lvl-tell slot es are = next_effect _ _ refl are

lvl-post : (signal : Sig) (whom : To) (es : List Effect) → AreLively es → AreLively (on_processes (post signal whom) ∷ es)
lvl-post signal whom es are = next_effect _ _ refl are

lvl-fds : (slot : ℕ) (fds : List ℕ) → AreLively (procs.close_fds slot fds)
lvl-fds slot [] = no_effect
lvl-fds slot (fd ∷ fds) = next_effect _ _ refl (lvl-fds slot fds)

lvl-posts : (signal : Sig) (whom : List (Process Path)) → AreLively (signals.post_each signal whom)
lvl-posts signal [] = no_effect
lvl-posts signal (p ∷ ps) = next_effect _ _ refl (lvl-posts signal ps)

ruleset lively = (no_effect, lvl-append, lvl-if, lvl-tree, lvl-pipe, lvl-line, lvl-file, lvl-halt, lvl-fork, lvl-reap, lvl-tell, lvl-post, lvl-fds, lvl-posts)

-- ---- rows

lvl-caller : (v : View) (slot : ℕ) (p : Process Path) (es : List Effect) → p.ending ≡ (caller_of v slot).ending → AreLively es
    → AreLively (on_processes (set_process slot p) ∷ es)
lvl-caller v slot p es same are = lvl-set slot p es (ap is_none same ∙ caller-runs v slot) are

lvl_read : (v : View) (slot fd max : ℕ) (f : OpenFile) (target : Target) → AreLively (io.read_target v slot fd max f target).effects
lvl_read v slot fd max f (node path) = search lively
lvl_read v slot fd max f (read_end k) = search lively
lvl_read v slot fd max f (write_end k) = search lively
lvl_read v slot fd max f (tty m) = search lively

lvl_read_at : (v : View) (slot fd max : ℕ) (f : Option OpenFile) → AreLively (io.read_at v slot fd max f).effects
lvl_read_at v slot fd max None = no_effect
lvl_read_at v slot fd max (Some f) = lvl_read v slot fd max f f.file.target

lvl_write : (v : View) (slot fd : ℕ) (bs : List ℕ) (f : OpenFile) (target : Target) → AreLively (io.write_target v slot fd bs f target).effects
lvl_write v slot fd bs f (node path) = search lively
lvl_write v slot fd bs f (read_end k) = search lively
lvl_write v slot fd bs f (write_end k) = search lively
lvl_write v slot fd bs f (tty m) = search lively

lvl_write_at : (v : View) (slot fd : ℕ) (bs : List ℕ) (f : Option OpenFile) → AreLively (io.write_at v slot fd bs f).effects
lvl_write_at v slot fd bs None = no_effect
lvl_write_at v slot fd bs (Some f) = lvl_write v slot fd bs f f.file.target

lvl_mkdir : (v : View) (slot mode : ℕ) (end : WalkEnd) → AreLively (dirs.mkdir_at v slot mode end).effects
lvl_mkdir v slot mode (found place) = no_effect
lvl_mkdir v slot mode (absent dir name) = search lively
lvl_mkdir v slot mode missing = no_effect
lvl_mkdir v slot mode not_dir = no_effect
lvl_mkdir v slot mode name_long = no_effect
lvl_mkdir v slot mode path_long = no_effect

lvl_on_line : (row : ℕ → Row) (m : Option ℕ) → ((m : ℕ) → AreLively (row m).effects) → AreLively (ttys.on_line_row row m).effects
lvl_on_line row None none = no_effect
lvl_on_line row (Some m) none = none m

lvl_setpgid : (v : View) (slot group : ℕ) (target : Option (Process Path)) → ((p : Process Path) → target ≡ Some p → is_running p ≡ true)
    → AreLively (procs.setpgid_on v slot group target).effects
lvl_setpgid v slot group None runs = no_effect
lvl_setpgid v slot group (Some target) runs = lvl-set _ _ _ (runs target refl) no_effect

lvl_sigtake : (slot : ℕ) (who : Process Path) (signal : Option Sig) → is_running who ≡ true → AreLively (signals.sigtake_of slot who signal).effects
lvl_sigtake slot who None runs = no_effect
lvl_sigtake slot who (Some signal) runs = lvl-set _ _ _ (drop-runs signal who runs) no_effect

lvl_flush : (at : When) (m : ℕ) → AreLively (ttys.flush_first at m)
lvl_flush when.Now m = no_effect
lvl_flush when.Flush m = search lively

lvl_dup2 : (v : View) (slot fd into : ℕ) → AreLively (opens.dup2_effects v slot fd into)
lvl_dup2 v slot fd into = lvl-if (fd == into) _ _ no_effect (search lively)

lvl_tty : (slot : ℕ) (access : Access) (flags : OpenFlags) (m : Option ℕ) → AreLively (opens.tty_effects slot access flags m)
lvl_tty slot access flags None = no_effect
lvl_tty slot access flags (Some m) = search lively

lvl_truncations : (place : Path) (flags : OpenFlags) (what : NodeRecord) → AreLively (opens.truncations place flags what)
lvl_truncations place flags what = lvl-if flags.truncate _ _ (search lively) no_effect

lvl_kind : (v : View) (slot : ℕ) (place : Path) (access : Access) (flags : OpenFlags) (what : NodeRecord) (k : Kind)
    → AreLively (opens.kind_effects v slot place access flags what k)
lvl_kind v slot place access flags what kind.File = lvl-append _ _ (lvl_truncations place flags what) (search lively)
lvl_kind v slot place access flags what kind.Dir = no_effect
lvl_kind v slot place access flags what (kind.Line m) = lvl_tty slot access flags (Some m)
lvl_kind v slot place access flags what kind.Tty = lvl_tty slot access flags (opens.own_tty v slot)

lvl_place : (v : View) (slot : ℕ) (place : Path) (access : Access) (flags : OpenFlags) (what : Option NodeRecord)
    → AreLively (opens.place_effects v slot place access flags what)
lvl_place v slot place access flags None = no_effect
lvl_place v slot place access flags (Some what) = lvl_kind v slot place access flags what what.kind

lvl_open : (v : View) (slot : ℕ) (access : Access) (flags : OpenFlags) (mode : ℕ) (end : WalkEnd)
    → AreLively (opens.open_at v slot access flags mode end).effects
lvl_open v slot access flags mode (found place) = lvl_place v slot place access flags (node_at v place)
lvl_open v slot access flags mode (absent dir name) = search lively
lvl_open v slot access flags mode missing = no_effect
lvl_open v slot access flags mode not_dir = no_effect
lvl_open v slot access flags mode name_long = no_effect
lvl_open v slot access flags mode path_long = no_effect

lvl_tell : (who : Process Path) (session : Option ℕ) → AreLively (ttys.tell_leader who session)
lvl_tell who None = no_effect
lvl_tell who (Some session) = lvl-if (who.pid == session) _ _ no_effect (search lively)

lvl_revoke : (v : View) (who : Process Path) (m : Option ℕ) → AreLively (ttys.revoke_effects v who m)
lvl_revoke v who None = no_effect
lvl_revoke v who (Some m) = lvl-line _ _ (lvl_tell who (line_of v m).session)

-- ---- calls

pub lvl_call : (v : View) (slot : ℕ) (c : Call) → is_exit c ≡ false → AreLively (call_row v slot c).effects
lvl_call v slot (call.Open path access flags mode) other = lvl_open v slot access flags mode (end_of v slot path)
lvl_call v slot (call.Close fd) other = search lively
lvl_call v slot (call.Dup fd) other = search lively
lvl_call v slot (call.Dup2 fd into) other = lvl_dup2 v slot fd into
lvl_call v slot (call.Read fd max) other = lvl_read_at v slot fd max (file_at v slot fd)
lvl_call v slot (call.Write fd bytes) other = lvl_write_at v slot fd bytes (file_at v slot fd)
lvl_call v slot call.Pipe other = search lively
lvl_call v slot (call.Chdir path) other = lvl-caller v slot _ _ refl no_effect
lvl_call v slot (call.Mkdir path mode) other = lvl_mkdir v slot mode (end_of v slot path)
lvl_call v slot (call.Rmdir path) other = search lively
lvl_call v slot (call.Unlink path) other = search lively
lvl_call v slot (call.List path from) other = no_effect
lvl_call v slot (call.Info path) other = no_effect
lvl_call v slot (call.Chmod path mode) other = search lively
lvl_call v slot (call.Chown path uid gid) other = search lively
lvl_call v slot (call.SetAcl path which list) other = search lively
lvl_call v slot (call.GetAcl path which) other = no_effect
lvl_call v slot (call.SetLabel path element) other = search lively
lvl_call v slot (call.GetLabel path) other = no_effect
lvl_call v slot (call.SetProcLabel subject) other = lvl-caller v slot _ _ refl no_effect
lvl_call v slot call.Ident other = no_effect
lvl_call v slot (call.SetCred cred) other = lvl-caller v slot _ _ refl no_effect
lvl_call v slot (call.Umask mode) other = lvl-caller v slot _ _ refl no_effect
lvl_call v slot call.Begin other = lvl-caller v slot _ _ refl no_effect
lvl_call v slot (call.Fork note) other = search lively
lvl_call v slot (call.Exec path args) other = lvl-caller v slot _ _ refl (lvl-fds slot _)
lvl_call v slot (call.Exit status) other = cc
lvl_call v slot (call.Wait pid flags) other = search lively
lvl_call v slot call.SetSid other = lvl-caller v slot _ _ refl no_effect
lvl_call v slot (call.SetPgid pid group) other =
    lvl_setpgid v slot group (setpgid_target v.processes (caller_of v slot) pid) (λ p is. target-runs v.processes (caller_of v slot) pid p is)
lvl_call v slot call.Ps other = no_effect
lvl_call v slot call.Halt other = search lively
lvl_call v slot (call.Kill to signal) other = search lively
lvl_call v slot (call.SigSet signal action) other = lvl-set _ _ _ (drop-runs signal _ (caller-runs v slot)) no_effect
lvl_call v slot call.SigTake other = lvl_sigtake slot (caller_of v slot) (least_caught (caller_of v slot)) (caller-runs v slot)
lvl_call v slot call.Pause other = no_effect
lvl_call v slot (call.SetCtty fd) other = lvl_on_line (ttys.setctty_on v slot) (ttys.tty_at v slot fd) (λ m. search lively)
lvl_call v slot (call.TcGetAttr fd) other = lvl_on_line (λ m. only (text (termios_text (termios_of v m)))) (ttys.tty_at v slot fd) (λ m. no_effect)
lvl_call v slot (call.TcSetAttr fd at termios) other =
    lvl_on_line (ttys.tcsetattr_on v slot at termios) (ttys.tty_at v slot fd) (λ m. search (lively, lvl_flush))
lvl_call v slot (call.TcFlush fd which) other = lvl_on_line (ttys.tcflush_on v slot which) (ttys.tty_at v slot fd) (λ m. search lively)
lvl_call v slot (call.TcDrain fd) other = lvl_on_line (ttys.tcdrain_on v slot) (ttys.tty_at v slot fd) (λ m. no_effect)
lvl_call v slot (call.TcSetPgrp fd group) other = lvl_on_line (ttys.tcsetpgrp_on v slot group) (ttys.tty_at v slot fd) (λ m. search lively)
lvl_call v slot (call.TcGetPgrp fd) other = lvl_on_line (ttys.tcgetpgrp_on v slot) (ttys.tty_at v slot fd) (λ m. no_effect)
lvl_call v slot (call.FdName fd) other = no_effect
lvl_call v slot (call.Revoke path) other = lvl_revoke v (caller_of v slot) (ttys.tty_of_node (node_at v (path_at (end_of v slot path))))
