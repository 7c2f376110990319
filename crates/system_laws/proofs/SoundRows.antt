-- A process that is put on the list of those to be ended stands in one of the slots.
use Rattle.std.proofs.Common.{◌≡◌, ℕ, Bool, true, false, cond, List, [], ◌∷◌, ◌++◌, refl}
use Rattle.std.specs.Prelude.{◌==◌, nat_lt, Option, Some, None}
use Rattle.sys_types.specs.declared.limits.TheConstants.{SLOTS}
use Rattle.sys_types.specs.declared.sig.Sig.{Sig}
use Rattle.call_words.specs.declared.call.Call.{Call}
use Rattle.call_words.specs.declared.call.Call.TheVariants as call
use Rattle.call_words.specs.declared.signal.To.{To}
use Rattle.call_words.specs.declared.tty.When.{When}
use Rattle.call_words.specs.declared.tty.When.TheVariants as when
use Rattle.proc_table.specs.Processes.{Process, least_caught}
use Rattle.tree_model.specs.Paths.{path_at}
use Rattle.termios_core.specs.Text.{termios_text}
use Rattle.sys_types.specs.declared.node.Kind.{Kind}
use Rattle.sys_types.specs.declared.node.Kind.TheVariants as kind
use Rattle.call_words.specs.declared.open.Access.{Access}
use Rattle.call_words.specs.declared.open.OpenFlags.{OpenFlags}
use Rattle.tree_model.specs.Tree.{NodeRecord, WalkEnd, found, absent, missing, not_dir, name_long, path_long}
use Rattle.proc_table.specs.Jobs.{setpgid_target}
use Rattle.system_model.specs.Parts.{Path, Target, node, read_end, write_end, tty}
use Rattle.system_model.specs.State.{OpenFile, View}
use Rattle.system_model.specs.FileEffects.{FileEffect}
use Rattle.system_model.specs.PipeEffects.{PipeEffect}
use Rattle.system_model.specs.LineEffects.{LineEffect}
use Rattle.system_model.specs.TreeEffects.{TreeEffect}
use Rattle.system_model.specs.ProcessEffects.{set_process, fork_process, reap_child, set_pending, tell, post, add_ending}
use Rattle.system_model.specs.Effects.{Effect, on_files, on_pipes, on_lines, on_tree, on_processes, halt}
use Rattle.system_model.specs.Rows.{Row, text, only, first}
use Rattle.system_model.specs.Looks.{caller_of, line_of, file_at, node_at, end_of, termios_of}
use Rattle.system_model.specs.OpenCalls as opens
use Rattle.system_model.specs.IoCalls as io
use Rattle.system_model.specs.DirCalls as dirs
use Rattle.system_model.specs.ProcCalls as procs
use Rattle.system_model.specs.SignalCalls as signals
use Rattle.system_model.specs.TtyCalls as ttys
use Rattle.system_model.specs.Step.{call_row}

-- an effect puts on the list of those to be ended only the process of a slot that there is
abbrev pub is_sound : Effect → Bool
is_sound (on_processes (add_ending slot how)) = nat_lt slot SLOTS
is_sound _ = true

-- each of some effects
pub data AreSound : List Effect → Type 0 where
  no_effect : AreSound []
  next_effect : (e : Effect) (es : List Effect) → is_sound e ≡ true → AreSound es → AreSound (e ∷ es)

pub snd-append : (es fs : List Effect) → AreSound es → AreSound fs → AreSound (es ++ fs)
snd-append [] fs no_effect none = none
snd-append (e ∷ es) fs (next_effect _ _ is more) none = next_effect e (es ++ fs) is (snd-append es fs more none)

pub snd-if : (t : Bool) (es fs : List Effect) → AreSound es → AreSound fs → AreSound (cond t es fs)
snd-if true es fs first second = first
snd-if false es fs first second = second

snd-tree : (e : TreeEffect) (es : List Effect) → AreSound es → AreSound (on_tree e ∷ es)
snd-tree e es are = next_effect _ _ refl are

snd-pipe : (e : PipeEffect) (es : List Effect) → AreSound es → AreSound (on_pipes e ∷ es)
snd-pipe e es are = next_effect _ _ refl are

snd-line : (e : LineEffect) (es : List Effect) → AreSound es → AreSound (on_lines e ∷ es)
snd-line e es are = next_effect _ _ refl are

snd-file : (e : FileEffect) (es : List Effect) → AreSound es → AreSound (on_files e ∷ es)
snd-file e es are = next_effect _ _ refl are

snd-halt : (es : List Effect) → AreSound es → AreSound (halt ∷ es)
snd-halt es are = next_effect _ _ refl are

snd-set : (slot : ℕ) (p : Process Path) (es : List Effect) → AreSound es → AreSound (on_processes (set_process slot p) ∷ es)
snd-set slot p es are = next_effect _ _ refl are

snd-fork : (slot : ℕ) (note : List ℕ) (es : List Effect) → AreSound es → AreSound (on_processes (fork_process slot note) ∷ es)
snd-fork slot note es are = next_effect _ _ refl are

snd-reap : (slot who : ℕ) (untraced : Bool) (es : List Effect) → AreSound es → AreSound (on_processes (reap_child slot who untraced) ∷ es)
snd-reap slot who untraced es are = next_effect _ _ refl are

snd-pending : (slot : ℕ) (c : Option Call) (es : List Effect) → AreSound es → AreSound (on_processes (set_pending slot c) ∷ es)
snd-pending slot c es are = next_effect _ _ refl are

snd-tell : (slot : ℕ) (es : List Effect) → AreSound es → AreSound (on_processes (tell slot) ∷ es)
snd-tell slot es are = next_effect _ _ refl are

snd-post : (signal : Sig) (whom : To) (es : List Effect) → AreSound es → AreSound (on_processes (post signal whom) ∷ es)
snd-post signal whom es are = next_effect _ _ refl are

snd-fds : (slot : ℕ) (fds : List ℕ) → AreSound (procs.close_fds slot fds)
snd-fds slot [] = no_effect
snd-fds slot (fd ∷ fds) = next_effect _ _ refl (snd-fds slot fds)

snd-posts : (signal : Sig) (whom : List (Process Path)) → AreSound (signals.post_each signal whom)
snd-posts signal [] = no_effect
snd-posts signal (p ∷ ps) = next_effect _ _ refl (snd-posts signal ps)

ruleset sound = (no_effect, snd-append, snd-if, snd-tree, snd-pipe, snd-line, snd-file, snd-halt, snd-set, snd-fork, snd-reap, snd-pending, snd-tell, snd-post, snd-fds, snd-posts)

-- ---- rows

snd_read : (v : View) (slot fd max : ℕ) (f : OpenFile) (target : Target) → AreSound (io.read_target v slot fd max f target).effects
snd_read v slot fd max f (node path) = search sound
snd_read v slot fd max f (read_end k) = search sound
snd_read v slot fd max f (write_end k) = search sound
snd_read v slot fd max f (tty m) = search sound

snd_read_at : (v : View) (slot fd max : ℕ) (f : Option OpenFile) → AreSound (io.read_at v slot fd max f).effects
snd_read_at v slot fd max None = no_effect
snd_read_at v slot fd max (Some f) = snd_read v slot fd max f f.file.target

snd_write : (v : View) (slot fd : ℕ) (bs : List ℕ) (f : OpenFile) (target : Target) → AreSound (io.write_target v slot fd bs f target).effects
snd_write v slot fd bs f (node path) = search sound
snd_write v slot fd bs f (read_end k) = search sound
snd_write v slot fd bs f (write_end k) = search sound
snd_write v slot fd bs f (tty m) = search sound

snd_write_at : (v : View) (slot fd : ℕ) (bs : List ℕ) (f : Option OpenFile) → AreSound (io.write_at v slot fd bs f).effects
snd_write_at v slot fd bs None = no_effect
snd_write_at v slot fd bs (Some f) = snd_write v slot fd bs f f.file.target

snd_mkdir : (v : View) (slot mode : ℕ) (end : WalkEnd) → AreSound (dirs.mkdir_at v slot mode end).effects
snd_mkdir v slot mode (found place) = no_effect
snd_mkdir v slot mode (absent dir name) = search sound
snd_mkdir v slot mode missing = no_effect
snd_mkdir v slot mode not_dir = no_effect
snd_mkdir v slot mode name_long = no_effect
snd_mkdir v slot mode path_long = no_effect

snd_on_line : (row : ℕ → Row) (m : Option ℕ) → ((m : ℕ) → AreSound (row m).effects) → AreSound (ttys.on_line_row row m).effects
snd_on_line row None none = no_effect
snd_on_line row (Some m) none = none m

snd_setpgid : (v : View) (slot group : ℕ) (target : Option (Process Path)) → AreSound (procs.setpgid_on v slot group target).effects
snd_setpgid v slot group None = no_effect
snd_setpgid v slot group (Some target) = search sound

snd_sigtake : (slot : ℕ) (who : Process Path) (signal : Option Sig) → AreSound (signals.sigtake_of slot who signal).effects
snd_sigtake slot who None = no_effect
snd_sigtake slot who (Some signal) = search sound

snd_flush : (at : When) (m : ℕ) → AreSound (ttys.flush_first at m)
snd_flush when.Now m = no_effect
snd_flush when.Flush m = search sound

snd_dup2 : (v : View) (slot fd into : ℕ) → AreSound (opens.dup2_effects v slot fd into)
snd_dup2 v slot fd into = snd-if (fd == into) _ _ no_effect (search sound)

snd_tty : (slot : ℕ) (access : Access) (flags : OpenFlags) (m : Option ℕ) → AreSound (opens.tty_effects slot access flags m)
snd_tty slot access flags None = no_effect
snd_tty slot access flags (Some m) = search sound

snd_truncations : (place : Path) (flags : OpenFlags) (what : NodeRecord) → AreSound (opens.truncations place flags what)
snd_truncations place flags what = snd-if flags.truncate _ _ (search sound) no_effect

snd_kind : (v : View) (slot : ℕ) (place : Path) (access : Access) (flags : OpenFlags) (what : NodeRecord) (k : Kind)
    → AreSound (opens.kind_effects v slot place access flags what k)
snd_kind v slot place access flags what kind.File = snd-append _ _ (snd_truncations place flags what) (search sound)
snd_kind v slot place access flags what kind.Dir = no_effect
snd_kind v slot place access flags what (kind.Line m) = snd_tty slot access flags (Some m)
snd_kind v slot place access flags what kind.Tty = snd_tty slot access flags (opens.own_tty v slot)

snd_place : (v : View) (slot : ℕ) (place : Path) (access : Access) (flags : OpenFlags) (what : Option NodeRecord)
    → AreSound (opens.place_effects v slot place access flags what)
snd_place v slot place access flags None = no_effect
snd_place v slot place access flags (Some what) = snd_kind v slot place access flags what what.kind

snd_open : (v : View) (slot : ℕ) (access : Access) (flags : OpenFlags) (mode : ℕ) (end : WalkEnd)
    → AreSound (opens.open_at v slot access flags mode end).effects
snd_open v slot access flags mode (found place) = snd_place v slot place access flags (node_at v place)
snd_open v slot access flags mode (absent dir name) = search sound
snd_open v slot access flags mode missing = no_effect
snd_open v slot access flags mode not_dir = no_effect
snd_open v slot access flags mode name_long = no_effect
snd_open v slot access flags mode path_long = no_effect

snd_tell : (who : Process Path) (session : Option ℕ) → AreSound (ttys.tell_leader who session)
snd_tell who None = no_effect
snd_tell who (Some session) = snd-if (who.pid == session) _ _ no_effect (search sound)

snd_revoke : (v : View) (who : Process Path) (m : Option ℕ) → AreSound (ttys.revoke_effects v who m)
snd_revoke v who None = no_effect
snd_revoke v who (Some m) = snd-line _ _ (snd_tell who (line_of v m).session)

-- ---- calls

pub snd_call : (v : View) (slot : ℕ) (c : Call) → nat_lt slot SLOTS ≡ true → AreSound (call_row v slot c).effects
snd_call v slot (call.Open path access flags mode) below = snd_open v slot access flags mode (end_of v slot path)
snd_call v slot (call.Close fd) below = search sound
snd_call v slot (call.Dup fd) below = search sound
snd_call v slot (call.Dup2 fd into) below = snd_dup2 v slot fd into
snd_call v slot (call.Read fd max) below = snd_read_at v slot fd max (file_at v slot fd)
snd_call v slot (call.Write fd bytes) below = snd_write_at v slot fd bytes (file_at v slot fd)
snd_call v slot call.Pipe below = search sound
snd_call v slot (call.Chdir path) below = search sound
snd_call v slot (call.Mkdir path mode) below = snd_mkdir v slot mode (end_of v slot path)
snd_call v slot (call.Rmdir path) below = search sound
snd_call v slot (call.Unlink path) below = search sound
snd_call v slot (call.List path from) below = no_effect
snd_call v slot (call.Info path) below = no_effect
snd_call v slot (call.Chmod path mode) below = search sound
snd_call v slot (call.Chown path uid gid) below = search sound
snd_call v slot (call.SetAcl path which list) below = search sound
snd_call v slot (call.GetAcl path which) below = no_effect
snd_call v slot (call.SetLabel path element) below = search sound
snd_call v slot (call.GetLabel path) below = no_effect
snd_call v slot (call.SetProcLabel subject) below = search sound
snd_call v slot call.Ident below = no_effect
snd_call v slot (call.SetCred cred) below = search sound
snd_call v slot (call.Umask mode) below = search sound
snd_call v slot call.Begin below = search sound
snd_call v slot (call.Fork note) below = search sound
snd_call v slot (call.Exec path args) below = search sound
snd_call v slot (call.Exit status) below = next_effect _ _ below no_effect
snd_call v slot (call.Wait pid flags) below = search sound
snd_call v slot call.SetSid below = search sound
snd_call v slot (call.SetPgid pid group) below = snd_setpgid v slot group (setpgid_target v.processes (caller_of v slot) pid)
snd_call v slot call.Ps below = no_effect
snd_call v slot call.Halt below = search sound
snd_call v slot (call.Kill to signal) below = search sound
snd_call v slot (call.SigSet signal action) below = search sound
snd_call v slot call.SigTake below = snd_sigtake slot (caller_of v slot) (least_caught (caller_of v slot))
snd_call v slot call.Pause below = no_effect
snd_call v slot (call.SetCtty fd) below = snd_on_line (ttys.setctty_on v slot) (ttys.tty_at v slot fd) (λ m. search sound)
snd_call v slot (call.TcGetAttr fd) below = snd_on_line (λ m. only (text (termios_text (termios_of v m)))) (ttys.tty_at v slot fd) (λ m. no_effect)
snd_call v slot (call.TcSetAttr fd at termios) below =
    snd_on_line (ttys.tcsetattr_on v slot at termios) (ttys.tty_at v slot fd) (λ m. search (sound, snd_flush))
snd_call v slot (call.TcFlush fd which) below = snd_on_line (ttys.tcflush_on v slot which) (ttys.tty_at v slot fd) (λ m. search sound)
snd_call v slot (call.TcDrain fd) below = snd_on_line (ttys.tcdrain_on v slot) (ttys.tty_at v slot fd) (λ m. no_effect)
snd_call v slot (call.TcSetPgrp fd group) below = snd_on_line (ttys.tcsetpgrp_on v slot group) (ttys.tty_at v slot fd) (λ m. search sound)
snd_call v slot (call.TcGetPgrp fd) below = snd_on_line (ttys.tcgetpgrp_on v slot) (ttys.tty_at v slot fd) (λ m. no_effect)
snd_call v slot (call.FdName fd) below = no_effect
snd_call v slot (call.Revoke path) below = snd_revoke v (caller_of v slot) (ttys.tty_of_node (node_at v (path_at (end_of v slot path))))
