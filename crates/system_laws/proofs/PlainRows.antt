-- Of all calls fork alone makes a process, and none says in which call a slot waits.
use Rattle.std.proofs.Common.{◌≡◌, ℕ, Bool, true, false, cond, List, [], ◌∷◌, ◌++◌, refl}
use Rattle.std.specs.Prelude.{◌==◌, Option, Some, None, is_none}
use Rattle.sys_types.specs.declared.sig.Sig.{Sig}
use Rattle.call_words.specs.declared.call.Call.{Call}
use Rattle.call_words.specs.declared.call.Call.TheVariants as call
use Rattle.call_words.specs.declared.signal.To.{To}
use Rattle.call_words.specs.declared.tty.When.{When}
use Rattle.call_words.specs.declared.tty.When.TheVariants as when
use Rattle.proc_table.specs.Processes.{Process, least_caught}
use Rattle.tree_model.specs.Paths.{path_at}
use Rattle.termios_core.specs.Text.{termios_text}
use Rattle.sys_types.specs.declared.node.Kind.{Kind}
use Rattle.sys_types.specs.declared.node.Kind.TheVariants as kind
use Rattle.call_words.specs.declared.open.Access.{Access}
use Rattle.call_words.specs.declared.open.OpenFlags.{OpenFlags}
use Rattle.tree_model.specs.Tree.{NodeRecord, WalkEnd, found, absent, missing, not_dir, name_long, path_long}
use Rattle.proc_table.specs.Jobs.{setpgid_target}
use Rattle.system_model.specs.Parts.{Path, Target, node, read_end, write_end, tty}
use Rattle.system_model.specs.State.{OpenFile, View}
use Rattle.system_model.specs.FileEffects.{FileEffect}
use Rattle.system_model.specs.PipeEffects.{PipeEffect}
use Rattle.system_model.specs.LineEffects.{LineEffect}
use Rattle.system_model.specs.TreeEffects.{TreeEffect}
use Rattle.system_model.specs.ProcessEffects.{set_process, fork_process, reap_child, set_pending, tell, post}
use Rattle.system_model.specs.Effects.{Effect, on_files, on_pipes, on_lines, on_tree, on_processes, halt}
use Rattle.system_model.specs.Rows.{Row, text, only, first}
use Rattle.system_model.specs.Looks.{caller_of, line_of, file_at, node_at, end_of, termios_of}
use Rattle.system_model.specs.OpenCalls as opens
use Rattle.system_model.specs.IoCalls as io
use Rattle.system_model.specs.DirCalls as dirs
use Rattle.system_model.specs.ProcCalls as procs
use Rattle.system_model.specs.SignalCalls as signals
use Rattle.system_model.specs.TtyCalls as ttys
use Rattle.system_model.specs.Step.{call_row}

-- an effect makes no process, and leaves the calls that slots wait in
abbrev pub is_plain : Effect → Bool
is_plain (on_processes (fork_process slot note)) = false
is_plain (on_processes (set_pending slot c)) = is_none c
is_plain _ = true

abbrev pub is_fork : Call → Bool
is_fork (call.Fork note) = true
is_fork _ = false

-- each of some effects
pub data ArePlain : List Effect → Type 0 where
  no_effect : ArePlain []
  next_effect : (e : Effect) (es : List Effect) → is_plain e ≡ true → ArePlain es → ArePlain (e ∷ es)

pub pln-append : (es fs : List Effect) → ArePlain es → ArePlain fs → ArePlain (es ++ fs)
pln-append [] fs no_effect none = none
pln-append (e ∷ es) fs (next_effect _ _ is more) none = next_effect e (es ++ fs) is (pln-append es fs more none)

pub pln-if : (t : Bool) (es fs : List Effect) → ArePlain es → ArePlain fs → ArePlain (cond t es fs)
pln-if true es fs first second = first
pln-if false es fs first second = second

pln-tree : (e : TreeEffect) (es : List Effect) → ArePlain es → ArePlain (on_tree e ∷ es)
pln-tree e es are = next_effect _ _ refl are

pln-pipe : (e : PipeEffect) (es : List Effect) → ArePlain es → ArePlain (on_pipes e ∷ es)
pln-pipe e es are = next_effect _ _ refl are

pln-line : (e : LineEffect) (es : List Effect) → ArePlain es → ArePlain (on_lines e ∷ es)
pln-line e es are = next_effect _ _ refl are

pln-file : (e : FileEffect) (es : List Effect) → ArePlain es → ArePlain (on_files e ∷ es)
pln-file e es are = next_effect _ _ refl are

pln-halt : (es : List Effect) → ArePlain es → ArePlain (halt ∷ es)
pln-halt es are = next_effect _ _ refl are

pln-set : (slot : ℕ) (p : Process Path) (es : List Effect) → ArePlain es → ArePlain (on_processes (set_process slot p) ∷ es)
pln-set slot p es are = next_effect _ _ refl are

pln-reap : (slot who : ℕ) (untraced : Bool) (es : List Effect) → ArePlain es → ArePlain (on_processes (reap_child slot who untraced) ∷ es)
pln-reap slot who untraced es are = next_effect _ _ refl are

pln-tell : (slot : ℕ) (es : List Effect) → ArePlain es → ArePlain (on_processes (tell slot) ∷ es)
pln-tell slot es are = next_effect _ _ refl are

pln-post : (signal : Sig) (whom : To) (es : List Effect) → ArePlain es → ArePlain (on_processes (post signal whom) ∷ es)
pln-post signal whom es are = next_effect _ _ refl are

pub pln-fds : (slot : ℕ) (fds : List ℕ) → ArePlain (procs.close_fds slot fds)
pln-fds slot [] = no_effect
pln-fds slot (fd ∷ fds) = next_effect _ _ refl (pln-fds slot fds)

pln-posts : (signal : Sig) (whom : List (Process Path)) → ArePlain (signals.post_each signal whom)
pln-posts signal [] = no_effect
pln-posts signal (p ∷ ps) = next_effect _ _ refl (pln-posts signal ps)

ruleset plain = (no_effect, pln-append, pln-if, pln-tree, pln-pipe, pln-line, pln-file, pln-halt, pln-set, pln-reap, pln-tell, pln-post, pln-fds, pln-posts)

-- ---- rows

pln_read : (v : View) (slot fd max : ℕ) (f : OpenFile) (target : Target) → ArePlain (io.read_target v slot fd max f target).effects
pln_read v slot fd max f (node path) = search plain
pln_read v slot fd max f (read_end k) = search plain
pln_read v slot fd max f (write_end k) = search plain
pln_read v slot fd max f (tty m) = search plain

pln_read_at : (v : View) (slot fd max : ℕ) (f : Option OpenFile) → ArePlain (io.read_at v slot fd max f).effects
pln_read_at v slot fd max None = no_effect
pln_read_at v slot fd max (Some f) = pln_read v slot fd max f f.file.target

pln_write : (v : View) (slot fd : ℕ) (bs : List ℕ) (f : OpenFile) (target : Target) → ArePlain (io.write_target v slot fd bs f target).effects
pln_write v slot fd bs f (node path) = search plain
pln_write v slot fd bs f (read_end k) = search plain
pln_write v slot fd bs f (write_end k) = search plain
pln_write v slot fd bs f (tty m) = search plain

pln_write_at : (v : View) (slot fd : ℕ) (bs : List ℕ) (f : Option OpenFile) → ArePlain (io.write_at v slot fd bs f).effects
pln_write_at v slot fd bs None = no_effect
pln_write_at v slot fd bs (Some f) = pln_write v slot fd bs f f.file.target

pln_mkdir : (v : View) (slot mode : ℕ) (end : WalkEnd) → ArePlain (dirs.mkdir_at v slot mode end).effects
pln_mkdir v slot mode (found place) = no_effect
pln_mkdir v slot mode (absent dir name) = search plain
pln_mkdir v slot mode missing = no_effect
pln_mkdir v slot mode not_dir = no_effect
pln_mkdir v slot mode name_long = no_effect
pln_mkdir v slot mode path_long = no_effect

pln_on_line : (row : ℕ → Row) (m : Option ℕ) → ((m : ℕ) → ArePlain (row m).effects) → ArePlain (ttys.on_line_row row m).effects
pln_on_line row None none = no_effect
pln_on_line row (Some m) none = none m

pln_setpgid : (v : View) (slot group : ℕ) (target : Option (Process Path)) → ArePlain (procs.setpgid_on v slot group target).effects
pln_setpgid v slot group None = no_effect
pln_setpgid v slot group (Some target) = search plain

pln_sigtake : (slot : ℕ) (who : Process Path) (signal : Option Sig) → ArePlain (signals.sigtake_of slot who signal).effects
pln_sigtake slot who None = no_effect
pln_sigtake slot who (Some signal) = search plain

pln_flush : (at : When) (m : ℕ) → ArePlain (ttys.flush_first at m)
pln_flush when.Now m = no_effect
pln_flush when.Flush m = search plain

pln_dup2 : (v : View) (slot fd into : ℕ) → ArePlain (opens.dup2_effects v slot fd into)
pln_dup2 v slot fd into = pln-if (fd == into) _ _ no_effect (search plain)

pln_tty : (slot : ℕ) (access : Access) (flags : OpenFlags) (m : Option ℕ) → ArePlain (opens.tty_effects slot access flags m)
pln_tty slot access flags None = no_effect
pln_tty slot access flags (Some m) = search plain

pln_truncations : (place : Path) (flags : OpenFlags) (what : NodeRecord) → ArePlain (opens.truncations place flags what)
pln_truncations place flags what = pln-if flags.truncate _ _ (search plain) no_effect

pln_kind : (v : View) (slot : ℕ) (place : Path) (access : Access) (flags : OpenFlags) (what : NodeRecord) (k : Kind)
    → ArePlain (opens.kind_effects v slot place access flags what k)
pln_kind v slot place access flags what kind.File = pln-append _ _ (pln_truncations place flags what) (search plain)
pln_kind v slot place access flags what kind.Dir = no_effect
pln_kind v slot place access flags what (kind.Line m) = pln_tty slot access flags (Some m)
pln_kind v slot place access flags what kind.Tty = pln_tty slot access flags (opens.own_tty v slot)

pln_place : (v : View) (slot : ℕ) (place : Path) (access : Access) (flags : OpenFlags) (what : Option NodeRecord)
    → ArePlain (opens.place_effects v slot place access flags what)
pln_place v slot place access flags None = no_effect
pln_place v slot place access flags (Some what) = pln_kind v slot place access flags what what.kind

pln_open : (v : View) (slot : ℕ) (access : Access) (flags : OpenFlags) (mode : ℕ) (end : WalkEnd)
    → ArePlain (opens.open_at v slot access flags mode end).effects
pln_open v slot access flags mode (found place) = pln_place v slot place access flags (node_at v place)
pln_open v slot access flags mode (absent dir name) = search plain
pln_open v slot access flags mode missing = no_effect
pln_open v slot access flags mode not_dir = no_effect
pln_open v slot access flags mode name_long = no_effect
pln_open v slot access flags mode path_long = no_effect

pln_tell : (who : Process Path) (session : Option ℕ) → ArePlain (ttys.tell_leader who session)
pln_tell who None = no_effect
pln_tell who (Some session) = pln-if (who.pid == session) _ _ no_effect (search plain)

pln_revoke : (v : View) (who : Process Path) (m : Option ℕ) → ArePlain (ttys.revoke_effects v who m)
pln_revoke v who None = no_effect
pln_revoke v who (Some m) = pln-line _ _ (pln_tell who (line_of v m).session)

-- ---- calls

pub pln_call : (v : View) (slot : ℕ) (c : Call) → is_fork c ≡ false → ArePlain (call_row v slot c).effects
pln_call v slot (call.Open path access flags mode) other = pln_open v slot access flags mode (end_of v slot path)
pln_call v slot (call.Close fd) other = search plain
pln_call v slot (call.Dup fd) other = search plain
pln_call v slot (call.Dup2 fd into) other = pln_dup2 v slot fd into
pln_call v slot (call.Read fd max) other = pln_read_at v slot fd max (file_at v slot fd)
pln_call v slot (call.Write fd bytes) other = pln_write_at v slot fd bytes (file_at v slot fd)
pln_call v slot call.Pipe other = search plain
pln_call v slot (call.Chdir path) other = search plain
pln_call v slot (call.Mkdir path mode) other = pln_mkdir v slot mode (end_of v slot path)
pln_call v slot (call.Rmdir path) other = search plain
pln_call v slot (call.Unlink path) other = search plain
pln_call v slot (call.List path from) other = no_effect
pln_call v slot (call.Info path) other = no_effect
pln_call v slot (call.Chmod path mode) other = search plain
pln_call v slot (call.Chown path uid gid) other = search plain
pln_call v slot (call.SetAcl path which list) other = search plain
pln_call v slot (call.GetAcl path which) other = no_effect
pln_call v slot (call.SetLabel path element) other = search plain
pln_call v slot (call.GetLabel path) other = no_effect
pln_call v slot (call.SetProcLabel subject) other = search plain
pln_call v slot call.Ident other = no_effect
pln_call v slot (call.SetCred cred) other = search plain
pln_call v slot (call.Umask mode) other = search plain
pln_call v slot call.Begin other = search plain
pln_call v slot (call.Fork note) other = cc
pln_call v slot (call.Exec path args) other = search plain
pln_call v slot (call.Exit status) other = next_effect _ _ refl no_effect
pln_call v slot (call.Wait pid flags) other = search plain
pln_call v slot call.SetSid other = search plain
pln_call v slot (call.SetPgid pid group) other = pln_setpgid v slot group (setpgid_target v.processes (caller_of v slot) pid)
pln_call v slot call.Ps other = no_effect
pln_call v slot call.Halt other = search plain
pln_call v slot (call.Kill to signal) other = search plain
pln_call v slot (call.SigSet signal action) other = search plain
pln_call v slot call.SigTake other = pln_sigtake slot (caller_of v slot) (least_caught (caller_of v slot))
pln_call v slot call.Pause other = no_effect
pln_call v slot (call.SetCtty fd) other = pln_on_line (ttys.setctty_on v slot) (ttys.tty_at v slot fd) (λ m. search plain)
pln_call v slot (call.TcGetAttr fd) other = pln_on_line (λ m. only (text (termios_text (termios_of v m)))) (ttys.tty_at v slot fd) (λ m. no_effect)
pln_call v slot (call.TcSetAttr fd at termios) other =
    pln_on_line (ttys.tcsetattr_on v slot at termios) (ttys.tty_at v slot fd) (λ m. search (plain, pln_flush))
pln_call v slot (call.TcFlush fd which) other = pln_on_line (ttys.tcflush_on v slot which) (ttys.tty_at v slot fd) (λ m. search plain)
pln_call v slot (call.TcDrain fd) other = pln_on_line (ttys.tcdrain_on v slot) (ttys.tty_at v slot fd) (λ m. no_effect)
pln_call v slot (call.TcSetPgrp fd group) other = pln_on_line (ttys.tcsetpgrp_on v slot group) (ttys.tty_at v slot fd) (λ m. search plain)
pln_call v slot (call.TcGetPgrp fd) other = pln_on_line (ttys.tcgetpgrp_on v slot) (ttys.tty_at v slot fd) (λ m. no_effect)
pln_call v slot (call.FdName fd) other = no_effect
pln_call v slot (call.Revoke path) other = pln_revoke v (caller_of v slot) (ttys.tty_of_node (node_at v (path_at (end_of v slot path))))
