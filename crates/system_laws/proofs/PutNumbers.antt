-- Of all calls open(2), pipe(2), dup(2), dup2(2) and fork(2) alone put open files at numbers of slots.
use Rattle.std.proofs.Common.{◌≡◌, ℕ, zero, suc, ◌+◌, Bool, true, false, cond, length, List, [], ◌∷◌, ◌++◌, refl}
use Rattle.std.specs.Prelude.{◌==◌, Option, Some, None, slice_get}
use Rattle.sys_types.specs.declared.limits.TheConstants.{SLOTS}
use Rattle.sys_types.specs.declared.sig.Sig.{Sig}
use Rattle.call_words.specs.declared.call.Call.{Call}
use Rattle.call_words.specs.declared.call.Call.TheVariants as call
use Rattle.call_words.specs.declared.event.How.{How}
use Rattle.call_words.specs.declared.tty.When.{When}
use Rattle.call_words.specs.declared.tty.When.TheVariants as when
use Rattle.proc_table.specs.Processes.{Process, least_caught}
use Rattle.tree_model.specs.Paths.{path_at}
use Rattle.termios_core.specs.Text.{termios_text}
use Rattle.tree_model.specs.Tree.{WalkEnd, found, absent, missing, not_dir, name_long, path_long}
use Rattle.proc_table.specs.Jobs.{setpgid_target}
use Rattle.system_model.specs.Parts.{Path, Target, node, read_end, write_end, tty}
use Rattle.system_model.specs.State.{OpenFile, View}
use Rattle.system_model.specs.FileEffects.{FileEffect, open_file, copy_fd, close_fd, fork_fds, set_offset}
use Rattle.system_model.specs.PipeEffects.{PipeEffect}
use Rattle.system_model.specs.LineEffects.{LineEffect}
use Rattle.system_model.specs.TreeEffects.{TreeEffect}
use Rattle.system_model.specs.ProcessEffects.{ProcessEffect}
use Rattle.system_model.specs.Effects.{Effect, on_files, on_pipes, on_lines, on_tree, on_processes, halt, change_all}
use Rattle.system_model.specs.Rows.{Row, text, only, first}
use Rattle.system_model.specs.Looks.{caller_of, file_at, node_at, end_of, termios_of}
use Rattle.system_model.specs.IoCalls as io
use Rattle.system_model.specs.DirCalls as dirs
use Rattle.system_model.specs.ProcCalls as procs
use Rattle.system_model.specs.SignalCalls as signals
use Rattle.system_model.specs.TtyCalls as ttys
use Rattle.system_model.specs.Endings.{leave_line, leave_session, end_one, end_next, endings, endings_of}
use Rattle.system_model.specs.Step.{call_row}

abbrev pub file_puts : FileEffect → Bool
file_puts (open_file slot file on_exec) = true
file_puts (copy_fd slot from into) = true
file_puts (close_fd slot fd) = false
file_puts (fork_fds from into) = true
file_puts (set_offset slot fd offset) = false

-- the effect puts an open file at a number of a slot
abbrev pub puts_number : Effect → Bool
puts_number (on_files e) = file_puts e
puts_number (on_pipes e) = false
puts_number (on_lines e) = false
puts_number (on_tree e) = false
puts_number (on_processes e) = false
puts_number halt = false

-- none of the effects does
pub data NoPut : List Effect → Type 0 where
  no_put : NoPut []
  next_put : (e : Effect) (es : List Effect) → puts_number e ≡ false → NoPut es → NoPut (e ∷ es)

pub unput-append : (es fs : List Effect) → NoPut es → NoPut fs → NoPut (es ++ fs)
unput-append [] fs no_put none = none
unput-append (e ∷ es) fs (next_put _ _ is more) none = next_put e (es ++ fs) is (unput-append es fs more none)

pub unput-tree : (e : TreeEffect) (es : List Effect) → NoPut es → NoPut (on_tree e ∷ es)
unput-tree e es none = next_put _ _ refl none

pub unput-line : (e : LineEffect) (es : List Effect) → NoPut es → NoPut (on_lines e ∷ es)
unput-line e es none = next_put _ _ refl none

pub unput-pipe : (e : PipeEffect) (es : List Effect) → NoPut es → NoPut (on_pipes e ∷ es)
unput-pipe e es none = next_put _ _ refl none

pub unput-process : (e : ProcessEffect) (es : List Effect) → NoPut es → NoPut (on_processes e ∷ es)
unput-process e es none = next_put _ _ refl none

pub unput-halt : (es : List Effect) → NoPut es → NoPut (halt ∷ es)
unput-halt es none = next_put _ _ refl none

pub unput-close : (slot fd : ℕ) (es : List Effect) → NoPut es → NoPut (on_files (close_fd slot fd) ∷ es)
unput-close slot fd es none = next_put _ _ refl none

pub unput-offset : (slot fd offset : ℕ) (es : List Effect) → NoPut es → NoPut (on_files (set_offset slot fd offset) ∷ es)
unput-offset slot fd offset es none = next_put _ _ refl none

pub unput-fds : (slot : ℕ) (fds : List ℕ) → NoPut (procs.close_fds slot fds)
unput-fds slot [] = no_put
unput-fds slot (fd ∷ fds) = next_put _ _ refl (unput-fds slot fds)

pub unput-posts : (signal : Sig) (whom : List (Process Path)) → NoPut (signals.post_each signal whom)
unput-posts signal [] = no_put
unput-posts signal (p ∷ ps) = next_put _ _ refl (unput-posts signal ps)

pub unput-if : (t : Bool) (es fs : List Effect) → NoPut es → NoPut fs → NoPut (cond t es fs)
unput-if true es fs first second = first
unput-if false es fs first second = second

ruleset unput = (
  no_put,
  unput-append,
  unput-tree,
  unput-line,
  unput-pipe,
  unput-process,
  unput-halt,
  unput-close,
  unput-offset,
  unput-fds,
  unput-posts,
  unput-if,
)

-- ---- rows

unput_read : (v : View) (slot fd max : ℕ) (f : OpenFile) (target : Target) → NoPut (io.read_target v slot fd max f target).effects
unput_read v slot fd max f (node path) = search unput
unput_read v slot fd max f (read_end k) = search unput
unput_read v slot fd max f (write_end k) = search unput
unput_read v slot fd max f (tty n) = search unput

unput_read_at : (v : View) (slot fd max : ℕ) (f : Option OpenFile) → NoPut (io.read_at v slot fd max f).effects
unput_read_at v slot fd max None = no_put
unput_read_at v slot fd max (Some f) = unput_read v slot fd max f f.file.target

unput_write : (v : View) (slot fd : ℕ) (bs : List ℕ) (f : OpenFile) (target : Target) → NoPut (io.write_target v slot fd bs f target).effects
unput_write v slot fd bs f (node path) = search unput
unput_write v slot fd bs f (read_end k) = search unput
unput_write v slot fd bs f (write_end k) = search unput
unput_write v slot fd bs f (tty n) = search unput

unput_write_at : (v : View) (slot fd : ℕ) (bs : List ℕ) (f : Option OpenFile) → NoPut (io.write_at v slot fd bs f).effects
unput_write_at v slot fd bs None = no_put
unput_write_at v slot fd bs (Some f) = unput_write v slot fd bs f f.file.target

unput_mkdir : (v : View) (slot mode : ℕ) (end : WalkEnd) → NoPut (dirs.mkdir_at v slot mode end).effects
unput_mkdir v slot mode (found place) = no_put
unput_mkdir v slot mode (absent dir name) = search unput
unput_mkdir v slot mode missing = no_put
unput_mkdir v slot mode not_dir = no_put
unput_mkdir v slot mode name_long = no_put
unput_mkdir v slot mode path_long = no_put

unput_on_line : (row : ℕ → Row) (n : Option ℕ) → ((n : ℕ) → NoPut (row n).effects) → NoPut (ttys.on_line_row row n).effects
unput_on_line row None none = no_put
unput_on_line row (Some n) none = none n

unput_setpgid : (v : View) (slot group : ℕ) (target : Option (Process Path)) → NoPut (procs.setpgid_on v slot group target).effects
unput_setpgid v slot group None = no_put
unput_setpgid v slot group (Some target) = search unput

unput_sigtake : (slot : ℕ) (who : Process Path) (signal : Option Sig) → NoPut (signals.sigtake_of slot who signal).effects
unput_sigtake slot who None = no_put
unput_sigtake slot who (Some signal) = search unput

unput_flush : (at : When) (n : ℕ) → NoPut (ttys.flush_first at n)
unput_flush when.Now n = no_put
unput_flush when.Flush n = search unput

unput_leader : (who : Process Path) (session : Option ℕ) → NoPut (ttys.tell_leader who session)
unput_leader who None = no_put
unput_leader who (Some session) = unput-if (who.pid == session) _ _ no_put (unput-process _ _ no_put)

unput_revoke : (v : View) (who : Process Path) (n : Option ℕ) → NoPut (ttys.revoke_effects v who n)
unput_revoke v who None = no_put
unput_revoke v who (Some n) = search (unput, unput_leader)

-- ---- endings

unput_leave : (v : View) (n : Option ℕ) → NoPut (leave_line v n)
unput_leave v None = no_put
unput_leave v (Some n) = search unput

unput_session : (v : View) (who : Process Path) → NoPut (leave_session v who)
unput_session v who = unput-if (who.pid == who.session) _ _ (unput_leave v _) no_put

unput_one : (v : View) (slot : ℕ) (how : How) → NoPut (end_one v slot how)
unput_one v slot how = search (unput, unput_session)

unput_next : (v : View) (next : Option (ℕ × How)) → NoPut (end_next v next)
unput_next v None = no_put
unput_next v (Some next) = unput_one v next.0 next.1

unput_endings : (fuel place : ℕ) (v : View) → NoPut (endings fuel place v)
unfolding endings
unput_endings zero place v = no_put
unput_endings (suc fuel) place v = unput-append _ _ (unput_next v _) (unput_endings fuel (place + 1) (change_all v (end_next v (slice_get v.ending place))))

pub unput_endings_of : (v : View) → NoPut (endings_of v)
unput_endings_of v = unput-if (length v.ending == 0) _ _ no_put (unput-append _ _ (unput_endings SLOTS 0 v) (unput-process _ _ no_put))

-- the calls that do
abbrev pub is_maker : Call → Bool
is_maker (call.Open path access flags mode) = true
is_maker call.Pipe = true
is_maker (call.Dup fd) = true
is_maker (call.Dup2 fd into) = true
is_maker (call.Fork note) = true
is_maker _ = false

-- none of the others does
pub unput_call : (v : View) (slot : ℕ) (c : Call) → is_maker c ≡ false → NoPut (call_row v slot c).effects
unput_call v slot (call.Open path access flags mode) other = cc
unput_call v slot (call.Close fd) other = search unput
unput_call v slot (call.Dup fd) other = cc
unput_call v slot (call.Dup2 fd into) other = cc
unput_call v slot (call.Read fd max) other = unput_read_at v slot fd max (file_at v slot fd)
unput_call v slot (call.Write fd bytes) other = unput_write_at v slot fd bytes (file_at v slot fd)
unput_call v slot call.Pipe other = cc
unput_call v slot (call.Chdir path) other = search unput
unput_call v slot (call.Mkdir path mode) other = unput_mkdir v slot mode (end_of v slot path)
unput_call v slot (call.Rmdir path) other = search unput
unput_call v slot (call.Unlink path) other = search unput
unput_call v slot (call.List path from) other = no_put
unput_call v slot (call.Info path) other = no_put
unput_call v slot (call.Chmod path mode) other = search unput
unput_call v slot (call.Chown path uid gid) other = search unput
unput_call v slot (call.SetAcl path which list) other = search unput
unput_call v slot (call.GetAcl path which) other = no_put
unput_call v slot (call.SetLabel path element) other = search unput
unput_call v slot (call.GetLabel path) other = no_put
unput_call v slot (call.SetProcLabel subject) other = search unput
unput_call v slot call.Ident other = no_put
unput_call v slot (call.SetCred cred) other = search unput
unput_call v slot (call.Umask mode) other = search unput
unput_call v slot call.Begin other = search unput
unput_call v slot (call.Fork note) other = cc
unput_call v slot (call.Exec path args) other = search unput
unput_call v slot (call.Exit status) other = search unput
unput_call v slot (call.Wait pid flags) other = search unput
unput_call v slot call.SetSid other = search unput
unput_call v slot (call.SetPgid pid group) other = unput_setpgid v slot group (setpgid_target v.processes (caller_of v slot) pid)
unput_call v slot call.Ps other = no_put
unput_call v slot call.Halt other = search unput
unput_call v slot (call.Kill to signal) other = search unput
unput_call v slot (call.SigSet signal action) other = search unput
unput_call v slot call.SigTake other = unput_sigtake slot (caller_of v slot) (least_caught (caller_of v slot))
unput_call v slot call.Pause other = no_put
unput_call v slot (call.SetCtty fd) other = unput_on_line (ttys.setctty_on v slot) (ttys.tty_at v slot fd) (λ n. search unput)
unput_call v slot (call.TcGetAttr fd) other = unput_on_line (λ n. only (text (termios_text (termios_of v n)))) (ttys.tty_at v slot fd) (λ n. no_put)
unput_call v slot (call.TcSetAttr fd at termios) other =
    unput_on_line (ttys.tcsetattr_on v slot at termios) (ttys.tty_at v slot fd) (λ n. search (unput, unput_flush))
unput_call v slot (call.TcFlush fd which) other = unput_on_line (ttys.tcflush_on v slot which) (ttys.tty_at v slot fd) (λ n. search unput)
unput_call v slot (call.TcDrain fd) other = unput_on_line (ttys.tcdrain_on v slot) (ttys.tty_at v slot fd) (λ n. no_put)
unput_call v slot (call.TcSetPgrp fd group) other = unput_on_line (ttys.tcsetpgrp_on v slot group) (ttys.tty_at v slot fd) (λ n. search unput)
unput_call v slot (call.TcGetPgrp fd) other = unput_on_line (ttys.tcgetpgrp_on v slot) (ttys.tty_at v slot fd) (λ n. no_put)
unput_call v slot (call.FdName fd) other = no_put
unput_call v slot (call.Revoke path) other = unput_revoke v (caller_of v slot) (ttys.tty_of_node (node_at v (path_at (end_of v slot path))))
