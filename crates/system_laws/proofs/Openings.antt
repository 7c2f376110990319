-- Of all calls open(2) and pipe(2) alone open files, and they revoke nothing; so what an event revokes was opened before it.
use Rattle.std.proofs.Common.{◌≡◌, ℕ, zero, suc, ◌+◌, Bool, true, false, cond, length, ◌⊎◌, inl, inr, List, [], ◌∷◌, ◌++◌, refl}
use Rattle.std.specs.Prelude.{◌==◌, Option, Some, None, slice_get}
use Rattle.sys_types.specs.declared.limits.TheConstants.{SLOTS}
use Rattle.sys_types.specs.declared.sig.Sig.{Sig}
use Rattle.call_words.specs.declared.call.Call.{Call}
use Rattle.call_words.specs.declared.call.Call.TheVariants as call
use Rattle.call_words.specs.declared.event.How.{How}
use Rattle.call_words.specs.declared.tty.When.{When}
use Rattle.call_words.specs.declared.tty.When.TheVariants as when
use Rattle.proc_table.specs.Processes.{Process, least_caught}
use Rattle.tree_model.specs.Contents.{with_contents}
use Rattle.tree_model.specs.Paths.{path_at}
use Rattle.termios_core.specs.Text.{termios_text}
use Rattle.sys_types.specs.declared.node.Kind.{Kind}
use Rattle.sys_types.specs.declared.node.Kind.TheVariants as kind
use Rattle.call_words.specs.declared.open.Access.{Access}
use Rattle.call_words.specs.declared.open.OpenFlags.{OpenFlags}
use Rattle.tree_model.specs.Tree.{NodeRecord, WalkEnd, found, absent, missing, not_dir, name_long, path_long}
use Rattle.proc_table.specs.Jobs.{setpgid_target}
use Rattle.system_model.specs.Parts.{Path, Target, node, read_end, write_end, tty}
use Rattle.system_model.specs.State.{OpenFile, View}
use Rattle.system_model.specs.FileEffects.{FileEffect, open_file, copy_fd, close_fd, fork_fds, set_offset}
use Rattle.system_model.specs.PipeEffects.{PipeEffect}
use Rattle.system_model.specs.LineEffects.{LineEffect}
use Rattle.system_model.specs.TreeEffects.{TreeEffect, set_node}
use Rattle.system_model.specs.ProcessEffects.{ProcessEffect, set_process, fork_process, reap_child, set_pending, tell, post, add_ending, bury, clear_ending}
use Rattle.system_model.specs.Effects.{Effect, on_files, on_pipes, on_lines, on_tree, on_processes, halt, change_all}
use Rattle.system_model.specs.Rows.{Row, text, only, first}
use Rattle.system_model.specs.Looks.{caller_of, file_at, node_at, end_of, termios_of}
use Rattle.system_model.specs.OpenCalls as opens
use Rattle.system_model.specs.IoCalls as io
use Rattle.system_model.specs.DirCalls as dirs
use Rattle.system_model.specs.ProcCalls as procs
use Rattle.system_model.specs.SignalCalls as signals
use Rattle.system_model.specs.TtyCalls as ttys
use Rattle.system_model.specs.Endings.{leave_line, leave_session, end_one, end_next, endings, endings_of}
use Rattle.system_model.specs.Step.{call_row}
use Rattle.system_laws.proofs.LineSteps.{is_calm_line}

abbrev pub file_opens : FileEffect → Bool
file_opens (open_file slot file on_exec) = true
file_opens (copy_fd slot from into) = false
file_opens (close_fd slot fd) = false
file_opens (fork_fds from into) = false
file_opens (set_offset slot fd offset) = false

-- the effect opens a file
abbrev pub opens_file : Effect → Bool
opens_file (on_files e) = file_opens e
opens_file (on_pipes e) = false
opens_file (on_lines e) = false
opens_file (on_tree e) = false
opens_file (on_processes e) = false
opens_file halt = false

-- none of the effects does
pub data NoOpen : List Effect → Type 0 where
  no_effect : NoOpen []
  next_effect : (e : Effect) (es : List Effect) → opens_file e ≡ false → NoOpen es → NoOpen (e ∷ es)

pub open-append : (es fs : List Effect) → NoOpen es → NoOpen fs → NoOpen (es ++ fs)
open-append [] fs no_effect none = none
open-append (e ∷ es) fs (next_effect _ _ is more) none = next_effect e (es ++ fs) is (open-append es fs more none)

pub open-tree : (e : TreeEffect) (es : List Effect) → NoOpen es → NoOpen (on_tree e ∷ es)
open-tree e es none = next_effect _ _ refl none

pub open-line : (e : LineEffect) (es : List Effect) → NoOpen es → NoOpen (on_lines e ∷ es)
open-line e es none = next_effect _ _ refl none

pub open-pipe : (e : PipeEffect) (es : List Effect) → NoOpen es → NoOpen (on_pipes e ∷ es)
open-pipe e es none = next_effect _ _ refl none

pub open-process : (e : ProcessEffect) (es : List Effect) → NoOpen es → NoOpen (on_processes e ∷ es)
open-process e es none = next_effect _ _ refl none

pub open-halt : (es : List Effect) → NoOpen es → NoOpen (halt ∷ es)
open-halt es none = next_effect _ _ refl none

pub open-copy : (slot from into : ℕ) (es : List Effect) → NoOpen es → NoOpen (on_files (copy_fd slot from into) ∷ es)
open-copy slot from into es none = next_effect _ _ refl none

pub open-close : (slot fd : ℕ) (es : List Effect) → NoOpen es → NoOpen (on_files (close_fd slot fd) ∷ es)
open-close slot fd es none = next_effect _ _ refl none

pub open-fork : (from into : ℕ) (es : List Effect) → NoOpen es → NoOpen (on_files (fork_fds from into) ∷ es)
open-fork from into es none = next_effect _ _ refl none

pub open-offset : (slot fd offset : ℕ) (es : List Effect) → NoOpen es → NoOpen (on_files (set_offset slot fd offset) ∷ es)
open-offset slot fd offset es none = next_effect _ _ refl none

pub open-fds : (slot : ℕ) (fds : List ℕ) → NoOpen (procs.close_fds slot fds)
open-fds slot [] = no_effect
open-fds slot (fd ∷ fds) = next_effect _ _ refl (open-fds slot fds)

pub open-posts : (signal : Sig) (whom : List (Process Path)) → NoOpen (signals.post_each signal whom)
open-posts signal [] = no_effect
open-posts signal (p ∷ ps) = next_effect _ _ refl (open-posts signal ps)

pub open-if : (t : Bool) (es fs : List Effect) → NoOpen es → NoOpen fs → NoOpen (cond t es fs)
open-if true es fs first second = first
open-if false es fs first second = second

ruleset unopened = (
  no_effect,
  open-append,
  open-tree,
  open-line,
  open-pipe,
  open-process,
  open-halt,
  open-copy,
  open-close,
  open-fork,
  open-offset,
  open-fds,
  open-posts,
  open-if,
)

-- ---- rows

open_read : (v : View) (slot fd max : ℕ) (f : OpenFile) (target : Target) → NoOpen (io.read_target v slot fd max f target).effects
open_read v slot fd max f (node path) = search unopened
open_read v slot fd max f (read_end k) = search unopened
open_read v slot fd max f (write_end k) = search unopened
open_read v slot fd max f (tty n) = search unopened

open_read_at : (v : View) (slot fd max : ℕ) (f : Option OpenFile) → NoOpen (io.read_at v slot fd max f).effects
open_read_at v slot fd max None = no_effect
open_read_at v slot fd max (Some f) = open_read v slot fd max f f.file.target

open_write : (v : View) (slot fd : ℕ) (bs : List ℕ) (f : OpenFile) (target : Target) → NoOpen (io.write_target v slot fd bs f target).effects
open_write v slot fd bs f (node path) = search unopened
open_write v slot fd bs f (read_end k) = search unopened
open_write v slot fd bs f (write_end k) = search unopened
open_write v slot fd bs f (tty n) = search unopened

open_write_at : (v : View) (slot fd : ℕ) (bs : List ℕ) (f : Option OpenFile) → NoOpen (io.write_at v slot fd bs f).effects
open_write_at v slot fd bs None = no_effect
open_write_at v slot fd bs (Some f) = open_write v slot fd bs f f.file.target

open_mkdir : (v : View) (slot mode : ℕ) (end : WalkEnd) → NoOpen (dirs.mkdir_at v slot mode end).effects
open_mkdir v slot mode (found place) = no_effect
open_mkdir v slot mode (absent dir name) = search unopened
open_mkdir v slot mode missing = no_effect
open_mkdir v slot mode not_dir = no_effect
open_mkdir v slot mode name_long = no_effect
open_mkdir v slot mode path_long = no_effect

open_on_line : (row : ℕ → Row) (n : Option ℕ) → ((n : ℕ) → NoOpen (row n).effects) → NoOpen (ttys.on_line_row row n).effects
open_on_line row None none = no_effect
open_on_line row (Some n) none = none n

open_setpgid : (v : View) (slot group : ℕ) (target : Option (Process Path)) → NoOpen (procs.setpgid_on v slot group target).effects
open_setpgid v slot group None = no_effect
open_setpgid v slot group (Some target) = search unopened

open_sigtake : (slot : ℕ) (who : Process Path) (signal : Option Sig) → NoOpen (signals.sigtake_of slot who signal).effects
open_sigtake slot who None = no_effect
open_sigtake slot who (Some signal) = search unopened

open_flush : (at : When) (n : ℕ) → NoOpen (ttys.flush_first at n)
open_flush when.Now n = no_effect
open_flush when.Flush n = search unopened

open_leader : (who : Process Path) (session : Option ℕ) → NoOpen (ttys.tell_leader who session)
open_leader who None = no_effect
open_leader who (Some session) = open-if (who.pid == session) _ _ no_effect (open-process _ _ no_effect)

open_revoke : (v : View) (who : Process Path) (n : Option ℕ) → NoOpen (ttys.revoke_effects v who n)
open_revoke v who None = no_effect
open_revoke v who (Some n) = search (unopened, open_leader)

open_dup2 : (v : View) (slot fd into : ℕ) → NoOpen (opens.dup2_effects v slot fd into)
open_dup2 v slot fd into = open-if (fd == into) _ _ no_effect (search unopened)

-- ---- endings

open_leave : (v : View) (n : Option ℕ) → NoOpen (leave_line v n)
open_leave v None = no_effect
open_leave v (Some n) = search unopened

open_session : (v : View) (who : Process Path) → NoOpen (leave_session v who)
open_session v who = open-if (who.pid == who.session) _ _ (open_leave v _) no_effect

open_one : (v : View) (slot : ℕ) (how : How) → NoOpen (end_one v slot how)
open_one v slot how = search (unopened, open_session)

open_next : (v : View) (next : Option (ℕ × How)) → NoOpen (end_next v next)
open_next v None = no_effect
open_next v (Some next) = open_one v next.0 next.1

open_endings : (fuel place : ℕ) (v : View) → NoOpen (endings fuel place v)
unfolding endings
open_endings zero place v = no_effect
open_endings (suc fuel) place v = open-append _ _ (open_next v _) (open_endings fuel (place + 1) (change_all v (end_next v (slice_get v.ending place))))

pub open_endings_of : (v : View) → NoOpen (endings_of v)
open_endings_of v = open-if (length v.ending == 0) _ _ no_effect (open-append _ _ (open_endings SLOTS 0 v) (open-process _ _ no_effect))

-- ---- all calls

-- the effect revokes nothing and ends nobody
abbrev pub is_calm_process : ProcessEffect → Bool
is_calm_process (set_process slot process) = false
is_calm_process (fork_process slot note) = false
is_calm_process (reap_child slot who untraced) = false
is_calm_process (set_pending slot call) = true
is_calm_process (tell slot) = false
is_calm_process (post signal to) = false
is_calm_process (add_ending slot how) = false
is_calm_process (bury slot how) = false
is_calm_process clear_ending = false

abbrev pub is_calm : Effect → Bool
is_calm (on_files e) = true
is_calm (on_pipes e) = true
is_calm (on_lines e) = is_calm_line e
is_calm (on_tree e) = true
is_calm (on_processes e) = is_calm_process e
is_calm halt = true

pub data Calm : List Effect → Type 0 where
  calm_end : Calm []
  calm_next : (e : Effect) (es : List Effect) → is_calm e ≡ true → Calm es → Calm (e ∷ es)

pub calm-append : (es fs : List Effect) → Calm es → Calm fs → Calm (es ++ fs)
calm-append [] fs calm_end calm = calm
calm-append (e ∷ es) fs (calm_next _ _ is more) calm = calm_next e (es ++ fs) is (calm-append es fs more calm)

calm_tty : (slot : ℕ) (access : Access) (flags : OpenFlags) (n : Option ℕ) → Calm (opens.tty_effects slot access flags n)
calm_tty slot access flags None = calm_end
calm_tty slot access flags (Some n) = calm_next _ _ refl (calm_next _ _ refl calm_end)

calm_truncations : (place : Path) (flags : OpenFlags) (what : NodeRecord) → Calm (opens.truncations place flags what)
calm_truncations place flags what = by_case flags.truncate
  where
    by_case : (t : Bool) → Calm (cond t (on_tree (set_node place (Some (with_contents [] what))) ∷ []) [])
    by_case true = calm_next _ _ refl calm_end
    by_case false = calm_end

calm_kind : (v : View) (slot : ℕ) (place : Path) (access : Access) (flags : OpenFlags) (what : NodeRecord) (k : Kind)
    → Calm (opens.kind_effects v slot place access flags what k)
calm_kind v slot place access flags what kind.File = calm-append _ _ (calm_truncations place flags what) (calm_next _ _ refl calm_end)
calm_kind v slot place access flags what kind.Dir = calm_end
calm_kind v slot place access flags what (kind.Line n) = calm_tty slot access flags (Some n)
calm_kind v slot place access flags what kind.Tty = calm_tty slot access flags (opens.own_tty v slot)

calm_place : (v : View) (slot : ℕ) (place : Path) (access : Access) (flags : OpenFlags) (what : Option NodeRecord)
    → Calm (opens.place_effects v slot place access flags what)
calm_place v slot place access flags None = calm_end
calm_place v slot place access flags (Some what) = calm_kind v slot place access flags what what.kind

pub calm_open : (v : View) (slot : ℕ) (access : Access) (flags : OpenFlags) (mode : ℕ) (end : WalkEnd)
    → Calm (opens.open_at v slot access flags mode end).effects
calm_open v slot access flags mode (found place) = calm_place v slot place access flags (node_at v place)
calm_open v slot access flags mode (absent dir name) = calm_next _ _ refl (calm_next _ _ refl calm_end)
calm_open v slot access flags mode missing = calm_end
calm_open v slot access flags mode not_dir = calm_end
calm_open v slot access flags mode name_long = calm_end
calm_open v slot access flags mode path_long = calm_end

-- effects open no file, or they revoke nothing and end nobody
unfoldable pub Ordered : List Effect → Type 0
Ordered es = NoOpen es ⊎ Calm es

-- the calls that open files
abbrev pub is_opener : Call → Bool
is_opener (call.Open path access flags mode) = true
is_opener call.Pipe = true
is_opener _ = false

-- none of the others does
pub unopened_call : (v : View) (slot : ℕ) (c : Call) → is_opener c ≡ false → NoOpen (call_row v slot c).effects
unopened_call v slot (call.Open path access flags mode) other = cc
unopened_call v slot (call.Close fd) other = search unopened
unopened_call v slot (call.Dup fd) other = search unopened
unopened_call v slot (call.Dup2 fd into) other = open_dup2 v slot fd into
unopened_call v slot (call.Read fd max) other = open_read_at v slot fd max (file_at v slot fd)
unopened_call v slot (call.Write fd bytes) other = open_write_at v slot fd bytes (file_at v slot fd)
unopened_call v slot call.Pipe other = cc
unopened_call v slot (call.Chdir path) other = search unopened
unopened_call v slot (call.Mkdir path mode) other = open_mkdir v slot mode (end_of v slot path)
unopened_call v slot (call.Rmdir path) other = search unopened
unopened_call v slot (call.Unlink path) other = search unopened
unopened_call v slot (call.List path from) other = no_effect
unopened_call v slot (call.Info path) other = no_effect
unopened_call v slot (call.Chmod path mode) other = search unopened
unopened_call v slot (call.Chown path uid gid) other = search unopened
unopened_call v slot (call.SetAcl path which list) other = search unopened
unopened_call v slot (call.GetAcl path which) other = no_effect
unopened_call v slot (call.SetLabel path element) other = search unopened
unopened_call v slot (call.GetLabel path) other = no_effect
unopened_call v slot (call.SetProcLabel subject) other = search unopened
unopened_call v slot call.Ident other = no_effect
unopened_call v slot (call.SetCred cred) other = search unopened
unopened_call v slot (call.Umask mode) other = search unopened
unopened_call v slot call.Begin other = search unopened
unopened_call v slot (call.Fork note) other = search unopened
unopened_call v slot (call.Exec path args) other = search unopened
unopened_call v slot (call.Exit status) other = search unopened
unopened_call v slot (call.Wait pid flags) other = search unopened
unopened_call v slot call.SetSid other = search unopened
unopened_call v slot (call.SetPgid pid group) other = open_setpgid v slot group (setpgid_target v.processes (caller_of v slot) pid)
unopened_call v slot call.Ps other = no_effect
unopened_call v slot call.Halt other = search unopened
unopened_call v slot (call.Kill to signal) other = search unopened
unopened_call v slot (call.SigSet signal action) other = search unopened
unopened_call v slot call.SigTake other = open_sigtake slot (caller_of v slot) (least_caught (caller_of v slot))
unopened_call v slot call.Pause other = no_effect
unopened_call v slot (call.SetCtty fd) other = open_on_line (ttys.setctty_on v slot) (ttys.tty_at v slot fd) (λ n. search unopened)
unopened_call v slot (call.TcGetAttr fd) other = open_on_line (λ n. only (text (termios_text (termios_of v n)))) (ttys.tty_at v slot fd) (λ n. no_effect)
unopened_call v slot (call.TcSetAttr fd at termios) other =
    open_on_line (ttys.tcsetattr_on v slot at termios) (ttys.tty_at v slot fd) (λ n. search (unopened, open_flush))
unopened_call v slot (call.TcFlush fd which) other = open_on_line (ttys.tcflush_on v slot which) (ttys.tty_at v slot fd) (λ n. search unopened)
unopened_call v slot (call.TcDrain fd) other = open_on_line (ttys.tcdrain_on v slot) (ttys.tty_at v slot fd) (λ n. no_effect)
unopened_call v slot (call.TcSetPgrp fd group) other = open_on_line (ttys.tcsetpgrp_on v slot group) (ttys.tty_at v slot fd) (λ n. search unopened)
unopened_call v slot (call.TcGetPgrp fd) other = open_on_line (ttys.tcgetpgrp_on v slot) (ttys.tty_at v slot fd) (λ n. no_effect)
unopened_call v slot (call.FdName fd) other = no_effect
unopened_call v slot (call.Revoke path) other = open_revoke v (caller_of v slot) (ttys.tty_of_node (node_at v (path_at (end_of v slot path))))

pub ordered_call : (v : View) (slot : ℕ) (c : Call) → Ordered (call_row v slot c).effects
unfolding Ordered
ordered_call v slot (call.Open path access flags mode) = inr (calm_open v slot access flags mode (end_of v slot path))
ordered_call v slot call.Pipe = inr (calm_next _ _ refl (calm_next _ _ refl (calm_next _ _ refl calm_end)))
ordered_call v slot c = inl (unopened_call v slot c refl)
