-- Of all calls revoke(2) alone revokes a line.
use Rattle.std.proofs.Common.{◌≡◌, ℕ, Bool, true, false, cond, List, [], ◌∷◌, ◌++◌, refl}
use Rattle.std.specs.Prelude.{◌==◌, Option, Some, None}
use Rattle.sys_types.specs.declared.sig.Sig.{Sig}
use Rattle.call_words.specs.declared.call.Call.{Call}
use Rattle.call_words.specs.declared.call.Call.TheVariants as call
use Rattle.call_words.specs.declared.tty.When.{When}
use Rattle.call_words.specs.declared.tty.When.TheVariants as when
use Rattle.proc_table.specs.Processes.{Process, least_caught}
use Rattle.termios_core.specs.Text.{termios_text}
use Rattle.sys_types.specs.declared.node.Kind.{Kind}
use Rattle.sys_types.specs.declared.node.Kind.TheVariants as kind
use Rattle.call_words.specs.declared.open.Access.{Access}
use Rattle.call_words.specs.declared.open.OpenFlags.{OpenFlags}
use Rattle.tree_model.specs.Tree.{NodeRecord, WalkEnd, found, absent, missing, not_dir, name_long, path_long}
use Rattle.proc_table.specs.Jobs.{setpgid_target}
use Rattle.system_model.specs.Parts.{Path, Target, node, read_end, write_end, tty}
use Rattle.system_model.specs.State.{OpenFile, View}
use Rattle.system_model.specs.FileEffects.{FileEffect}
use Rattle.system_model.specs.PipeEffects.{PipeEffect}
use Rattle.termios_core.specs.declared.termios.Termios.{Termios}
use Rattle.system_model.specs.LineEffects.{open_line, receive_byte, read_line, write_line, take_output, set_carrier, end_line, flush_line}
use Rattle.system_model.specs.LineEffects.{retune_line, set_session, set_foreground}
use Rattle.system_model.specs.TreeEffects.{TreeEffect}
use Rattle.system_model.specs.ProcessEffects.{ProcessEffect}
use Rattle.system_model.specs.Effects.{Effect, on_files, on_pipes, on_lines, on_tree, on_processes, halt}
use Rattle.system_model.specs.Rows.{Row, text, only, first}
use Rattle.system_model.specs.Looks.{caller_of, file_at, node_at, end_of, termios_of}
use Rattle.system_model.specs.OpenCalls as opens
use Rattle.system_model.specs.IoCalls as io
use Rattle.system_model.specs.DirCalls as dirs
use Rattle.system_model.specs.ProcCalls as procs
use Rattle.system_model.specs.SignalCalls as signals
use Rattle.system_model.specs.TtyCalls as ttys
use Rattle.system_model.specs.Step.{call_row}
use Rattle.system_laws.specs.Laws.{is_revoke_of}

-- no effect revokes the line
pub data NoRevoke (n : ℕ) : List Effect → Type 0 where
  no_effect : NoRevoke n []
  next_effect : (e : Effect) (es : List Effect) → is_revoke_of n e ≡ false → NoRevoke n es → NoRevoke n (e ∷ es)

pub rev-append : (n : ℕ) (es fs : List Effect) → NoRevoke n es → NoRevoke n fs → NoRevoke n (es ++ fs)
rev-append n [] fs no_effect none = none
rev-append n (e ∷ es) fs (next_effect _ _ is more) none = next_effect e (es ++ fs) is (rev-append n es fs more none)

pub rev-if : (n : ℕ) (t : Bool) (es fs : List Effect) → NoRevoke n es → NoRevoke n fs → NoRevoke n (cond t es fs)
rev-if n true es fs first second = first
rev-if n false es fs first second = second

pub rev-tree : (n : ℕ) (e : TreeEffect) (es : List Effect) → NoRevoke n es → NoRevoke n (on_tree e ∷ es)
rev-tree n e es none = next_effect _ _ refl none

pub rev-pipe : (n : ℕ) (e : PipeEffect) (es : List Effect) → NoRevoke n es → NoRevoke n (on_pipes e ∷ es)
rev-pipe n e es none = next_effect _ _ refl none

pub rev-process : (n : ℕ) (e : ProcessEffect) (es : List Effect) → NoRevoke n es → NoRevoke n (on_processes e ∷ es)
rev-process n e es none = next_effect _ _ refl none

pub rev-file : (n : ℕ) (e : FileEffect) (es : List Effect) → NoRevoke n es → NoRevoke n (on_files e ∷ es)
rev-file n e es none = next_effect _ _ refl none

pub rev-halt : (n : ℕ) (es : List Effect) → NoRevoke n es → NoRevoke n (halt ∷ es)
rev-halt n es none = next_effect _ _ refl none

pub rev-opens : (n : ℕ) (m : ℕ) (t : Termios) (es : List Effect) → NoRevoke n es → NoRevoke n (on_lines (open_line m t) ∷ es)
rev-opens n m t es none = next_effect _ _ refl none

pub rev-receive : (n : ℕ) (m b : ℕ) (es : List Effect) → NoRevoke n es → NoRevoke n (on_lines (receive_byte m b) ∷ es)
rev-receive n m b es none = next_effect _ _ refl none

pub rev-read : (n : ℕ) (m max : ℕ) (es : List Effect) → NoRevoke n es → NoRevoke n (on_lines (read_line m max) ∷ es)
rev-read n m max es none = next_effect _ _ refl none

pub rev-write : (n : ℕ) (m : ℕ) (bs : List ℕ) (es : List Effect) → NoRevoke n es → NoRevoke n (on_lines (write_line m bs) ∷ es)
rev-write n m bs es none = next_effect _ _ refl none

pub rev-take : (n : ℕ) (m max : ℕ) (es : List Effect) → NoRevoke n es → NoRevoke n (on_lines (take_output m max) ∷ es)
rev-take n m max es none = next_effect _ _ refl none

pub rev-carrier : (n : ℕ) (m : ℕ) (up : Bool) (es : List Effect) → NoRevoke n es → NoRevoke n (on_lines (set_carrier m up) ∷ es)
rev-carrier n m up es none = next_effect _ _ refl none

pub rev-ends : (n : ℕ) (m : ℕ) (es : List Effect) → NoRevoke n es → NoRevoke n (on_lines (end_line m) ∷ es)
rev-ends n m es none = next_effect _ _ refl none

pub rev-flush : (n : ℕ) (m : ℕ) (input output : Bool) (es : List Effect) → NoRevoke n es → NoRevoke n (on_lines (flush_line m input output) ∷ es)
rev-flush n m input output es none = next_effect _ _ refl none

pub rev-retune : (n : ℕ) (m : ℕ) (t : Termios) (es : List Effect) → NoRevoke n es → NoRevoke n (on_lines (retune_line m t) ∷ es)
rev-retune n m t es none = next_effect _ _ refl none

pub rev-session : (n : ℕ) (m session group : ℕ) (es : List Effect) → NoRevoke n es → NoRevoke n (on_lines (set_session m session group) ∷ es)
rev-session n m session group es none = next_effect _ _ refl none

pub rev-foreground : (n : ℕ) (m group : ℕ) (es : List Effect) → NoRevoke n es → NoRevoke n (on_lines (set_foreground m group) ∷ es)
rev-foreground n m group es none = next_effect _ _ refl none

pub rev-fds : (n slot : ℕ) (fds : List ℕ) → NoRevoke n (procs.close_fds slot fds)
rev-fds n slot [] = no_effect
rev-fds n slot (fd ∷ fds) = next_effect _ _ refl (rev-fds n slot fds)

pub rev-posts : (n : ℕ) (signal : Sig) (whom : List (Process Path)) → NoRevoke n (signals.post_each signal whom)
rev-posts n signal [] = no_effect
rev-posts n signal (p ∷ ps) = next_effect _ _ refl (rev-posts n signal ps)

ruleset unrevoked = (
  no_effect,
  rev-append,
  rev-if,
  rev-tree,
  rev-pipe,
  rev-process,
  rev-file,
  rev-halt,
  rev-opens,
  rev-receive,
  rev-read,
  rev-write,
  rev-take,
  rev-carrier,
  rev-ends,
  rev-flush,
  rev-retune,
  rev-session,
  rev-foreground,
  rev-fds,
  rev-posts,
)

-- ---- rows

rev_read : (n : ℕ) (v : View) (slot fd max : ℕ) (f : OpenFile) (target : Target) → NoRevoke n (io.read_target v slot fd max f target).effects
rev_read n v slot fd max f (node path) = search unrevoked
rev_read n v slot fd max f (read_end k) = search unrevoked
rev_read n v slot fd max f (write_end k) = search unrevoked
rev_read n v slot fd max f (tty m) = search unrevoked

rev_read_at : (n : ℕ) (v : View) (slot fd max : ℕ) (f : Option OpenFile) → NoRevoke n (io.read_at v slot fd max f).effects
rev_read_at n v slot fd max None = no_effect
rev_read_at n v slot fd max (Some f) = rev_read n v slot fd max f f.file.target

rev_write : (n : ℕ) (v : View) (slot fd : ℕ) (bs : List ℕ) (f : OpenFile) (target : Target) → NoRevoke n (io.write_target v slot fd bs f target).effects
rev_write n v slot fd bs f (node path) = search unrevoked
rev_write n v slot fd bs f (read_end k) = search unrevoked
rev_write n v slot fd bs f (write_end k) = search unrevoked
rev_write n v slot fd bs f (tty m) = search unrevoked

rev_write_at : (n : ℕ) (v : View) (slot fd : ℕ) (bs : List ℕ) (f : Option OpenFile) → NoRevoke n (io.write_at v slot fd bs f).effects
rev_write_at n v slot fd bs None = no_effect
rev_write_at n v slot fd bs (Some f) = rev_write n v slot fd bs f f.file.target

rev_mkdir : (n : ℕ) (v : View) (slot mode : ℕ) (end : WalkEnd) → NoRevoke n (dirs.mkdir_at v slot mode end).effects
rev_mkdir n v slot mode (found place) = no_effect
rev_mkdir n v slot mode (absent dir name) = search unrevoked
rev_mkdir n v slot mode missing = no_effect
rev_mkdir n v slot mode not_dir = no_effect
rev_mkdir n v slot mode name_long = no_effect
rev_mkdir n v slot mode path_long = no_effect

rev_on_line : (n : ℕ) (row : ℕ → Row) (m : Option ℕ) → ((m : ℕ) → NoRevoke n (row m).effects) → NoRevoke n (ttys.on_line_row row m).effects
rev_on_line n row None none = no_effect
rev_on_line n row (Some m) none = none m

rev_setpgid : (n : ℕ) (v : View) (slot group : ℕ) (target : Option (Process Path)) → NoRevoke n (procs.setpgid_on v slot group target).effects
rev_setpgid n v slot group None = no_effect
rev_setpgid n v slot group (Some target) = search unrevoked

rev_sigtake : (n slot : ℕ) (who : Process Path) (signal : Option Sig) → NoRevoke n (signals.sigtake_of slot who signal).effects
rev_sigtake n slot who None = no_effect
rev_sigtake n slot who (Some signal) = search unrevoked

rev_flush : (n : ℕ) (at : When) (m : ℕ) → NoRevoke n (ttys.flush_first at m)
rev_flush n when.Now m = no_effect
rev_flush n when.Flush m = search unrevoked

rev_dup2 : (n : ℕ) (v : View) (slot fd into : ℕ) → NoRevoke n (opens.dup2_effects v slot fd into)
rev_dup2 n v slot fd into = rev-if n (fd == into) _ _ no_effect (search unrevoked)

rev_tty : (n slot : ℕ) (access : Access) (flags : OpenFlags) (m : Option ℕ) → NoRevoke n (opens.tty_effects slot access flags m)
rev_tty n slot access flags None = no_effect
rev_tty n slot access flags (Some m) = search unrevoked

rev_truncations : (n : ℕ) (place : Path) (flags : OpenFlags) (what : NodeRecord) → NoRevoke n (opens.truncations place flags what)
rev_truncations n place flags what = rev-if n flags.truncate _ _ (search unrevoked) no_effect

rev_kind : (n : ℕ) (v : View) (slot : ℕ) (place : Path) (access : Access) (flags : OpenFlags) (what : NodeRecord) (k : Kind)
    → NoRevoke n (opens.kind_effects v slot place access flags what k)
rev_kind n v slot place access flags what kind.File = rev-append n _ _ (rev_truncations n place flags what) (search unrevoked)
rev_kind n v slot place access flags what kind.Dir = no_effect
rev_kind n v slot place access flags what (kind.Line m) = rev_tty n slot access flags (Some m)
rev_kind n v slot place access flags what kind.Tty = rev_tty n slot access flags (opens.own_tty v slot)

rev_place : (n : ℕ) (v : View) (slot : ℕ) (place : Path) (access : Access) (flags : OpenFlags) (what : Option NodeRecord)
    → NoRevoke n (opens.place_effects v slot place access flags what)
rev_place n v slot place access flags None = no_effect
rev_place n v slot place access flags (Some what) = rev_kind n v slot place access flags what what.kind

rev_open : (n : ℕ) (v : View) (slot : ℕ) (access : Access) (flags : OpenFlags) (mode : ℕ) (end : WalkEnd)
    → NoRevoke n (opens.open_at v slot access flags mode end).effects
rev_open n v slot access flags mode (found place) = rev_place n v slot place access flags (node_at v place)
rev_open n v slot access flags mode (absent dir name) = search unrevoked
rev_open n v slot access flags mode missing = no_effect
rev_open n v slot access flags mode not_dir = no_effect
rev_open n v slot access flags mode name_long = no_effect
rev_open n v slot access flags mode path_long = no_effect

-- ---- calls

abbrev pub is_revoke_call : Call → Bool
is_revoke_call (call.Revoke path) = true
is_revoke_call _ = false

pub rev_call : (n : ℕ) (v : View) (slot : ℕ) (c : Call) → is_revoke_call c ≡ false → NoRevoke n (call_row v slot c).effects
rev_call n v slot (call.Open path access flags mode) other = rev_open n v slot access flags mode (end_of v slot path)
rev_call n v slot (call.Close fd) other = search unrevoked
rev_call n v slot (call.Dup fd) other = search unrevoked
rev_call n v slot (call.Dup2 fd into) other = rev_dup2 n v slot fd into
rev_call n v slot (call.Read fd max) other = rev_read_at n v slot fd max (file_at v slot fd)
rev_call n v slot (call.Write fd bytes) other = rev_write_at n v slot fd bytes (file_at v slot fd)
rev_call n v slot call.Pipe other = search unrevoked
rev_call n v slot (call.Chdir path) other = search unrevoked
rev_call n v slot (call.Mkdir path mode) other = rev_mkdir n v slot mode (end_of v slot path)
rev_call n v slot (call.Rmdir path) other = search unrevoked
rev_call n v slot (call.Unlink path) other = search unrevoked
rev_call n v slot (call.List path from) other = no_effect
rev_call n v slot (call.Info path) other = no_effect
rev_call n v slot (call.Chmod path mode) other = search unrevoked
rev_call n v slot (call.Chown path uid gid) other = search unrevoked
rev_call n v slot (call.SetAcl path which list) other = search unrevoked
rev_call n v slot (call.GetAcl path which) other = no_effect
rev_call n v slot (call.SetLabel path element) other = search unrevoked
rev_call n v slot (call.GetLabel path) other = no_effect
rev_call n v slot (call.SetProcLabel subject) other = search unrevoked
rev_call n v slot call.Ident other = no_effect
rev_call n v slot (call.SetCred cred) other = search unrevoked
rev_call n v slot (call.Umask mode) other = search unrevoked
rev_call n v slot call.Begin other = search unrevoked
rev_call n v slot (call.Fork note) other = search unrevoked
rev_call n v slot (call.Exec path args) other = search unrevoked
rev_call n v slot (call.Exit status) other = search unrevoked
rev_call n v slot (call.Wait pid flags) other = search unrevoked
rev_call n v slot call.SetSid other = search unrevoked
rev_call n v slot (call.SetPgid pid group) other = rev_setpgid n v slot group (setpgid_target v.processes (caller_of v slot) pid)
rev_call n v slot call.Ps other = no_effect
rev_call n v slot call.Halt other = search unrevoked
rev_call n v slot (call.Kill to signal) other = search unrevoked
rev_call n v slot (call.SigSet signal action) other = search unrevoked
rev_call n v slot call.SigTake other = rev_sigtake n slot (caller_of v slot) (least_caught (caller_of v slot))
rev_call n v slot call.Pause other = no_effect
rev_call n v slot (call.SetCtty fd) other = rev_on_line n (ttys.setctty_on v slot) (ttys.tty_at v slot fd) (λ m. search unrevoked)
rev_call n v slot (call.TcGetAttr fd) other = rev_on_line n (λ m. only (text (termios_text (termios_of v m)))) (ttys.tty_at v slot fd) (λ m. no_effect)
rev_call n v slot (call.TcSetAttr fd at termios) other =
    rev_on_line n (ttys.tcsetattr_on v slot at termios) (ttys.tty_at v slot fd) (λ m. search (unrevoked, rev_flush))
rev_call n v slot (call.TcFlush fd which) other = rev_on_line n (ttys.tcflush_on v slot which) (ttys.tty_at v slot fd) (λ m. search unrevoked)
rev_call n v slot (call.TcDrain fd) other = rev_on_line n (ttys.tcdrain_on v slot) (ttys.tty_at v slot fd) (λ m. no_effect)
rev_call n v slot (call.TcSetPgrp fd group) other = rev_on_line n (ttys.tcsetpgrp_on v slot group) (ttys.tty_at v slot fd) (λ m. search unrevoked)
rev_call n v slot (call.TcGetPgrp fd) other = rev_on_line n (ttys.tcgetpgrp_on v slot) (ttys.tty_at v slot fd) (λ m. no_effect)
rev_call n v slot (call.FdName fd) other = no_effect
rev_call n v slot (call.Revoke path) other = cc
