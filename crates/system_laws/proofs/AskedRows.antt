-- Which lines calls read and write to: a read and a write that of their file, and no other call any.
use Rattle.std.proofs.Common.{◌≡◌, ℕ, Bool, true, false, List, refl, ap, ◌∙◌, arith, []}
use Rattle.std.specs.Prelude.{◌==◌, Option, Some, None}
use Rattle.sys_types.specs.declared.sig.Sig.{Sig}
use Rattle.call_words.specs.declared.call.Call.{Call}
use Rattle.call_words.specs.declared.call.Call.TheVariants as call
use Rattle.call_words.specs.declared.tty.When.{When}
use Rattle.call_words.specs.declared.tty.When.TheVariants as when
use Rattle.proc_table.specs.Processes.{Process, least_caught}
use Rattle.termios_core.specs.Text.{termios_text}
use Rattle.sys_types.specs.declared.node.Kind.{Kind}
use Rattle.sys_types.specs.declared.node.Kind.TheVariants as kind
use Rattle.call_words.specs.declared.open.Access.{Access}
use Rattle.call_words.specs.declared.open.OpenFlags.{OpenFlags}
use Rattle.tree_model.specs.Tree.{NodeRecord, WalkEnd, found, absent, missing, not_dir, name_long, path_long}
use Rattle.tree_model.specs.Paths.{path_at}
use Rattle.proc_table.specs.Jobs.{setpgid_target}
use Rattle.system_model.specs.Parts.{Path, Target, node, read_end, write_end, tty}
use Rattle.system_model.specs.State.{OpenFile, View}
use Rattle.system_model.specs.Keeping.{is_tty}
use Rattle.system_model.specs.Rows.{Row, text, only}
use Rattle.system_model.specs.Looks.{caller_of, file_at, holds_of, node_at, end_of, termios_of}
use Rattle.system_model.specs.OpenCalls as opens
use Rattle.system_model.specs.IoCalls as io
use Rattle.system_model.specs.DirCalls as dirs
use Rattle.system_model.specs.ProcCalls as procs
use Rattle.system_model.specs.SignalCalls as signals
use Rattle.system_model.specs.TtyCalls as ttys
use Rattle.system_model.specs.Step.{call_row}
use Rattle.system_laws.proofs.AskedEffects.{no_line, Begins, no_write, a_write, AreAsked, no_effect, next_effect, ask-append, ask-if, ask-process, asked_rules}

same-line : (m : ℕ) → (m == m) ≡ true
same-line m = grind arith

-- ---- rows

ask_read : (r w : ℕ → Bool) (v : View) (slot fd max : ℕ) (f : OpenFile) (target : Target) → ((m : ℕ) → target ≡ tty m → r m ≡ true)
    → AreAsked r w (io.read_target v slot fd max f target).effects
ask_read r w v slot fd max f (node path) may = search asked_rules
ask_read r w v slot fd max f (read_end k) may = search asked_rules
ask_read r w v slot fd max f (write_end k) may = search asked_rules
ask_read r w v slot fd max f (tty m) may = next_effect _ _ (may m refl) no_effect

ask_read_at : (r w : ℕ → Bool) (v : View) (slot fd max : ℕ) (o : Option OpenFile)
    → ((m : ℕ) → holds_of (λ f. is_tty m f.file.target) o ≡ true → r m ≡ true)
    → AreAsked r w (io.read_at v slot fd max o).effects
ask_read_at r w v slot fd max None may = no_effect
ask_read_at r w v slot fd max (Some f) may =
    ask_read r w v slot fd max f f.file.target (λ m is. may m (ap (is_tty m) is ∙ same-line m))

ask_write : (r w : ℕ → Bool) (v : View) (slot fd : ℕ) (bs : List ℕ) (f : OpenFile) (target : Target) → ((m : ℕ) → target ≡ tty m → w m ≡ true)
    → AreAsked r w (io.write_target v slot fd bs f target).effects
ask_write r w v slot fd bs f (node path) may = search asked_rules
ask_write r w v slot fd bs f (read_end k) may = search asked_rules
ask_write r w v slot fd bs f (write_end k) may = search asked_rules
ask_write r w v slot fd bs f (tty m) may = next_effect _ _ (may m refl) no_effect

ask_write_at : (r w : ℕ → Bool) (v : View) (slot fd : ℕ) (bs : List ℕ) (o : Option OpenFile)
    → ((m : ℕ) → holds_of (λ f. is_tty m f.file.target) o ≡ true → w m ≡ true)
    → AreAsked r w (io.write_at v slot fd bs o).effects
ask_write_at r w v slot fd bs None may = no_effect
ask_write_at r w v slot fd bs (Some f) may =
    ask_write r w v slot fd bs f f.file.target (λ m is. may m (ap (is_tty m) is ∙ same-line m))

ask_mkdir : (r w : ℕ → Bool) (v : View) (slot mode : ℕ) (end : WalkEnd) → AreAsked r w (dirs.mkdir_at v slot mode end).effects
ask_mkdir r w v slot mode (found place) = no_effect
ask_mkdir r w v slot mode (absent dir name) = search asked_rules
ask_mkdir r w v slot mode missing = no_effect
ask_mkdir r w v slot mode not_dir = no_effect
ask_mkdir r w v slot mode name_long = no_effect
ask_mkdir r w v slot mode path_long = no_effect

ask_on_line : (r w : ℕ → Bool) (row : ℕ → Row) (m : Option ℕ) → ((m : ℕ) → AreAsked r w (row m).effects) → AreAsked r w (ttys.on_line_row row m).effects
ask_on_line r w row None none = no_effect
ask_on_line r w row (Some m) none = none m

ask_setpgid : (r w : ℕ → Bool) (v : View) (slot group : ℕ) (target : Option (Process Path)) → AreAsked r w (procs.setpgid_on v slot group target).effects
ask_setpgid r w v slot group None = no_effect
ask_setpgid r w v slot group (Some target) = search asked_rules

ask_sigtake : (r w : ℕ → Bool) (slot : ℕ) (who : Process Path) (signal : Option Sig) → AreAsked r w (signals.sigtake_of slot who signal).effects
ask_sigtake r w slot who None = no_effect
ask_sigtake r w slot who (Some signal) = search asked_rules

ask_flush : (r w : ℕ → Bool) (at : When) (m : ℕ) → AreAsked r w (ttys.flush_first at m)
ask_flush r w when.Now m = no_effect
ask_flush r w when.Flush m = search asked_rules

ask_leader : (r w : ℕ → Bool) (who : Process Path) (session : Option ℕ) → AreAsked r w (ttys.tell_leader who session)
ask_leader r w who None = no_effect
ask_leader r w who (Some session) = ask-if r w (who.pid == session) _ _ no_effect (ask-process r w _ _ no_effect)

ask_revoke : (r w : ℕ → Bool) (v : View) (who : Process Path) (m : Option ℕ) → AreAsked r w (ttys.revoke_effects v who m)
ask_revoke r w v who None = no_effect
ask_revoke r w v who (Some m) = search (asked_rules, ask_leader)

ask_dup2 : (r w : ℕ → Bool) (v : View) (slot fd into : ℕ) → AreAsked r w (opens.dup2_effects v slot fd into)
ask_dup2 r w v slot fd into = ask-if r w (fd == into) _ _ no_effect (search asked_rules)

ask_tty : (r w : ℕ → Bool) (slot : ℕ) (access : Access) (flags : OpenFlags) (m : Option ℕ) → AreAsked r w (opens.tty_effects slot access flags m)
ask_tty r w slot access flags None = no_effect
ask_tty r w slot access flags (Some m) = search asked_rules

ask_truncations : (r w : ℕ → Bool) (place : Path) (flags : OpenFlags) (what : NodeRecord) → AreAsked r w (opens.truncations place flags what)
ask_truncations r w place flags what = ask-if r w flags.truncate _ _ (search asked_rules) no_effect

ask_kind : (r w : ℕ → Bool) (v : View) (slot : ℕ) (place : Path) (access : Access) (flags : OpenFlags) (what : NodeRecord) (k : Kind)
    → AreAsked r w (opens.kind_effects v slot place access flags what k)
ask_kind r w v slot place access flags what kind.File = ask-append r w _ _ (ask_truncations r w place flags what) (search asked_rules)
ask_kind r w v slot place access flags what kind.Dir = no_effect
ask_kind r w v slot place access flags what (kind.Line m) = ask_tty r w slot access flags (Some m)
ask_kind r w v slot place access flags what kind.Tty = ask_tty r w slot access flags (opens.own_tty v slot)

ask_place : (r w : ℕ → Bool) (v : View) (slot : ℕ) (place : Path) (access : Access) (flags : OpenFlags) (what : Option NodeRecord)
    → AreAsked r w (opens.place_effects v slot place access flags what)
ask_place r w v slot place access flags None = no_effect
ask_place r w v slot place access flags (Some what) = ask_kind r w v slot place access flags what what.kind

ask_open : (r w : ℕ → Bool) (v : View) (slot : ℕ) (access : Access) (flags : OpenFlags) (mode : ℕ) (end : WalkEnd)
    → AreAsked r w (opens.open_at v slot access flags mode end).effects
ask_open r w v slot access flags mode (found place) = ask_place r w v slot place access flags (node_at v place)
ask_open r w v slot access flags mode (absent dir name) = search asked_rules
ask_open r w v slot access flags mode missing = no_effect
ask_open r w v slot access flags mode not_dir = no_effect
ask_open r w v slot access flags mode name_long = no_effect
ask_open r w v slot access flags mode path_long = no_effect

-- ---- calls

-- the call reads the line, or writes to it
abbrev pub reads_line : View → ℕ → Call → ℕ → Bool
reads_line v slot (call.Read fd max) n = holds_of (λ f. is_tty n f.file.target) (file_at v slot fd)
reads_line v slot _ n = false

abbrev pub writes_line : View → ℕ → Call → ℕ → Bool
writes_line v slot (call.Write fd bytes) n = holds_of (λ f. is_tty n f.file.target) (file_at v slot fd)
writes_line v slot _ n = false

pub ask_call : (r w : ℕ → Bool) (v : View) (slot : ℕ) (c : Call) → ((m : ℕ) → reads_line v slot c m ≡ true → r m ≡ true)
    → ((m : ℕ) → writes_line v slot c m ≡ true → w m ≡ true) → AreAsked r w (call_row v slot c).effects
ask_call r w v slot (call.Open path access flags mode) reads writes = ask_open r w v slot access flags mode (end_of v slot path)
ask_call r w v slot (call.Close fd) reads writes = search asked_rules
ask_call r w v slot (call.Dup fd) reads writes = search asked_rules
ask_call r w v slot (call.Dup2 fd into) reads writes = ask_dup2 r w v slot fd into
ask_call r w v slot (call.Read fd max) reads writes = ask_read_at r w v slot fd max (file_at v slot fd) reads
ask_call r w v slot (call.Write fd bytes) reads writes = ask_write_at r w v slot fd bytes (file_at v slot fd) writes
ask_call r w v slot call.Pipe reads writes = search asked_rules
ask_call r w v slot (call.Chdir path) reads writes = search asked_rules
ask_call r w v slot (call.Mkdir path mode) reads writes = ask_mkdir r w v slot mode (end_of v slot path)
ask_call r w v slot (call.Rmdir path) reads writes = search asked_rules
ask_call r w v slot (call.Unlink path) reads writes = search asked_rules
ask_call r w v slot (call.List path from) reads writes = no_effect
ask_call r w v slot (call.Info path) reads writes = no_effect
ask_call r w v slot (call.Chmod path mode) reads writes = search asked_rules
ask_call r w v slot (call.Chown path uid gid) reads writes = search asked_rules
ask_call r w v slot (call.SetAcl path which list) reads writes = search asked_rules
ask_call r w v slot (call.GetAcl path which) reads writes = no_effect
ask_call r w v slot (call.SetLabel path element) reads writes = search asked_rules
ask_call r w v slot (call.GetLabel path) reads writes = no_effect
ask_call r w v slot (call.SetProcLabel subject) reads writes = search asked_rules
ask_call r w v slot call.Ident reads writes = no_effect
ask_call r w v slot (call.SetCred cred) reads writes = search asked_rules
ask_call r w v slot (call.Umask mode) reads writes = search asked_rules
ask_call r w v slot call.Begin reads writes = search asked_rules
ask_call r w v slot (call.Fork note) reads writes = search asked_rules
ask_call r w v slot (call.Exec path args) reads writes = search asked_rules
ask_call r w v slot (call.Exit status) reads writes = search asked_rules
ask_call r w v slot (call.Wait pid flags) reads writes = search asked_rules
ask_call r w v slot call.SetSid reads writes = search asked_rules
ask_call r w v slot (call.SetPgid pid group) reads writes = ask_setpgid r w v slot group (setpgid_target v.processes (caller_of v slot) pid)
ask_call r w v slot call.Ps reads writes = no_effect
ask_call r w v slot call.Halt reads writes = search asked_rules
ask_call r w v slot (call.Kill to signal) reads writes = search asked_rules
ask_call r w v slot (call.SigSet signal action) reads writes = search asked_rules
ask_call r w v slot call.SigTake reads writes = ask_sigtake r w slot (caller_of v slot) (least_caught (caller_of v slot))
ask_call r w v slot call.Pause reads writes = no_effect
ask_call r w v slot (call.SetCtty fd) reads writes = ask_on_line r w (ttys.setctty_on v slot) (ttys.tty_at v slot fd) (λ m. search asked_rules)
ask_call r w v slot (call.TcGetAttr fd) reads writes =
    ask_on_line r w (λ m. only (text (termios_text (termios_of v m)))) (ttys.tty_at v slot fd) (λ m. no_effect)
ask_call r w v slot (call.TcSetAttr fd at termios) reads writes =
    ask_on_line r w (ttys.tcsetattr_on v slot at termios) (ttys.tty_at v slot fd) (λ m. search (asked_rules, ask_flush))
ask_call r w v slot (call.TcFlush fd which) reads writes = ask_on_line r w (ttys.tcflush_on v slot which) (ttys.tty_at v slot fd) (λ m. search asked_rules)
ask_call r w v slot (call.TcDrain fd) reads writes = ask_on_line r w (ttys.tcdrain_on v slot) (ttys.tty_at v slot fd) (λ m. no_effect)
ask_call r w v slot (call.TcSetPgrp fd group) reads writes = ask_on_line r w (ttys.tcsetpgrp_on v slot group) (ttys.tty_at v slot fd) (λ m. search asked_rules)
ask_call r w v slot (call.TcGetPgrp fd) reads writes = ask_on_line r w (ttys.tcgetpgrp_on v slot) (ttys.tty_at v slot fd) (λ m. no_effect)
ask_call r w v slot (call.FdName fd) reads writes = no_effect
ask_call r w v slot (call.Revoke path) reads writes = ask_revoke r w v (caller_of v slot) (ttys.tty_of_node (node_at v (path_at (end_of v slot path))))

-- ---- a write is the first that a call does

begin_write : (r w : ℕ → Bool) (v : View) (slot fd : ℕ) (bs : List ℕ) (f : OpenFile) (target : Target) → ((m : ℕ) → target ≡ tty m → w m ≡ true)
    → Begins r w (io.write_target v slot fd bs f target).effects
begin_write r w v slot fd bs f (node path) may = no_write _ (ask_write r no_line v slot fd bs f (node path) (λ m is. cc))
begin_write r w v slot fd bs f (read_end k) may = no_write _ (ask_write r no_line v slot fd bs f (read_end k) (λ m is. cc))
begin_write r w v slot fd bs f (write_end k) may = no_write _ (ask_write r no_line v slot fd bs f (write_end k) (λ m is. cc))
begin_write r w v slot fd bs f (tty m) may = a_write m bs [] (may m refl) no_effect

begin_write_at : (r w : ℕ → Bool) (v : View) (slot fd : ℕ) (bs : List ℕ) (o : Option OpenFile)
    → ((m : ℕ) → holds_of (λ f. is_tty m f.file.target) o ≡ true → w m ≡ true) → Begins r w (io.write_at v slot fd bs o).effects
begin_write_at r w v slot fd bs None may = no_write _ no_effect
begin_write_at r w v slot fd bs (Some f) may =
    begin_write r w v slot fd bs f f.file.target (λ m is. may m (ap (is_tty m) is ∙ same-line m))

pub begin_call : (r w : ℕ → Bool) (v : View) (slot : ℕ) (c : Call) → ((m : ℕ) → reads_line v slot c m ≡ true → r m ≡ true)
    → ((m : ℕ) → writes_line v slot c m ≡ true → w m ≡ true) → Begins r w (call_row v slot c).effects
begin_call r w v slot (call.Write fd bytes) reads writes = begin_write_at r w v slot fd bytes (file_at v slot fd) writes
begin_call r w v slot c reads writes = no_write _ (ask_call r no_line v slot c reads (λ m is. cc))
