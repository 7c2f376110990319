-- The calls of another slot leave a slot's numbers, and put no process there where none runs; a fork aside.
use Rattle.std.proofs.Common.{◌≡◌, ℕ, Bool, false, List, Option, Some, None, refl}
use Rattle.std.specs.Prelude.{◌==◌, unwrap_or}
use Rattle.sys_types.specs.declared.sig.Sig.{Sig}
use Rattle.call_words.specs.declared.call.Call.{Call}
use Rattle.call_words.specs.declared.call.Call.TheVariants as call
use Rattle.call_words.specs.declared.tty.When.{When}
use Rattle.call_words.specs.declared.tty.When.TheVariants as when
use Rattle.proc_table.specs.Processes.{Process, slot_of, running_at, least_caught}
use Rattle.proc_table.specs.Jobs.{setpgid_target}
use Rattle.tree_model.specs.Paths.{path_at}
use Rattle.termios_core.specs.Text.{termios_text}
use Rattle.sys_types.specs.declared.node.Kind.{Kind}
use Rattle.sys_types.specs.declared.node.Kind.TheVariants as kind
use Rattle.call_words.specs.declared.open.Access.{Access}
use Rattle.call_words.specs.declared.open.OpenFlags.{OpenFlags}
use Rattle.tree_model.specs.Tree.{NodeRecord, WalkEnd, found, absent, missing, not_dir, name_long, path_long}
use Rattle.system_model.specs.Parts.{Path, Target, node, read_end, write_end, tty}
use Rattle.system_model.specs.State.{OpenFile, View}
use Rattle.system_model.specs.Rows.{Row, text, only}
use Rattle.system_model.specs.Looks.{caller_of, line_of, file_at, node_at, end_of, termios_of}
use Rattle.system_model.specs.OpenCalls as opens
use Rattle.system_model.specs.IoCalls as io
use Rattle.system_model.specs.DirCalls as dirs
use Rattle.system_model.specs.ProcCalls as procs
use Rattle.system_model.specs.SignalCalls as signals
use Rattle.system_model.specs.TtyCalls as ttys
use Rattle.system_model.specs.Step.{call_row}
use Rattle.system_laws.proofs.PlainRows.{is_fork}
use Rattle.system_laws.proofs.RestingSlots.{Rests}
use Rattle.system_laws.proofs.SlotNumbers.{IsOther}
use Rattle.system_laws.proofs.ApartEffects.{AreApart, no_effect, next_effect, apt-append, apt-if, apt-line, apt-set}
use Rattle.system_laws.proofs.ApartEffects.{apart_rules, target_at, target_apart}

-- ---- rows

apt_read : (runs : Bool) (slot : ℕ) (v : View) (other fd max : ℕ) (f : OpenFile) (target : Target)
    → AreApart runs slot (io.read_target v other fd max f target).effects
apt_read runs slot v other fd max f (node path) = search apart_rules
apt_read runs slot v other fd max f (read_end k) = search apart_rules
apt_read runs slot v other fd max f (write_end k) = search apart_rules
apt_read runs slot v other fd max f (tty m) = search apart_rules

apt_read_at : (runs : Bool) (slot : ℕ) (v : View) (other fd max : ℕ) (f : Option OpenFile) → AreApart runs slot (io.read_at v other fd max f).effects
apt_read_at runs slot v other fd max None = no_effect
apt_read_at runs slot v other fd max (Some f) = apt_read runs slot v other fd max f f.file.target

apt_write : (runs : Bool) (slot : ℕ) (v : View) (other fd : ℕ) (bs : List ℕ) (f : OpenFile) (target : Target)
    → AreApart runs slot (io.write_target v other fd bs f target).effects
apt_write runs slot v other fd bs f (node path) = search apart_rules
apt_write runs slot v other fd bs f (read_end k) = search apart_rules
apt_write runs slot v other fd bs f (write_end k) = search apart_rules
apt_write runs slot v other fd bs f (tty m) = search apart_rules

apt_write_at : (runs : Bool) (slot : ℕ) (v : View) (other fd : ℕ) (bs : List ℕ) (f : Option OpenFile)
    → AreApart runs slot (io.write_at v other fd bs f).effects
apt_write_at runs slot v other fd bs None = no_effect
apt_write_at runs slot v other fd bs (Some f) = apt_write runs slot v other fd bs f f.file.target

apt_mkdir : (runs : Bool) (slot : ℕ) (v : View) (other mode : ℕ) (end : WalkEnd) → AreApart runs slot (dirs.mkdir_at v other mode end).effects
apt_mkdir runs slot v other mode (found place) = no_effect
apt_mkdir runs slot v other mode (absent dir name) = search apart_rules
apt_mkdir runs slot v other mode missing = no_effect
apt_mkdir runs slot v other mode not_dir = no_effect
apt_mkdir runs slot v other mode name_long = no_effect
apt_mkdir runs slot v other mode path_long = no_effect

apt_on_line : (runs : Bool) (slot : ℕ) (row : ℕ → Row) (m : Option ℕ) → ((m : ℕ) → AreApart runs slot (row m).effects)
    → AreApart runs slot (ttys.on_line_row row m).effects
apt_on_line runs slot row None are = no_effect
apt_on_line runs slot row (Some m) are = are m

apt_setpgid : (runs : Bool) (slot : ℕ) (v : View) (other group : ℕ) (target : Option (Process Path)) → (runs ≡ false → Rests slot v.processes)
    → ((p : Process Path) → target ≡ Some p → running_at v.processes (unwrap_or (slot_of v.processes p.pid) other) ≡ Some p)
    → AreApart runs slot (procs.setpgid_on v other group target).effects
apt_setpgid runs slot v other group None rests at = no_effect
apt_setpgid runs slot v other group (Some target) rests at =
    next_effect _ _ (target_apart runs v.processes slot (unwrap_or (slot_of v.processes target.pid) other) target rests (at target refl)) no_effect

apt_sigtake : (runs : Bool) (slot other : ℕ) (who : Process Path) (signal : Option Sig) → IsOther slot other
    → AreApart runs slot (signals.sigtake_of other who signal).effects
apt_sigtake runs slot other who None apart = no_effect
apt_sigtake runs slot other who (Some signal) apart = apt-set runs slot other _ _ apart no_effect

apt_flush : (runs : Bool) (slot : ℕ) (at : When) (m : ℕ) → AreApart runs slot (ttys.flush_first at m)
apt_flush runs slot when.Now m = no_effect
apt_flush runs slot when.Flush m = search apart_rules

apt_dup2 : (runs : Bool) (slot : ℕ) (v : View) (other fd into : ℕ) → IsOther slot other → AreApart runs slot (opens.dup2_effects v other fd into)
apt_dup2 runs slot v other fd into apart = apt-if runs slot (fd == into) _ _ no_effect (search (apart_rules, apart))

apt_tty : (runs : Bool) (slot other : ℕ) (access : Access) (flags : OpenFlags) (m : Option ℕ) → IsOther slot other
    → AreApart runs slot (opens.tty_effects other access flags m)
apt_tty runs slot other access flags None apart = no_effect
apt_tty runs slot other access flags (Some m) apart = search (apart_rules, apart)

apt_kind : (runs : Bool) (slot : ℕ) (v : View) (other : ℕ) (place : Path) (access : Access) (flags : OpenFlags) (what : NodeRecord) (k : Kind)
    → IsOther slot other → AreApart runs slot (opens.kind_effects v other place access flags what k)
apt_kind runs slot v other place access flags what kind.File apart =
    apt-append runs slot _ _ (apt-if runs slot flags.truncate _ _ (search apart_rules) no_effect) (search (apart_rules, apart))
apt_kind runs slot v other place access flags what kind.Dir apart = no_effect
apt_kind runs slot v other place access flags what (kind.Line m) apart = apt_tty runs slot other access flags (Some m) apart
apt_kind runs slot v other place access flags what kind.Tty apart = apt_tty runs slot other access flags (opens.own_tty v other) apart

apt_place : (runs : Bool) (slot : ℕ) (v : View) (other : ℕ) (place : Path) (access : Access) (flags : OpenFlags) (what : Option NodeRecord)
    → IsOther slot other → AreApart runs slot (opens.place_effects v other place access flags what)
apt_place runs slot v other place access flags None apart = no_effect
apt_place runs slot v other place access flags (Some what) apart = apt_kind runs slot v other place access flags what what.kind apart

apt_open : (runs : Bool) (slot : ℕ) (v : View) (other : ℕ) (access : Access) (flags : OpenFlags) (mode : ℕ) (end : WalkEnd) → IsOther slot other
    → AreApart runs slot (opens.open_at v other access flags mode end).effects
apt_open runs slot v other access flags mode (found place) apart = apt_place runs slot v other place access flags (node_at v place) apart
apt_open runs slot v other access flags mode (absent dir name) apart = search (apart_rules, apart)
apt_open runs slot v other access flags mode missing apart = no_effect
apt_open runs slot v other access flags mode not_dir apart = no_effect
apt_open runs slot v other access flags mode name_long apart = no_effect
apt_open runs slot v other access flags mode path_long apart = no_effect

apt_tell : (runs : Bool) (slot : ℕ) (who : Process Path) (session : Option ℕ) → AreApart runs slot (ttys.tell_leader who session)
apt_tell runs slot who None = no_effect
apt_tell runs slot who (Some session) = apt-if runs slot (who.pid == session) _ _ no_effect (search apart_rules)

apt_revoke : (runs : Bool) (slot : ℕ) (v : View) (who : Process Path) (m : Option ℕ) → AreApart runs slot (ttys.revoke_effects v who m)
apt_revoke runs slot v who None = no_effect
apt_revoke runs slot v who (Some m) = apt-line runs slot _ _ (apt_tell runs slot who (line_of v m).session)

-- ---- calls

pub apt_call : (runs : Bool) (slot : ℕ) (v : View) (other : ℕ) (c : Call) → IsOther slot other → (runs ≡ false → Rests slot v.processes) → is_fork c ≡ false
    → AreApart runs slot (call_row v other c).effects
apt_call runs slot v other (call.Open path access flags mode) apart rests no_fork = apt_open runs slot v other access flags mode (end_of v other path) apart
apt_call runs slot v other (call.Close fd) apart rests no_fork = search (apart_rules, apart)
apt_call runs slot v other (call.Dup fd) apart rests no_fork = search (apart_rules, apart)
apt_call runs slot v other (call.Dup2 fd into) apart rests no_fork = apt_dup2 runs slot v other fd into apart
apt_call runs slot v other (call.Read fd max) apart rests no_fork = apt_read_at runs slot v other fd max (file_at v other fd)
apt_call runs slot v other (call.Write fd bytes) apart rests no_fork = apt_write_at runs slot v other fd bytes (file_at v other fd)
apt_call runs slot v other call.Pipe apart rests no_fork = search (apart_rules, apart)
apt_call runs slot v other (call.Chdir path) apart rests no_fork = search (apart_rules, apart)
apt_call runs slot v other (call.Mkdir path mode) apart rests no_fork = apt_mkdir runs slot v other mode (end_of v other path)
apt_call runs slot v other (call.Rmdir path) apart rests no_fork = search apart_rules
apt_call runs slot v other (call.Unlink path) apart rests no_fork = search apart_rules
apt_call runs slot v other (call.List path from) apart rests no_fork = no_effect
apt_call runs slot v other (call.Info path) apart rests no_fork = no_effect
apt_call runs slot v other (call.Chmod path mode) apart rests no_fork = search apart_rules
apt_call runs slot v other (call.Chown path uid gid) apart rests no_fork = search apart_rules
apt_call runs slot v other (call.SetAcl path which list) apart rests no_fork = search apart_rules
apt_call runs slot v other (call.GetAcl path which) apart rests no_fork = no_effect
apt_call runs slot v other (call.SetLabel path element) apart rests no_fork = search apart_rules
apt_call runs slot v other (call.GetLabel path) apart rests no_fork = no_effect
apt_call runs slot v other (call.SetProcLabel subject) apart rests no_fork = search (apart_rules, apart)
apt_call runs slot v other call.Ident apart rests no_fork = no_effect
apt_call runs slot v other (call.SetCred cred) apart rests no_fork = search (apart_rules, apart)
apt_call runs slot v other (call.Umask mode) apart rests no_fork = search (apart_rules, apart)
apt_call runs slot v other call.Begin apart rests no_fork = search (apart_rules, apart)
apt_call runs slot v other (call.Fork note) apart rests no_fork = cc
apt_call runs slot v other (call.Exec path args) apart rests no_fork = search (apart_rules, apart)
apt_call runs slot v other (call.Exit status) apart rests no_fork = search apart_rules
apt_call runs slot v other (call.Wait pid flags) apart rests no_fork = search apart_rules
apt_call runs slot v other call.SetSid apart rests no_fork = search (apart_rules, apart)
apt_call runs slot v other (call.SetPgid pid group) apart rests no_fork =
    apt_setpgid runs slot v other group (setpgid_target v.processes (caller_of v other) pid) rests
    (λ p is. target_at v.processes (caller_of v other) pid p other is)
apt_call runs slot v other call.Ps apart rests no_fork = no_effect
apt_call runs slot v other call.Halt apart rests no_fork = search apart_rules
apt_call runs slot v other (call.Kill to signal) apart rests no_fork = search apart_rules
apt_call runs slot v other (call.SigSet signal action) apart rests no_fork = search (apart_rules, apart)
apt_call runs slot v other call.SigTake apart rests no_fork = apt_sigtake runs slot other (caller_of v other) (least_caught (caller_of v other)) apart
apt_call runs slot v other call.Pause apart rests no_fork = no_effect
apt_call runs slot v other (call.SetCtty fd) apart rests no_fork =
    apt_on_line runs slot (ttys.setctty_on v other) (ttys.tty_at v other fd) (λ m. search apart_rules)
apt_call runs slot v other (call.TcGetAttr fd) apart rests no_fork =
    apt_on_line runs slot (λ m. only (text (termios_text (termios_of v m)))) (ttys.tty_at v other fd) (λ m. no_effect)
apt_call runs slot v other (call.TcSetAttr fd at termios) apart rests no_fork =
    apt_on_line runs slot (ttys.tcsetattr_on v other at termios) (ttys.tty_at v other fd) (λ m. search (apart_rules, apt_flush))
apt_call runs slot v other (call.TcFlush fd which) apart rests no_fork =
    apt_on_line runs slot (ttys.tcflush_on v other which) (ttys.tty_at v other fd) (λ m. search apart_rules)
apt_call runs slot v other (call.TcDrain fd) apart rests no_fork = apt_on_line runs slot (ttys.tcdrain_on v other) (ttys.tty_at v other fd) (λ m. no_effect)
apt_call runs slot v other (call.TcSetPgrp fd group) apart rests no_fork =
    apt_on_line runs slot (ttys.tcsetpgrp_on v other group) (ttys.tty_at v other fd) (λ m. search apart_rules)
apt_call runs slot v other (call.TcGetPgrp fd) apart rests no_fork = apt_on_line runs slot (ttys.tcgetpgrp_on v other) (ttys.tty_at v other fd) (λ m. no_effect)
apt_call runs slot v other (call.FdName fd) apart rests no_fork = no_effect
apt_call runs slot v other (call.Revoke path) apart rests no_fork =
    apt_revoke runs slot v (caller_of v other) (ttys.tty_of_node (node_at v (path_at (end_of v other path))))
