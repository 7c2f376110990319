-- A call, where no check stops it, puts at a place only what is of the line that was there, or of none where none was.
use Rattle.std.proofs.Common.{◌≡◌, ℕ, Bool, true, false, cond, List, [], ◌∷◌, ◌++◌, refl, ap, sym}
use Rattle.std.specs.Prelude.{◌==◌, not, Option, Some, None}
use Rattle.sys_types.specs.declared.sig.Sig.{Sig}
use Rattle.sys_types.specs.declared.rules.Rule.TheVariants.{IsDir}
use Rattle.acl_core.specs.declared.entry.Entry.{Entry}
use Rattle.sys_types.specs.declared.node.Kind.{Kind}
use Rattle.sys_types.specs.declared.node.Kind.TheVariants as kind
use Rattle.call_words.specs.declared.attr.WhichList.{WhichList}
use Rattle.call_words.specs.declared.attr.WhichList.TheVariants.{Access as AccessList, Default}
use Rattle.call_words.specs.declared.call.Call.{Call}
use Rattle.call_words.specs.declared.call.Call.TheVariants as call
use Rattle.call_words.specs.declared.open.Access.{Access}
use Rattle.call_words.specs.declared.open.OpenFlags.{OpenFlags}
use Rattle.call_words.specs.declared.tty.When.{When}
use Rattle.call_words.specs.declared.tty.When.TheVariants as when
use Rattle.proc_table.specs.Processes.{Process, least_caught}
use Rattle.proc_table.specs.Jobs.{setpgid_target}
use Rattle.tree_model.specs.Tree.{NodeRecord, WalkEnd, found, absent, missing, not_dir, name_long, path_long, is_dir_record}
use Rattle.tree_model.specs.Paths.{path_at}
use Rattle.tree_model.specs.Contents.{with_contents}
use Rattle.tree_model.specs.Attributes.{with_bits, with_owner, with_element, with_entries}
use Rattle.termios_core.specs.Text.{termios_text}
use Rattle.system_model.specs.Parts.{Path, Target, node, read_end, write_end, tty}
use Rattle.system_model.specs.State.{OpenFile, View}
use Rattle.system_model.specs.FileEffects.{FileEffect}
use Rattle.system_model.specs.PipeEffects.{PipeEffect}
use Rattle.system_model.specs.LineEffects.{LineEffect}
use Rattle.system_model.specs.TreeEffects.{set_node}
use Rattle.system_model.specs.ProcessEffects.{ProcessEffect}
use Rattle.system_model.specs.Effects.{Effect, on_files, on_pipes, on_lines, on_tree, on_processes, halt}
use Rattle.system_model.specs.Rows.{Row, deny, text, only, first}
use Rattle.system_model.specs.Looks.{caller_of, line_of, file_at, node_at, node_check, end_of, termios_of}
use Rattle.system_model.specs.OpenCalls as opens
use Rattle.system_model.specs.IoCalls as io
use Rattle.system_model.specs.DirCalls as dirs
use Rattle.system_model.specs.AttrCalls as attrs
use Rattle.system_model.specs.ProcCalls as procs
use Rattle.system_model.specs.SignalCalls as signals
use Rattle.system_model.specs.TtyCalls as ttys
use Rattle.system_model.specs.TtyCalls.{tty_of_kind, tty_of_node}
use Rattle.system_model.specs.Step.{call_row}
use Rattle.system_laws.proofs.LineNodes.{KeepLines, keep_none, keep_next}
use Rattle.system_laws.proofs.NodesKept.{none-after, none-first, not-denied, kept-kind, no-device, dir-line, keep-made}

pub keep-append : (v : View) (es fs : List Effect) → KeepLines v es → KeepLines v fs → KeepLines v (es ++ fs)
keep-append v [] fs keep_none keep = keep
keep-append v (e ∷ es) fs (keep_next _ _ is more) keep = keep_next e (es ++ fs) is (keep-append v es fs more keep)

pub keep-if : (v : View) (t : Bool) (es fs : List Effect) → KeepLines v es → KeepLines v fs → KeepLines v (cond t es fs)
keep-if v true es fs first second = first
keep-if v false es fs first second = second

pub keep-file : (v : View) (e : FileEffect) (es : List Effect) → KeepLines v es → KeepLines v (on_files e ∷ es)
keep-file v e es keep = keep_next _ _ tt keep

pub keep-pipe : (v : View) (e : PipeEffect) (es : List Effect) → KeepLines v es → KeepLines v (on_pipes e ∷ es)
keep-pipe v e es keep = keep_next _ _ tt keep

pub keep-line : (v : View) (e : LineEffect) (es : List Effect) → KeepLines v es → KeepLines v (on_lines e ∷ es)
keep-line v e es keep = keep_next _ _ tt keep

pub keep-process : (v : View) (e : ProcessEffect) (es : List Effect) → KeepLines v es → KeepLines v (on_processes e ∷ es)
keep-process v e es keep = keep_next _ _ tt keep

pub keep-halt : (v : View) (es : List Effect) → KeepLines v es → KeepLines v (halt ∷ es)
keep-halt v es keep = keep_next _ _ tt keep

pub keep-fds : (v : View) (slot : ℕ) (fds : List ℕ) → KeepLines v (procs.close_fds slot fds)
keep-fds v slot [] = keep_none
keep-fds v slot (fd ∷ fds) = keep_next _ _ tt (keep-fds v slot fds)

pub keep-posts : (v : View) (signal : Sig) (whom : List (Process Path)) → KeepLines v (signals.post_each signal whom)
keep-posts v signal [] = keep_none
keep-posts v signal (p ∷ ps) = keep_next _ _ tt (keep-posts v signal ps)

pub ruleset keeping = (keep_none, keep-append, keep-if, keep-file, keep-pipe, keep-line, keep-process, keep-halt, keep-fds, keep-posts)

-- ---- open(2)

keep-tty : (v : View) (slot : ℕ) (access : Access) (flags : OpenFlags) (m : Option ℕ) → KeepLines v (opens.tty_effects slot access flags m)
keep-tty v slot access flags None = keep_none
keep-tty v slot access flags (Some m) = search keeping

keep-truncations : (v : View) (place : Path) (flags : OpenFlags) (what : NodeRecord) → node_at v place ≡ Some what
    → KeepLines v (opens.truncations place flags what)
keep-truncations v place flags what there =
    keep-if v flags.truncate (on_tree (set_node place (Some (with_contents [] what))) ∷ []) []
    (keep_next _ [] (sym (ap tty_of_node there)) keep_none) keep_none

keep-kind : (v : View) (slot : ℕ) (place : Path) (access : Access) (flags : OpenFlags) (what : NodeRecord) (k : Kind) → node_at v place ≡ Some what
    → KeepLines v (opens.kind_effects v slot place access flags what k)
keep-kind v slot place access flags what kind.File there = keep-append v _ _ (keep-truncations v place flags what there) (search keeping)
keep-kind v slot place access flags what kind.Dir there = keep_none
keep-kind v slot place access flags what (kind.Line m) there = keep-tty v slot access flags (Some m)
keep-kind v slot place access flags what kind.Tty there = keep-tty v slot access flags (opens.own_tty v slot)

keep-place : (v : View) (slot : ℕ) (place : Path) (access : Access) (flags : OpenFlags) (what : Option NodeRecord) → node_at v place ≡ what
    → KeepLines v (opens.place_effects v slot place access flags what)
keep-place v slot place access flags None there = keep_none
keep-place v slot place access flags (Some what) there = keep-kind v slot place access flags what what.kind there

keep-open : (v : View) (slot : ℕ) (path : List ℕ) (access : Access) (flags : OpenFlags) (mode : ℕ) (end : WalkEnd) → end_of v slot path ≡ end
    → KeepLines v (opens.open_at v slot access flags mode end).effects
keep-open v slot path access flags mode (found place) ends = keep-place v slot place access flags (node_at v place) refl
keep-open v slot path access flags mode (absent dir name) ends = keep-made v slot path dir name kind.File mode _ ends refl (search keeping)
keep-open v slot path access flags mode missing ends = keep_none
keep-open v slot path access flags mode not_dir ends = keep_none
keep-open v slot path access flags mode name_long ends = keep_none
keep-open v slot path access flags mode path_long ends = keep_none

-- ---- read(2), write(2)

keep-read : (v : View) (slot fd max : ℕ) (f : OpenFile) (target : Target) → KeepLines v (io.read_target v slot fd max f target).effects
keep-read v slot fd max f (node path) = search keeping
keep-read v slot fd max f (read_end k) = search keeping
keep-read v slot fd max f (write_end k) = search keeping
keep-read v slot fd max f (tty m) = search keeping

keep-read-at : (v : View) (slot fd max : ℕ) (f : Option OpenFile) → KeepLines v (io.read_at v slot fd max f).effects
keep-read-at v slot fd max None = keep_none
keep-read-at v slot fd max (Some f) = keep-read v slot fd max f f.file.target

keep-write : (v : View) (slot fd : ℕ) (bs : List ℕ) (f : OpenFile) (target : Target) → KeepLines v (io.write_target v slot fd bs f target).effects
keep-write v slot fd bs f (node path) = keep_next _ _ (kept-kind _ (node_at v path) (λ what. refl)) (search keeping)
keep-write v slot fd bs f (read_end k) = search keeping
keep-write v slot fd bs f (write_end k) = search keeping
keep-write v slot fd bs f (tty m) = search keeping

keep-write-at : (v : View) (slot fd : ℕ) (bs : List ℕ) (f : Option OpenFile) → KeepLines v (io.write_at v slot fd bs f).effects
keep-write-at v slot fd bs None = keep_none
keep-write-at v slot fd bs (Some f) = keep-write v slot fd bs f f.file.target

-- ---- directories

keep-mkdir : (v : View) (slot : ℕ) (path : List ℕ) (mode : ℕ) (end : WalkEnd) → end_of v slot path ≡ end → KeepLines v (dirs.mkdir_at v slot mode end).effects
keep-mkdir v slot path mode (found place) ends = keep_none
keep-mkdir v slot path mode (absent dir name) ends = keep-made v slot path dir name kind.Dir mode [] ends refl keep_none
keep-mkdir v slot path mode missing ends = keep_none
keep-mkdir v slot path mode not_dir ends = keep_none
keep-mkdir v slot path mode name_long ends = keep_none
keep-mkdir v slot path mode path_long ends = keep_none

-- a directory goes, or what is no line
keep-rmdir : (v : View) (slot : ℕ) (path : List ℕ) → first (call_row v slot (call.Rmdir path)).checks ≡ None
    → KeepLines v (call_row v slot (call.Rmdir path)).effects
keep-rmdir v slot path none =
    let place = path_at (end_of v slot path) in
    let dir : not (is_dir_record (node_at v place)) ≡ false = not-denied _ _ (none-first _ _ (none-after (node_check v slot path) _ none)) in
    keep_next _ [] (sym (dir-line (node_at v place) (not-not (is_dir_record (node_at v place)) dir))) keep_none
  where
    not-not : (t : Bool) → not t ≡ false → t ≡ true
    not-not true is = refl
    not-not false is = cc

keep-unlink : (v : View) (slot : ℕ) (path : List ℕ) → first (call_row v slot (call.Unlink path)).checks ≡ None
    → KeepLines v (call_row v slot (call.Unlink path)).effects
keep-unlink v slot path none =
    let place = path_at (end_of v slot path) in
    let device : dirs.is_device (node_at v place) ≡ false =
    not-denied _ _ (none-first _ _ (none-after (deny (is_dir_record (node_at v place)) IsDir) _ (none-after (node_check v slot path) _ none)))
    in
    keep_next _ [] (sym (no-device (node_at v place) device)) keep_none

-- ---- what a node is

keep-change : (v : View) (place : Path) (how : NodeRecord → NodeRecord) → ((what : NodeRecord) → (how what).kind ≡ what.kind)
    → KeepLines v (attrs.change_node v place how)
keep-change v place how same = keep_next _ [] (kept-kind how (node_at v place) same) keep_none

entries-kind : (which : WhichList) (entries : List Entry) (what : NodeRecord) → (with_entries which entries what).kind ≡ what.kind
entries-kind AccessList entries what = refl
entries-kind Default entries what = refl

-- ---- the others

keep-dup2 : (v : View) (slot fd into : ℕ) → KeepLines v (opens.dup2_effects v slot fd into)
keep-dup2 v slot fd into = keep-if v (fd == into) _ _ keep_none (search keeping)

keep-on-line : (v : View) (row : ℕ → Row) (m : Option ℕ) → ((m : ℕ) → KeepLines v (row m).effects) → KeepLines v (ttys.on_line_row row m).effects
keep-on-line v row None keep = keep_none
keep-on-line v row (Some m) keep = keep m

keep-setpgid : (v : View) (slot group : ℕ) (target : Option (Process Path)) → KeepLines v (procs.setpgid_on v slot group target).effects
keep-setpgid v slot group None = keep_none
keep-setpgid v slot group (Some target) = search keeping

keep-sigtake : (v : View) (slot : ℕ) (who : Process Path) (signal : Option Sig) → KeepLines v (signals.sigtake_of slot who signal).effects
keep-sigtake v slot who None = keep_none
keep-sigtake v slot who (Some signal) = search keeping

keep-flush : (v : View) (at : When) (m : ℕ) → KeepLines v (ttys.flush_first at m)
keep-flush v when.Now m = keep_none
keep-flush v when.Flush m = search keeping

keep-leader : (v : View) (who : Process Path) (session : Option ℕ) → KeepLines v (ttys.tell_leader who session)
keep-leader v who None = keep_none
keep-leader v who (Some session) = keep-if v (who.pid == session) _ _ keep_none (search keeping)

keep-revoke : (v : View) (who : Process Path) (m : Option ℕ) → KeepLines v (ttys.revoke_effects v who m)
keep-revoke v who None = keep_none
keep-revoke v who (Some m) = keep-line v _ _ (keep-leader v who (line_of v m).session)

-- ---- all calls

pub keep_call : (v : View) (slot : ℕ) (c : Call) → first (call_row v slot c).checks ≡ None → KeepLines v (call_row v slot c).effects
keep_call v slot (call.Open path access flags mode) none = keep-open v slot path access flags mode (end_of v slot path) refl
keep_call v slot (call.Close fd) none = search keeping
keep_call v slot (call.Dup fd) none = search keeping
keep_call v slot (call.Dup2 fd into) none = keep-dup2 v slot fd into
keep_call v slot (call.Read fd max) none = keep-read-at v slot fd max (file_at v slot fd)
keep_call v slot (call.Write fd bytes) none = keep-write-at v slot fd bytes (file_at v slot fd)
keep_call v slot call.Pipe none = search keeping
keep_call v slot (call.Chdir path) none = search keeping
keep_call v slot (call.Mkdir path mode) none = keep-mkdir v slot path mode (end_of v slot path) refl
keep_call v slot (call.Rmdir path) none = keep-rmdir v slot path none
keep_call v slot (call.Unlink path) none = keep-unlink v slot path none
keep_call v slot (call.List path from) none = keep_none
keep_call v slot (call.Info path) none = keep_none
keep_call v slot (call.Chmod path mode) none = keep-change v (path_at (end_of v slot path)) (with_bits mode) (λ what. refl)
keep_call v slot (call.Chown path uid gid) none = keep-change v (path_at (end_of v slot path)) (with_owner uid gid) (λ what. refl)
keep_call v slot (call.SetAcl path which list) none =
    keep-change v (path_at (end_of v slot path)) (with_entries which list) (entries-kind which list)
keep_call v slot (call.GetAcl path which) none = keep_none
keep_call v slot (call.SetLabel path element) none = keep-change v (path_at (end_of v slot path)) (with_element element) (λ what. refl)
keep_call v slot (call.GetLabel path) none = keep_none
keep_call v slot (call.SetProcLabel subject) none = search keeping
keep_call v slot call.Ident none = keep_none
keep_call v slot (call.SetCred cred) none = search keeping
keep_call v slot (call.Umask mode) none = search keeping
keep_call v slot call.Begin none = search keeping
keep_call v slot (call.Fork note) none = search keeping
keep_call v slot (call.Exec path args) none = search keeping
keep_call v slot (call.Exit status) none = search keeping
keep_call v slot (call.Wait pid flags) none = search keeping
keep_call v slot call.SetSid none = search keeping
keep_call v slot (call.SetPgid pid group) none = keep-setpgid v slot group (setpgid_target v.processes (caller_of v slot) pid)
keep_call v slot call.Ps none = keep_none
keep_call v slot call.Halt none = search keeping
keep_call v slot (call.Kill to signal) none = search keeping
keep_call v slot (call.SigSet signal action) none = search keeping
keep_call v slot call.SigTake none = keep-sigtake v slot (caller_of v slot) (least_caught (caller_of v slot))
keep_call v slot call.Pause none = keep_none
keep_call v slot (call.SetCtty fd) none = keep-on-line v (ttys.setctty_on v slot) (ttys.tty_at v slot fd) (λ m. search keeping)
keep_call v slot (call.TcGetAttr fd) none = keep-on-line v (λ m. only (text (termios_text (termios_of v m)))) (ttys.tty_at v slot fd) (λ m. keep_none)
keep_call v slot (call.TcSetAttr fd at termios) none =
    keep-on-line v (ttys.tcsetattr_on v slot at termios) (ttys.tty_at v slot fd) (λ m. search (keeping, keep-flush))
keep_call v slot (call.TcFlush fd which) none = keep-on-line v (ttys.tcflush_on v slot which) (ttys.tty_at v slot fd) (λ m. search keeping)
keep_call v slot (call.TcDrain fd) none = keep-on-line v (ttys.tcdrain_on v slot) (ttys.tty_at v slot fd) (λ m. keep_none)
keep_call v slot (call.TcSetPgrp fd group) none = keep-on-line v (ttys.tcsetpgrp_on v slot group) (ttys.tty_at v slot fd) (λ m. search keeping)
keep_call v slot (call.TcGetPgrp fd) none = keep-on-line v (ttys.tcgetpgrp_on v slot) (ttys.tty_at v slot fd) (λ m. keep_none)
keep_call v slot (call.FdName fd) none = keep_none
keep_call v slot (call.Revoke path) none = keep-revoke v (caller_of v slot) (ttys.tty_of_node (node_at v (path_at (end_of v slot path))))
