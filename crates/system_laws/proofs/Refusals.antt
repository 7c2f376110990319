-- The own effects of checks: a check of a call sends TTIN, TTOU or PIPE at the most.
use Rattle.std.proofs.Common.{◌≡◌, ℕ, Bool, true, false, cond, List, [], ◌∷◌, ◌++◌, map, refl, ap, sym, ◌∙◌}
use Rattle.std.specs.Prelude.{◌&&◌, Option, Some, None, is_some, option_map}
use Rattle.std.specs.List.{list_all}
use Rattle.sys_types.specs.declared.rules.Rule.{Rule}
use Rattle.sys_types.specs.declared.rules.Rule.TheVariants.{Asleep, Awake}
use Rattle.sys_types.specs.declared.sig.Sig.{Sig}
use Rattle.sys_types.specs.declared.sig.Sig.TheVariants as sig
use Rattle.sys_types.specs.declared.node.Kind.{Kind}
use Rattle.sys_types.specs.declared.node.Kind.TheVariants as kind
use Rattle.call_words.specs.declared.call.Call.{Call}
use Rattle.call_words.specs.declared.call.Call.TheVariants as call
use Rattle.call_words.specs.declared.open.Access.{Access}
use Rattle.call_words.specs.declared.open.OpenFlags.{OpenFlags}
use Rattle.call_words.specs.declared.signal.To.{To}
use Rattle.tree_model.specs.Tree.{NodeRecord, WalkEnd, found, absent, missing, not_dir, name_long, path_long}
use Rattle.call_words.specs.declared.event.Event.{Event}
use Rattle.call_words.specs.declared.event.Event.TheVariants as event
use Rattle.call_words.specs.declared.event.Reason.TheVariants as reason
use Rattle.proc_table.specs.Processes.{Process, least_caught, is_stopped, running_at, pending_at}
use Rattle.proc_table.specs.Forks.{is_begin}
use Rattle.proc_table.specs.Jobs.{setpgid_target}
use Rattle.system_model.specs.Parts.{Path, Target, node, read_end, write_end, tty}
use Rattle.system_model.specs.State.{OpenFile, View}
use Rattle.system_model.specs.ProcessEffects.{post, set_pending}
use Rattle.system_model.specs.Effects.{Effect, on_processes}
use Rattle.system_model.specs.Rows.{noted, gone, Outcome, refused, early, asleep, Check, Row, check, deny, deny_by, answer_if, behind, first, also}
use Rattle.system_model.specs.Rows.{ended_by}
use Rattle.system_model.specs.Background.{background_read, background_write}
use Rattle.system_model.specs.IoCalls as io
use Rattle.system_model.specs.OpenCalls as opens
use Rattle.system_model.specs.DirCalls as dirs
use Rattle.system_model.specs.AttrCalls as attrs
use Rattle.system_model.specs.ProcCalls as procs
use Rattle.system_model.specs.SignalCalls as signals
use Rattle.system_model.specs.TtyCalls as ttys
use Rattle.system_model.specs.Looks.{on_node, caller_of, termios_of, line_of}
use Rattle.system_model.specs.LineEvents.{byte_row, carrier_row, take_row, end_row}
use Rattle.system_model.specs.Step.{call_row, run_row, begin_sleeps, gone_row, enter_row, retry_row, again_row, is_begin_pending, event_row, row}
use Rattle.system_laws.specs.Laws.{may_still_do}

-- a check, where it holds, does nothing but what a denied event may still do
pub data IsQuiet : Option Check → Type 0 where
  where_none : IsQuiet None
  where_some : (o : Outcome) (es : List Effect) → list_all may_still_do es ≡ true → IsQuiet (Some (o, es))

pub data AreQuiet : List (Option Check) → Type 0 where
  no_check : AreQuiet []
  next_check : (c : Option Check) (cs : List (Option Check)) → IsQuiet c → AreQuiet cs → AreQuiet (c ∷ cs)

pub quiet-check : (c : Bool) (o : Outcome) (es : List Effect) → list_all may_still_do es ≡ true → IsQuiet (check c o es)
quiet-check true o es are = where_some o es are
quiet-check false o es are = where_none

pub quiet-none : (c : Bool) (o : Outcome) → IsQuiet (check c o [])
quiet-none c o = quiet-check c o [] refl

pub quiet-rule : (rule : Option Rule) → IsQuiet (deny_by rule)
quiet-rule None = where_none
quiet-rule (Some r) = where_some _ [] refl

pub quiet-append : (cs ds : List (Option Check)) → AreQuiet cs → AreQuiet ds → AreQuiet (cs ++ ds)
quiet-append [] ds no_check are = are
quiet-append (c ∷ cs) ds (next_check _ _ is more) are = next_check c (cs ++ ds) is (quiet-append cs ds more are)

-- one that sends TTIN, TTOU or PIPE
quiet-ttin : (c : Bool) (o : Outcome) (to : To) → IsQuiet (check c o (on_processes (post sig.TTIN to) ∷ []))
quiet-ttin c o to = quiet-check c o _ refl

quiet-ttou : (c : Bool) (o : Outcome) (to : To) → IsQuiet (check c o (on_processes (post sig.TTOU to) ∷ []))
quiet-ttou c o to = quiet-check c o _ refl

quiet-pipe : (c : Bool) (o : Outcome) (to : To) → IsQuiet (check c o (on_processes (post sig.PIPE to) ∷ []))
quiet-pipe c o to = quiet-check c o _ refl

ruleset quiet = (no_check, next_check, quiet-none, quiet-rule, quiet-append, quiet-ttin, quiet-ttou, quiet-pipe)

quiet_background_read : (v : View) (n : ℕ) (who : Process Path) → AreQuiet (background_read v n who)
quiet_background_read v n who = search quiet

quiet_background_write : (v : View) (n : ℕ) (who : Process Path) → AreQuiet (background_write v n who)
quiet_background_write v n who = search quiet

-- ---- open(2), close(2), dup(2)

quiet_tty_checks : (v : View) (slot : ℕ) (flags : OpenFlags) (n : ℕ) → AreQuiet (opens.tty_checks v slot flags n)
quiet_tty_checks v slot flags n = search quiet

quiet_own_tty : (v : View) (slot : ℕ) (access : Access) (flags : OpenFlags) (n : Option ℕ) → AreQuiet (opens.own_tty_checks v slot access flags n)
quiet_own_tty v slot access flags None = search quiet
quiet_own_tty v slot access flags (Some n) = search (quiet, quiet_tty_checks)

quiet_kind : (v : View) (slot : ℕ) (access : Access) (flags : OpenFlags) (k : Kind) → AreQuiet (opens.kind_checks v slot access flags k)
quiet_kind v slot access flags kind.File = no_check
quiet_kind v slot access flags kind.Dir = no_check
quiet_kind v slot access flags (kind.Line n) = quiet_tty_checks v slot flags n
quiet_kind v slot access flags kind.Tty = quiet_own_tty v slot access flags (opens.own_tty v slot)

quiet_place : (v : View) (slot : ℕ) (access : Access) (flags : OpenFlags) (what : Option NodeRecord) → AreQuiet (opens.place_checks v slot access flags what)
quiet_place v slot access flags None = no_check
quiet_place v slot access flags (Some what) = quiet_kind v slot access flags what.kind

quiet_open_at : (v : View) (slot : ℕ) (access : Access) (flags : OpenFlags) (mode : ℕ) (end : WalkEnd)
    → AreQuiet (opens.open_at v slot access flags mode end).checks
quiet_open_at v slot access flags mode (found place) = search (quiet, quiet_place)
quiet_open_at v slot access flags mode (absent dir name) = search quiet
quiet_open_at v slot access flags mode missing = no_check
quiet_open_at v slot access flags mode not_dir = no_check
quiet_open_at v slot access flags mode name_long = no_check
quiet_open_at v slot access flags mode path_long = no_check

-- ---- read(2), write(2)

quiet_read_target : (v : View) (slot fd max : ℕ) (f : OpenFile) (target : Target) → AreQuiet (io.read_target v slot fd max f target).checks
quiet_read_target v slot fd max f (node path) = no_check
quiet_read_target v slot fd max f (read_end k) = search quiet
quiet_read_target v slot fd max f (write_end k) = no_check
quiet_read_target v slot fd max f (tty n) = search (quiet, quiet_background_read)

quiet_read_at : (v : View) (slot fd max : ℕ) (f : Option OpenFile) → AreQuiet (io.read_at v slot fd max f).checks
quiet_read_at v slot fd max None = no_check
quiet_read_at v slot fd max (Some f) = quiet_read_target v slot fd max f f.file.target

quiet_background_put : (v : View) (n : ℕ) (who : Process Path) → AreQuiet (io.background_put v n who)
quiet_background_put v n who = by_case (termios_of v n).flags.tostop
  where
    by_case : (t : Bool) → AreQuiet (cond t (background_write v n who) [])
    by_case true = quiet_background_write v n who
    by_case false = no_check

quiet_write_target : (v : View) (slot fd : ℕ) (bs : List ℕ) (f : OpenFile) (target : Target) → AreQuiet (io.write_target v slot fd bs f target).checks
quiet_write_target v slot fd bs f (node path) = search quiet
quiet_write_target v slot fd bs f (read_end k) = no_check
quiet_write_target v slot fd bs f (write_end k) = search quiet
quiet_write_target v slot fd bs f (tty n) = search (quiet, quiet_background_put)

quiet_write_at : (v : View) (slot fd : ℕ) (bs : List ℕ) (f : Option OpenFile) → AreQuiet (io.write_at v slot fd bs f).checks
quiet_write_at v slot fd bs None = no_check
quiet_write_at v slot fd bs (Some f) = quiet_write_target v slot fd bs f f.file.target

-- ---- calls on a node, on a directory, and on a line

quiet_on_node : (v : View) (slot : ℕ) (path : List ℕ) (row : Path → Row) → ((place : Path) → AreQuiet (row place).checks)
    → AreQuiet (on_node v slot path row).checks
quiet_on_node v slot path row are = next_check _ _ (quiet-rule _) (are _)

quiet_mkdir_at : (v : View) (slot mode : ℕ) (end : WalkEnd) → AreQuiet (dirs.mkdir_at v slot mode end).checks
quiet_mkdir_at v slot mode (found place) = search quiet
quiet_mkdir_at v slot mode (absent dir name) = search quiet
quiet_mkdir_at v slot mode missing = no_check
quiet_mkdir_at v slot mode not_dir = no_check
quiet_mkdir_at v slot mode name_long = no_check
quiet_mkdir_at v slot mode path_long = no_check

quiet_on_line : (row : ℕ → Row) (n : Option ℕ) → ((n : ℕ) → AreQuiet (row n).checks) → AreQuiet (ttys.on_line_row row n).checks
quiet_on_line row None are = no_check
quiet_on_line row (Some n) are = are n

quiet_on_tty : (v : View) (slot fd : ℕ) (row : ℕ → Row) → ((n : ℕ) → AreQuiet (row n).checks) → AreQuiet (ttys.on_tty v slot fd row).checks
quiet_on_tty v slot fd row are = search (quiet, quiet_on_line row (ttys.tty_at v slot fd) are)

quiet_setpgid : (v : View) (slot group : ℕ) (target : Option (Process Path)) → AreQuiet (procs.setpgid_on v slot group target).checks
quiet_setpgid v slot group None = search quiet
quiet_setpgid v slot group (Some target) = search quiet

quiet_sigtake : (slot : ℕ) (who : Process Path) (signal : Option Sig) → AreQuiet (signals.sigtake_of slot who signal).checks
quiet_sigtake slot who None = no_check
quiet_sigtake slot who (Some signal) = no_check

-- ---- all calls

pub quiet_call : (v : View) (slot : ℕ) (c : Call) → AreQuiet (call_row v slot c).checks
quiet_call v slot (call.Open path access flags mode) = search (quiet, quiet_open_at)
quiet_call v slot (call.Close fd) = search quiet
quiet_call v slot (call.Dup fd) = search quiet
quiet_call v slot (call.Dup2 fd into) = search quiet
quiet_call v slot (call.Read fd max) = search (quiet, quiet_read_at) depth 9
quiet_call v slot (call.Write fd bytes) = search (quiet, quiet_write_at) depth 9
quiet_call v slot call.Pipe = search quiet
quiet_call v slot (call.Chdir path) = quiet_on_node v slot path (dirs.chdir_at v slot) (λ place. search quiet depth 9)
quiet_call v slot (call.Mkdir path mode) = search (quiet, quiet_mkdir_at)
quiet_call v slot (call.Rmdir path) = quiet_on_node v slot path (dirs.rmdir_at v slot) (λ place. search quiet depth 9)
quiet_call v slot (call.Unlink path) = quiet_on_node v slot path (dirs.unlink_at v slot) (λ place. search quiet depth 9)
quiet_call v slot (call.List path from) = quiet_on_node v slot path (dirs.list_at v slot from) (λ place. search quiet depth 9)
quiet_call v slot (call.Info path) = quiet_on_node v slot path (attrs.info_at v slot) (λ place. search quiet depth 9)
quiet_call v slot (call.Chmod path mode) = quiet_on_node v slot path (attrs.chmod_at v slot mode) (λ place. search quiet depth 9)
quiet_call v slot (call.Chown path uid gid) = quiet_on_node v slot path (attrs.chown_at v slot uid gid) (λ place. search quiet depth 9)
quiet_call v slot (call.SetAcl path which list) = quiet_on_node v slot path (attrs.setacl_at v slot which list) (λ place. search quiet depth 9)
quiet_call v slot (call.GetAcl path which) = quiet_on_node v slot path (attrs.getacl_at v slot which) (λ place. search quiet depth 9)
quiet_call v slot (call.SetLabel path element) = quiet_on_node v slot path (attrs.setlabel_at v slot element) (λ place. search quiet depth 9)
quiet_call v slot (call.GetLabel path) = quiet_on_node v slot path (attrs.getlabel_at v slot) (λ place. search quiet depth 9)
quiet_call v slot (call.SetProcLabel subject) = search quiet
quiet_call v slot call.Ident = no_check
quiet_call v slot (call.SetCred cred) = search quiet
quiet_call v slot (call.Umask mode) = no_check
quiet_call v slot call.Begin = search quiet
quiet_call v slot (call.Fork note) = search quiet
quiet_call v slot (call.Exec path args) = quiet_on_node v slot path (procs.exec_at v slot args) (λ place. search quiet depth 9)
quiet_call v slot (call.Exit status) = search quiet
quiet_call v slot (call.Wait pid flags) = search quiet
quiet_call v slot call.SetSid = search quiet
quiet_call v slot (call.SetPgid pid group) = quiet_setpgid v slot group (setpgid_target v.processes (caller_of v slot) pid)
quiet_call v slot call.Ps = no_check
quiet_call v slot call.Halt = search quiet
quiet_call v slot (call.Kill to signal) = search quiet
quiet_call v slot (call.SigSet signal action) = search quiet
quiet_call v slot call.SigTake = quiet_sigtake slot (caller_of v slot) (least_caught (caller_of v slot))
quiet_call v slot call.Pause = search quiet
quiet_call v slot (call.SetCtty fd) = quiet_on_tty v slot fd (ttys.setctty_on v slot) (λ n. search quiet depth 9)
quiet_call v slot (call.TcGetAttr fd) = quiet_on_tty v slot fd _ (λ n. no_check)
quiet_call v slot (call.TcSetAttr fd when termios) =
    quiet_on_tty v slot fd (ttys.tcsetattr_on v slot when termios) (λ n. search (quiet, quiet_background_write))
quiet_call v slot (call.TcFlush fd which) = quiet_on_tty v slot fd (ttys.tcflush_on v slot which) (λ n. search (quiet, quiet_background_write))
quiet_call v slot (call.TcDrain fd) = quiet_on_tty v slot fd (ttys.tcdrain_on v slot) (λ n. search (quiet, quiet_background_write))
quiet_call v slot (call.TcSetPgrp fd group) = quiet_on_tty v slot fd (ttys.tcsetpgrp_on v slot group) (λ n. search (quiet, quiet_background_write))
quiet_call v slot (call.TcGetPgrp fd) = quiet_on_tty v slot fd (ttys.tcgetpgrp_on v slot) (λ n. search quiet depth 9)
quiet_call v slot (call.FdName fd) = search quiet
quiet_call v slot (call.Revoke path) = quiet_on_node v slot path (ttys.revoke_at v slot) (λ place. search quiet depth 9)

-- ---- all events

-- both of two lists
pub all-both : (first rest : Bool) → (first && rest) ≡ true → (first ≡ true) × (rest ≡ true)
all-both true true is = (refl, refl)
all-both true false is = cc
all-both false rest is = cc

pub all-append : (es fs : List Effect) → list_all may_still_do es ≡ true → list_all may_still_do fs ≡ true → list_all may_still_do (es ++ fs) ≡ true
all-append [] fs are more = more
all-append (e ∷ es) fs are more =
    let both = all-both (may_still_do e) (list_all may_still_do es) are in
    rw (both.0, all-append es fs both.1 more) refl

-- the first check of a row that denies does no more than it may
abbrev pub IsCareful : Row → Type 0
IsCareful r = (rule : Rule) (es : List Effect) → first r.checks ≡ Some (refused rule, es) → list_all may_still_do es ≡ true

abbrev effects_in : Option Check → List Effect
effects_in None = []
effects_in (Some c) = c.1

abbrev outcome_in : Option Check → Outcome
outcome_in None = refused Asleep
outcome_in (Some c) = c.0

some-second : (o p : Outcome) (es fs : List Effect) → ◌≡◌ {A = Option Check} (Some (p, fs)) (Some (o, es)) → es ≡ fs
some-second o p es fs is = sym (ap effects_in is)

pub first-quiet : (cs : List (Option Check)) (o : Outcome) (es : List Effect) → AreQuiet cs → first cs ≡ Some (o, es) → list_all may_still_do es ≡ true
first-quiet [] o es are is = cc
first-quiet (None ∷ cs) o es (next_check _ _ where_none more) is = first-quiet cs o es more is
first-quiet (Some c ∷ cs) o es (next_check _ _ (where_some p fs those) more) is = rw (some-second o p es fs is) those

same-rule : (other rule : Rule) (fs gs es : List Effect) → ◌≡◌ {A = Option Check} (Some (refused other, gs)) (Some (refused rule, es))
    → ◌≡◌ {A = Option Check} (Some (refused other, fs)) (Some (refused rule, fs))
same-rule other rule fs gs es is = ap (λ o. Some (outcome_in o, fs)) is

careful-quiet : (r : Row) → AreQuiet r.checks → IsCareful r
careful-quiet r are rule es is = first-quiet r.checks (refused rule) es are is

careful-behind : (c : Option Check) (r : Row) → IsQuiet c → IsCareful r → IsCareful (behind (c ∷ []) r)
careful-behind None r where_none careful rule es is = careful rule es is
careful-behind (Some c) r (where_some o fs are) careful rule es is = rw (some-second (refused rule) o es fs is) are

first-map : (f : Check → Check) (cs : List (Option Check)) → first (map (option_map f) cs) ≡ option_map f (first cs)
first-map f [] = refl
first-map f (None ∷ cs) = first-map f cs
first-map f (Some c ∷ cs) = refl

-- a denial that ends with more effects is one without them
ended-first : (sleeps wakes : List Effect) (o : Option Check) (rule : Rule) (es : List Effect) → list_all may_still_do wakes ≡ true
    → ((fs : List Effect) → o ≡ Some (refused rule, fs) → list_all may_still_do fs ≡ true) → option_map (also sleeps wakes) o ≡ Some (refused rule, es)
    → list_all may_still_do es ≡ true
ended-first sleeps wakes None rule es quiet careful is = cc
ended-first sleeps wakes (Some (refused other, fs)) rule es quiet careful is =
    rw (some-second (refused rule) (refused other) es (fs ++ wakes) is) (all-append fs wakes (careful fs (same-rule other rule fs (fs ++ wakes) es is)) quiet)
ended-first sleeps wakes (Some (early given, fs)) rule es quiet careful is = let o : early given ≡ refused rule = ap outcome_in is in cc
ended-first sleeps wakes (Some (asleep reason, fs)) rule es quiet careful is = let o : asleep reason ≡ refused rule = ap outcome_in is in cc

careful-ended : (sleeps wakes : List Effect) (r : Row) → list_all may_still_do wakes ≡ true → IsCareful r → IsCareful (ended_by sleeps wakes r)
unfolding ended_by
careful-ended sleeps wakes r quiet careful = λ rule es is.
    ended-first sleeps wakes (first r.checks) rule es quiet (λ fs was. careful rule fs was) (sym (first-map (also sleeps wakes) r.checks) ∙ is)

careful-begin : (v : View) (slot : ℕ) (pending : List Effect) → IsCareful (begin_sleeps v slot pending)
careful-begin v slot pending rule es is = let o : asleep reason.Begin ≡ refused rule = ap outcome_in is in cc

careful-gone : (v : View) (slot : ℕ) → IsCareful (gone_row v slot)
careful-gone v slot rule es is = cc

careful-if : (t : Bool) (r q : Row) → IsCareful r → IsCareful q → IsCareful (cond t r q)
careful-if true r q first second = first
careful-if false r q first second = second

careful-run : (v : View) (slot : ℕ) (who : Process Path) (c : Call) → IsCareful (run_row v slot who c)
careful-run v slot who c = careful-quiet (run_row v slot who c) (next_check _ _ (quiet-none (is_stopped who) (asleep reason.Stop)) (quiet_call v slot c))

careful-enter : (v : View) (slot : ℕ) (c : Call) (who : Option (Process Path)) → IsCareful (enter_row v slot c who)
careful-enter v slot c None = careful-if (is_begin c) _ _ (careful-begin v slot (on_processes (set_pending slot (Some c)) ∷ [])) (careful-gone v slot)
careful-enter v slot c (Some who) =
    careful-behind (deny (is_some (pending_at v.processes slot)) Asleep) (ended_by (on_processes (set_pending slot (Some c)) ∷ []) [] (run_row v slot who c))
    (quiet-none (is_some (pending_at v.processes slot)) (refused Asleep))
    (careful-ended (on_processes (set_pending slot (Some c)) ∷ []) [] (run_row v slot who c) refl (careful-run v slot who c))

careful-retry : (v : View) (slot : ℕ) (who : Process Path) (c : Option Call) → IsCareful (retry_row v slot who c)
careful-retry v slot who None = careful-quiet (retry_row v slot who None) (next_check _ _ (quiet-none true (refused Awake)) no_check)
careful-retry v slot who (Some c) = careful-ended [] (on_processes (set_pending slot None) ∷ []) (run_row v slot who c) refl (careful-run v slot who c)

careful-again : (v : View) (slot : ℕ) (who : Option (Process Path)) → IsCareful (again_row v slot who)
careful-again v slot None = careful-if (is_begin_pending (pending_at v.processes slot)) _ _ (careful-begin v slot []) (careful-gone v slot)
careful-again v slot (Some who) = careful-retry v slot who (pending_at v.processes slot)

careful-event : (v : View) (e : Event) → IsCareful (event_row v e)
careful-event v (event.Call slot c) = careful-enter v slot c (running_at v.processes slot)
careful-event v (event.Again slot) = careful-again v slot (running_at v.processes slot)
careful-event v (event.Byte n b) = careful-quiet (byte_row v n b) no_check
careful-event v (event.Carrier n up) = careful-quiet (carrier_row v n up) no_check
careful-event v (event.Take n max) = careful-quiet (take_row v n max) no_check
careful-event v (event.Ended n) = careful-quiet (end_row v n) (next_check _ _ (quiet-none (line_of v n).ended (early noted)) no_check)

pub careful : (v : View) (e : Event) → IsCareful (row v e)
careful v e = careful-behind (answer_if v.halted gone) (event_row v e) (quiet-none v.halted (early gone)) (careful-event v e)
