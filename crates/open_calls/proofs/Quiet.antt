-- No check of open(2) has effects of its own, and how an open is shown to do its row.
use Rattle.std.proofs.Common.{◌≡◌, ℕ, Bool, true, false, List, [], ◌∷◌, ◌++◌, length, not, Option, Some, None, refl, sym, ap, ◌∙◌, subst}
use Rattle.std.specs.Prelude.{◌&&◌, ◌==◌}
use Rattle.sys_types.specs.declared.node.Kind.{Kind}
use Rattle.sys_types.specs.declared.node.Kind.TheVariants as kind
use Rattle.sys_types.specs.declared.rules.Rule.{Rule}
use Rattle.sys_types.specs.declared.rules.Rule.TheVariants.{Exists, NoEntry, IsDir, Flags, Ended, Zombie, Pool}
use Rattle.sys_types.specs.declared.limits.TheConstants.{NODES}
use Rattle.call_words.specs.Calls.{can_read, can_write}
use Rattle.call_words.specs.declared.event.Reason.TheVariants as reason
use Rattle.fd_table.specs.Calls.{room_rule}
use Rattle.tree_model.specs.NewNodes.{make_rule_in}
use Rattle.tree_model.specs.Paths.{access_rule, path_rule}
use Rattle.tree_model.specs.Tree.{NodeRecord, WalkEnd, at_path, is_dir_record, found, absent, missing, not_dir, name_long, path_long}
use Rattle.call_words.specs.declared.event.Decision.{Decision}
use Rattle.call_words.specs.declared.event.Decision.TheVariants.{Answer}
use Rattle.call_words.specs.declared.event.Reply.TheVariants.{Num}
use Rattle.call_words.specs.declared.event.Reason.{Reason}
use Rattle.call_words.specs.declared.open.Access.{Access}
use Rattle.call_words.specs.declared.open.OpenFlags.{OpenFlags}
use Rattle.fd_table.specs.Shared.{lowest_number}
use Rattle.proc_table.specs.Processes.{Process}
use Rattle.system_model.specs.Parts.{Path}
use Rattle.system_model.specs.State.{View}
use Rattle.system_model.specs.Effects.{change_all}
use Rattle.system_model.specs.Looks.{caller_of, line_of, tty_path, node_at, access_check, make_check, path_check, end_of}
use Rattle.system_model.specs.OpenCalls.{tty_checks, own_tty, own_tty_checks, kind_checks, place_checks, room_check, flags_clash, open_at, open_row}
use Rattle.system_model.specs.OpenCalls.{waits_for_carrier, lacks_blocks}
use Rattle.system_model.specs.Rows.{Check, deny, deny_by, sleep_if, first, Does, noted, decision_by, effects_by, answer_of}
use Rattle.system_model.specs.Tables.{Tables, view_of}
use Rattle.system_model.specs.Verdicts.{check_of}
use Rattle.system_model.specs.declared.verdict.Verdict.{Verdict}
use Rattle.system_model.proofs.RowLemmas.{goes_on}
use Rattle.system_model.proofs.VerdictRows.{settles}
use Rattle.open_calls.specs.Openings.{IsFirst, Opens, effects_of}
use Rattle.open_calls.specs.declared.openings.Opening.{Opening}

-- the first check that holds does nothing
abbrev Quiet : List (Option Check) → Type 0
Quiet checks = effects_by (first checks) [] ≡ []

deny-first : (b : Bool) (rule : Rule) (checks : List (Option Check)) → Quiet checks → Quiet (deny b rule ∷ checks)
deny-first true rule checks rest = refl
deny-first false rule checks rest = rest

rule-first : (o : Option Rule) (checks : List (Option Check)) → Quiet checks → Quiet (deny_by o ∷ checks)
rule-first None checks rest = rest
rule-first (Some rule) checks rest = refl

sleep-first : (b : Bool) (who : Process Path) (why : Reason) (checks : List (Option Check)) → Quiet checks → Quiet (sleep_if b who why ∷ checks)
sleep-first true who why checks rest = refl
sleep-first false who why checks rest = rest

join-quiet : (checks more : List (Option Check)) → Quiet checks → Quiet more → Quiet (checks ++ more)
join-quiet [] more is rest = rest
join-quiet (None ∷ checks) more is rest = join-quiet checks more is rest
join-quiet (Some c ∷ checks) more is rest = is

tty-quiet : (v : View) (slot : ℕ) (flags : OpenFlags) (n : ℕ) → Quiet (tty_checks v slot flags n)
tty-quiet v slot flags n =
    deny-first (line_of v n).ended Ended
    (deny (line_of v n).zombie Zombie ∷ sleep_if (waits_for_carrier v flags n) (caller_of v slot) reason.Carrier ∷ deny (lacks_blocks v n) Pool ∷ [])
    (deny-first (line_of v n).zombie Zombie
    (sleep_if (waits_for_carrier v flags n) (caller_of v slot) reason.Carrier ∷ deny (lacks_blocks v n) Pool ∷ [])
    (sleep-first (waits_for_carrier v flags n) (caller_of v slot) reason.Carrier (deny (lacks_blocks v n) Pool ∷ [])
    (deny-first (lacks_blocks v n) Pool [] refl)))

abbrev access-of : View → ℕ → Path → Access → Option Rule
access-of v slot place access =
    access_rule (caller_of v slot).cred (caller_of v slot).label (node_at v place) (can_read access) (can_write access) false

own-quiet : (v : View) (slot : ℕ) (access : Access) (flags : OpenFlags) (o : Option ℕ) → Quiet (own_tty_checks v slot access flags o)
own-quiet v slot access flags None = refl
own-quiet v slot access flags (Some n) = rule-first (access-of v slot (tty_path n) access) (tty_checks v slot flags n) (tty-quiet v slot flags n)

kind-quiet : (v : View) (slot : ℕ) (access : Access) (flags : OpenFlags) (what : Kind) → Quiet (kind_checks v slot access flags what)
kind-quiet v slot access flags kind.File = refl
kind-quiet v slot access flags kind.Dir = refl
kind-quiet v slot access flags (kind.Line n) = tty-quiet v slot flags n
kind-quiet v slot access flags kind.Tty = own-quiet v slot access flags (own_tty v slot)

place-quiet : (v : View) (slot : ℕ) (access : Access) (flags : OpenFlags) (o : Option NodeRecord) → Quiet (place_checks v slot access flags o)
place-quiet v slot access flags None = refl
place-quiet v slot access flags (Some r) = kind-quiet v slot access flags r.kind

at-quiet : (v : View) (slot : ℕ) (access : Access) (flags : OpenFlags) (mode : ℕ) (end : WalkEnd) → Quiet (open_at v slot access flags mode end).checks
at-quiet v slot access flags mode (found place) =
    let rest = place_checks v slot access flags (node_at v place) ++ room_check v slot ∷ [] in
    deny-first (flags.create && flags.exclusive) Exists
    (deny (is_dir_record (node_at v place)) IsDir ∷ access_check v slot place (can_read access) (can_write access) false ∷ rest)
    (deny-first (is_dir_record (node_at v place)) IsDir (access_check v slot place (can_read access) (can_write access) false ∷ rest)
    (rule-first (access-of v slot place access) rest
    (join-quiet (place_checks v slot access flags (node_at v place)) (room_check v slot ∷ []) (place-quiet v slot access flags (node_at v place))
    (rule-first (room_rule v.descriptors slot 1) [] refl))))
at-quiet v slot access flags mode (absent dir name) =
    deny-first (not flags.create) NoEntry (make_check v slot dir ∷ room_check v slot ∷ [])
    (rule-first (make_rule_in (caller_of v slot).cred (caller_of v slot).label (node_at v dir) (length v.tree == NODES)) (room_check v slot ∷ [])
    (rule-first (room_rule v.descriptors slot 1) [] refl))
at-quiet v slot access flags mode missing = refl
at-quiet v slot access flags mode not_dir = refl
at-quiet v slot access flags mode name_long = refl
at-quiet v slot access flags mode path_long = refl

row-quiet : (v : View) (slot : ℕ) (path : List ℕ) (access : Access) (flags : OpenFlags) (mode : ℕ) → Quiet (open_row v slot path access flags mode).checks
row-quiet v slot path access flags mode =
    deny-first (flags_clash access flags) Flags (path_check v slot path ∷ (open_at v slot access flags mode (end_of v slot path)).checks)
    (rule-first (path_rule (at_path v.tree) (caller_of v slot).cred (caller_of v slot).label (caller_of v slot).directory path)
    (open_at v slot access flags mode (end_of v slot path)).checks (at-quiet v slot access flags mode (end_of v slot path)))

-- a check holds
pub open_held : (v : View) (slot : ℕ) (path : List ℕ) (access : Access) (flags : OpenFlags) (mode : ℕ) (w : Verdict) (d : Decision)
    → IsFirst v slot (open_row v slot path access flags mode).checks w → d ≡ decision_by (check_of (caller_of v slot) w) noted
    → Does v v d (open_row v slot path access flags mode)
open_held v slot path access flags mode w d is answer =
    settles (caller_of v slot) w v v d (open_row v slot path access flags mode) is.held is.check
    (sym (ap (λ o. change_all v (effects_by o [])) is.check ∙ ap (change_all v) (row-quiet v slot path access flags mode)))
    answer

-- none does
pub open_done : (t : Tables) (new : View) (slot : ℕ) (path : List ℕ) (access : Access) (flags : OpenFlags) (mode answer : ℕ) (d : Decision) (what : Opening)
    → Opens t slot path access flags mode what → new ≡ change_all (view_of t) (effects_of t slot access flags mode what)
    → answer ≡ lowest_number t.descriptors.table slot → d ≡ Answer (Num answer) → Does (view_of t) new d (open_row (view_of t) slot path access flags mode)
open_done t new slot path access flags mode answer d what opens state number is =
    subst (λ e. Does (view_of t) new e (open_row (view_of t) slot path access flags mode))
    (ap answer_of opens.answer ∙ ap (λ n. Answer (Num n)) (sym number) ∙ sym is)
    (goes_on (view_of t) new (open_row (view_of t) slot path access flags mode) opens.free (state ∙ ap (change_all (view_of t)) (sym opens.effects)))
