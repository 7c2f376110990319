-- Which process joins a group, and by which rules it does not, as calls see it (setpgid(2)).
use Rattle.std.proofs.Common.{◌≡◌, ℕ, Bool, true, false, cond, not, ◌&&◌, [], ◌∷◌, Option, Some, None, option_map, option_and_then, eqb, refl, sym, ap, ap₂, ◌∙◌}
use Rattle.std.specs.Prelude.{unwrap_or}
use Rattle.std.proofs.lemmas.List.Quantifiers.{position-Some}
use Rattle.std.proofs.Common.{arith}
use Rattle.std.proofs.lemmas.Bool.Decides.{nat_tests}
use Rattle.sys_types.specs.declared.rules.Rule.TheVariants.{ChildExec, Leader, Session, Group}
use Rattle.tree_model.specs.Numbers.{path_of}
use Rattle.proc_table.specs.Processes.{Process, Slot, Processes, empty_slot, holds, slot_of, running_at, running_by_pid, process_at}
use Rattle.proc_table.specs.Jobs.{is_target, setpgid_target, group_for, is_no_group}
use Rattle.proc_table.proofs.ChangeLemmas.{running-process}
use Rattle.proc_table.proofs.MapLemmas.{slot_of-map}
use Rattle.proc_table.proofs.CallMapLemmas.{setpgid_target-map, is_no_group-map}
use Rattle.system_model.specs.Parts.{Path}
use Rattle.system_model.specs.Looks.{caller_of}
use Rattle.system_model.specs.ProcCalls.{setpgid_on, setpgid_row}
use Rattle.system_model.specs.Rows.{deny, deny_by, first}
use Rattle.system_model.specs.Tables.{Tables, seen_process, view_of}
use Rattle.proc_calls.specs.Joining.{setpgid_rule}
use Rattle.proc_calls.proofs.Changes.{caller_as}
use Rattle.proc_calls.proofs.Kills.{seen_before}

-- ---- the place of a target

target-there : (who : Process ℕ) (o : Option (Process ℕ)) (target : Process ℕ)
    → option_and_then (λ p. cond (is_target who p) (Some p) None) o ≡ Some target → o ≡ Some target
target-there who None target is = absurd cc
target-there who (Some p) target is = by_case (is_target who p) is
  where
    by_case : (b : Bool) → cond b (Some p) None ≡ Some target → Some p ≡ Some target
    by_case true is = is
    by_case false is = absurd cc

held : (n : ℕ) (o : Option (Process ℕ)) (p : Process ℕ) → o ≡ Some p → holds (λ q. eqb q.pid n) o ≡ true → eqb p.pid n ≡ true
held n o p is passes = sym (ap (holds (λ q. eqb q.pid n)) is) ∙ passes

found : (t : Processes ℕ) (n : ℕ) (o : Option ℕ) (target : Process ℕ) (other : ℕ) → slot_of t n ≡ o → option_and_then (running_at t) o ≡ Some target
    → running_at t (unwrap_or (slot_of t target.pid) other) ≡ Some target
found t n None target other at is = absurd cc
found t n (Some slot) target other at is =
    let stands = running-process (process_at t slot) target is in
    let here = position-Some (λ (s : Slot ℕ). holds (λ (q : Process ℕ). eqb q.pid n) s.process) t.slots slot empty_slot at in
    let passes : eqb target.pid n ≡ true = held n (process_at t slot) target stands here.1 in
    let same : target.pid ≡ n = grind (arith, nat_tests) in
    ap (λ pid. running_at t (unwrap_or (slot_of t pid) other)) same ∙ ap (λ (o : Option ℕ). running_at t (unwrap_or o other)) at ∙ is

pub target_place : (t : Processes ℕ) (who : Process ℕ) (pid : ℕ) (target : Process ℕ) (other : ℕ) → setpgid_target t who pid ≡ Some target
    → running_at t (unwrap_or (slot_of t target.pid) other) ≡ Some target
target_place t who pid target other is =
    let n = cond (eqb pid 0) who.pid pid in
    found t n (slot_of t n) target other refl (target-there who (running_by_pid t n) target is)

-- ---- the row of a target

pub target_seen : (t : Tables) (old : Processes ℕ) (slot : ℕ) (who : Process ℕ) (pid : ℕ) → t.processes ≡ old → running_at old slot ≡ Some who
    → setpgid_target (view_of t).processes (caller_of (view_of t) slot) pid ≡ option_map (seen_process t.nodes) (setpgid_target old who pid)
target_seen t old slot who pid processes is =
    ap₂ (λ (ps : Processes Path) (p : Process Path). setpgid_target ps p pid) (seen_before t old processes) (caller_as t old slot who processes is)
    ∙ setpgid_target-map (path_of t.nodes) old who pid

pub rule_seen : (t : Tables) (old : Processes ℕ) (slot : ℕ) (who target : Process ℕ) (group : ℕ) → t.processes ≡ old → running_at old slot ≡ Some who
    → setpgid_rule (view_of t).processes (caller_of (view_of t) slot) (seen_process t.nodes target) group ≡ setpgid_rule old who target group
rule_seen t old slot who target group processes is =
    ap₂ (λ (ps : Processes Path) (p : Process Path). setpgid_rule ps p (seen_process t.nodes target) group) (seen_before t old processes)
    (caller_as t old slot who processes is)
    ∙ ap (λ b. cond (not (eqb target.pid who.pid) && target.execed) (Some ChildExec) (cond (eqb target.pid target.session) (Some Leader)
    (cond (not (eqb target.session who.session)) (Some Session) (cond b (Some Group) None)))) (is_no_group-map (path_of t.nodes) old target group)

-- the checks of the row are these rules
pub checks_are : (t : Tables) (slot group : ℕ) (target : Process Path)
    → first (setpgid_on (view_of t) slot group (Some target)).checks
    ≡ deny_by (setpgid_rule (view_of t).processes (caller_of (view_of t) slot) target (group_for target group))
checks_are t slot group target =
    let who = caller_of (view_of t) slot in
    by_case (not (eqb target.pid who.pid) && target.execed) (eqb target.pid target.session) (not (eqb target.session who.session))
    (is_no_group (view_of t).processes target (group_for target group))
  where
    by_case : (a b c d : Bool) → first (deny a ChildExec ∷ deny b Leader ∷ deny c Session ∷ deny d Group ∷ [])
        ≡ deny_by (cond a (Some ChildExec) (cond b (Some Leader) (cond c (Some Session) (cond d (Some Group) None))))
    by_case true b c d = refl
    by_case false true c d = refl
    by_case false false true d = refl
    by_case false false false true = refl
    by_case false false false false = refl

pub row_seen : (t : Tables) (old : Processes ℕ) (slot : ℕ) (who : Process ℕ) (pid group : ℕ) (target : Option (Process ℕ)) → t.processes ≡ old
    → running_at old slot ≡ Some who → setpgid_target old who pid ≡ target
    → setpgid_row (view_of t) slot pid group ≡ setpgid_on (view_of t) slot group (option_map (seen_process t.nodes) target)
row_seen t old slot who pid group target processes is names =
    ap (setpgid_on (view_of t) slot group) (target_seen t old slot who pid processes is ∙ ap (option_map (seen_process t.nodes)) names)

pub check_seen : (t : Tables) (old : Processes ℕ) (slot : ℕ) (who target : Process ℕ) (group : ℕ) → t.processes ≡ old → running_at old slot ≡ Some who
    → first (setpgid_on (view_of t) slot group (Some (seen_process t.nodes target))).checks ≡ deny_by (setpgid_rule old who target (group_for target group))
check_seen t old slot who target group processes is =
    checks_are t slot group (seen_process t.nodes target) ∙ ap deny_by (rule_seen t old slot who target (group_for target group) processes is)

pub place_seen : (t : Tables) (old : Processes ℕ) (pid other : ℕ) → t.processes ≡ old
    → unwrap_or (slot_of (view_of t).processes pid) other ≡ unwrap_or (slot_of old pid) other
place_seen t old pid other processes =
    ap (λ (o : Option ℕ). unwrap_or o other)
    (ap (λ (ps : Processes Path). slot_of ps pid) (seen_before t old processes) ∙ slot_of-map (path_of t.nodes) old pid)
