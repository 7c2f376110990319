-- The process that asks, as calls see it, and what is seen when it changes.
use Rattle.std.proofs.Common.{◌≡◌, ℕ, Bool, true, false, List, [], ◌∷◌, Option, Some, sym, ap, ◌∙◌, subst}
use Rattle.sys_types.specs.declared.rules.Rule.{Rule}
use Rattle.call_words.specs.declared.event.Decision.{Decision}
use Rattle.tree_model.specs.Numbers.{path_of}
use Rattle.proc_table.specs.Processes.{Process, Processes, running_at, put_process, change_process, map_processes}
use Rattle.proc_table.proofs.ChangeLemmas.{change-running}
use Rattle.system_model.specs.Parts.{Path}
use Rattle.system_model.specs.State.{View}
use Rattle.system_model.specs.ProcessEffects.{set_process, change_processes}
use Rattle.system_model.specs.Effects.{on_processes, change}
use Rattle.system_model.specs.Rows.{Check, Row, Does, refused, deny, first}
use Rattle.system_model.specs.Tables.{Tables, seen_process, view_of}
use Rattle.system_model.specs.Looks.{caller_of}
use Rattle.system_model.proofs.SeenProcesses.{caller_seen, put_seen, processes_mapped}

-- ---- checks

-- a rule that denies, and one that does not
pub denies : (condition : Bool) (rule : Rule) (cs : List (Option Check)) → condition ≡ true → first (deny condition rule ∷ cs) ≡ Some (refused rule, [])
denies condition rule cs is = ap (λ (b : Bool). first (deny b rule ∷ cs)) is

pub allows : (condition : Bool) (rule : Rule) (cs : List (Option Check)) → condition ≡ false → first (deny condition rule ∷ cs) ≡ first cs
allows condition rule cs is = ap (λ (b : Bool). first (deny b rule ∷ cs)) is

-- ---- who asks

pub caller_as : (t : Tables) (old : Processes ℕ) (slot : ℕ) (p : Process ℕ) → t.processes ≡ old → running_at old slot ≡ Some p
    → caller_of (view_of t) slot ≡ seen_process t.nodes p
caller_as t old slot p processes is = caller_seen t slot p (ap (λ (ps : Processes ℕ). running_at ps slot) processes ∙ is)

-- the processes are seen one by one
pub processes_as : (t : Tables) → (view_of t).processes ≡ map_processes (path_of t.nodes) t.processes
unfolding view_of
processes_as t = processes_mapped t.nodes t.processes

-- what is decided is what the row answers
pub decides : (old new : View) (d e : Decision) (r : Row) → e ≡ d → Does old new d r → Does old new e r
decides old new d e r same does = subst (λ x. Does old new x r) (sym same) does

-- the row is another
pub with_row : (old new : View) (d : Decision) (r s : Row) → s ≡ r → Does old new d r → Does old new d s
with_row old new d r s same does = subst (λ x. Does old new d x) (sym same) does

-- ---- a process changes

put-in : (t : Tables) (slot : ℕ) (p : Process ℕ)
    → view_of (record t { processes = put_process t.processes slot p }) ≡ change (view_of t) (on_processes (set_process slot (seen_process t.nodes p)))
unfolding view_of change_processes
put-in t slot p = ap (λ (ps : Processes Path). record (view_of t) { processes = ps }) (put_seen t.nodes t.processes slot p)

-- the running process of a slot is changed
pub process_changes : (t : Tables) (old new : Processes ℕ) (how : Process ℕ → Process ℕ) (slot : ℕ) (p : Process ℕ) → t.processes ≡ old
    → new ≡ change_process how old slot → running_at old slot ≡ Some p
    → view_of (record t { processes = new }) ≡ change (view_of t) (on_processes (set_process slot (seen_process t.nodes (how p))))
process_changes t old new how slot p processes after is =
    ap (λ (ps : Processes ℕ). view_of (record t { processes = ps }))
    (after ∙ change-running how old slot p is ∙ ap (λ (ps : Processes ℕ). put_process ps slot (how p)) (sym processes))
    ∙ put-in t slot (how p)

-- the caller changes, and is seen to change
pub caller_changes : (t : Tables) (old new : Processes ℕ) (how : Process ℕ → Process ℕ) (seen : Process Path → Process Path) (slot : ℕ) (p : Process ℕ)
    → t.processes ≡ old → new ≡ change_process how old slot → running_at old slot ≡ Some p
    → ((q : Process ℕ) → seen_process t.nodes (how q) ≡ seen (seen_process t.nodes q))
    → view_of (record t { processes = new }) ≡ change (view_of t) (on_processes (set_process slot (seen (caller_of (view_of t) slot))))
caller_changes t old new how seen slot p processes after is same =
    process_changes t old new how slot p processes after is
    ∙ ap (λ (q : Process Path). change (view_of t) (on_processes (set_process slot q))) (same p ∙ ap seen (sym (caller_as t old slot p processes is)))
