-- Effects that end no process leave it that those on the list of those to be ended run.
use Rattle.std.proofs.Common.{◌≡◌, ℕ, Bool, true, false, cond, List, [], ◌∷◌, ◌++◌, refl, sym, subst}
use Rattle.std.specs.Prelude.{is_some}
use Rattle.call_words.specs.declared.event.How.{How}
use Rattle.proc_table.specs.Processes.{Processes, running_at}
use Rattle.proc_table.specs.Posts as posts
use Rattle.proc_table.proofs.RunningLemmas.{RunsOn, slot_runs, put_runs, fork_runs, reap_runs, post_runs, post_list}
use Rattle.system_model.specs.Parts.{Path}
use Rattle.system_model.specs.State.{View}
use Rattle.system_model.specs.TreeEffects.{TreeEffect, set_node, change_tree}
use Rattle.system_model.specs.ProcessEffects.{ProcessEffect, set_process, fork_process, reap_child, set_pending, tell, post, add_ending, bury, clear_ending}
use Rattle.system_model.specs.ProcessEffects.{change_processes}
use Rattle.system_model.specs.Effects.{Effect, on_files, on_pipes, on_lines, on_tree, on_processes, halt, change, change_all}
use Rattle.system_laws.specs.EndingLists.{AreRunning}
use Rattle.system_laws.proofs.Runs.{change_more, files-ending, pipes-ending, lines-ending}
use Rattle.system_laws.proofs.CallsKept.{files-same, pipes-same, lines-same, tree-same}
use Rattle.system_laws.proofs.RunningRows.{is_lively, AreLively, no_effect, next_effect}

-- those on the list of a view run
abbrev pub AreRunningIn : View → Type 0
AreRunningIn v = AreRunning v.processes v.ending

-- ---- effects

run-on : (old new : Processes Path) (es : List (ℕ × How)) → RunsOn old new → AreRunning old es → AreRunning new es
run-on old new [] on running = tt
run-on old new (e ∷ es) on running = (on e.0 running.0, run-on old new es on running.1)

run-behind : (t : Processes Path) (es : List (ℕ × How)) (slot : ℕ) (why : How) → is_some (running_at t slot) ≡ true → AreRunning t es
    → AreRunning t (es ++ (slot, why) ∷ [])
run-behind t [] slot why runs running = (runs, tt)
run-behind t (e ∷ es) slot why runs running = (running.0, run-behind t es slot why runs running.1)

-- a running process joins the list
pub run-joins : (t : Processes Path) (es : List (ℕ × How)) (slot : ℕ) (why : How) → is_some (running_at t slot) ≡ true → AreRunning t es
    → AreRunning t (posts.add_ending es slot why)
run-joins t es slot why runs running = by_case (posts.is_ending es slot)
  where
    by_case : (b : Bool) → AreRunning t (cond b es (es ++ (slot, why) ∷ []))
    by_case true = running
    by_case false = run-behind t es slot why runs running

run-same : (v w : View) → w.processes ≡ v.processes → w.ending ≡ v.ending → AreRunningIn v → AreRunningIn w
run-same v w table list running = rw (table, list) running

tree-ending : (v : View) (e : TreeEffect) → (change v (on_tree e)).ending ≡ v.ending
unfolding change_tree
tree-ending v (set_node path what) = refl

process-runs : (v : View) (e : ProcessEffect) → is_lively (on_processes e) ≡ true → AreRunningIn v → AreRunningIn (change v (on_processes e))
unfolding change_processes
process-runs v (set_process slot p) is running =
    run-on v.processes (change v (on_processes (set_process slot p))).processes v.ending (put_runs v.processes slot p is) running
process-runs v (fork_process slot note) is running =
    run-on v.processes (change v (on_processes (fork_process slot note))).processes v.ending (fork_runs v.processes slot note) running
process-runs v (reap_child slot who untraced) is running =
    run-on v.processes (change v (on_processes (reap_child slot who untraced))).processes v.ending (reap_runs v.processes slot who untraced) running
process-runs v (set_pending slot c) is running =
    run-on v.processes (change v (on_processes (set_pending slot c))).processes v.ending (slot_runs v.processes slot _ (λ runs. runs)) running
process-runs v (tell slot) is running =
    run-on v.processes (change v (on_processes (tell slot))).processes v.ending (slot_runs v.processes slot _ (λ runs. runs)) running
process-runs v (post signal whom) is running =
    let after = change v (on_processes (post signal whom)) in
    run-on v.processes after.processes after.ending (post_runs v.processes signal whom v.ending)
    (post_list v.processes (AreRunning v.processes) signal whom v.ending (λ es slot why runs are. run-joins v.processes es slot why runs are) running)
process-runs v (add_ending slot why) is running = cc
process-runs v (bury slot why) is running = cc
process-runs v clear_ending is running = tt

effect-runs : (v : View) (e : Effect) → is_lively e ≡ true → AreRunningIn v → AreRunningIn (change v e)
effect-runs v (on_files e) is running = run-same v (change v (on_files e)) (files-same v e) (files-ending v e) running
effect-runs v (on_pipes e) is running = run-same v (change v (on_pipes e)) (pipes-same v e) (pipes-ending v e) running
effect-runs v (on_lines e) is running = run-same v (change v (on_lines e)) (lines-same v e) (lines-ending v e) running
effect-runs v (on_tree e) is running = run-same v (change v (on_tree e)) (tree-same v e) (tree-ending v e) running
effect-runs v (on_processes e) is running = process-runs v e is running
effect-runs v halt is running = running

-- what effects do leaves it that those on the list run
abbrev pub LeaveRunning : View → List Effect → Type 0
LeaveRunning v es = AreRunningIn v → AreRunningIn (change_all v es)

pub lively-run : (v : View) (es : List Effect) → AreLively es → LeaveRunning v es
lively-run v [] no_effect running = running
lively-run v (e ∷ es) (next_effect _ _ is more) running = lively-run (change v e) es more (effect-runs v e is running)

pub lively-then : (v : View) (es fs : List Effect) → LeaveRunning v es → AreLively fs → LeaveRunning v (es ++ fs)
lively-then v es fs leave lively running = subst AreRunningIn (sym (change_more v es fs)) (lively-run (change_all v es) fs lively (leave running))
