-- What a kill is refused by and what it changes, as calls see it.
use Rattle.std.proofs.Common.{◌≡◌, ℕ, List, Some, refl, sym, ap, ap₂, ◌∙◌}
use Rattle.sys_types.specs.declared.sig.Sig.{Sig}
use Rattle.call_words.specs.declared.event.How.{How}
use Rattle.call_words.specs.declared.signal.To.{To}
use Rattle.tree_model.specs.Numbers.{path_of}
use Rattle.proc_table.specs.Processes.{Process, Processes, running_at, map_processes}
use Rattle.proc_table.specs.Posts.{Posted, table_and_list}
use Rattle.proc_table.specs.Kills.{targets, receivers, kill_refusal, pids_to_signal, post_to_each}
use Rattle.proc_table.proofs.MapLemmas.{map_posted}
use Rattle.proc_table.proofs.CallMapLemmas.{kill_refusal-map, pids_to_signal-map, post_to_each-map}
use Rattle.system_model.specs.Parts.{Path}
use Rattle.system_model.specs.ProcessEffects.{after_post}
use Rattle.system_model.specs.Effects.{change_all}
use Rattle.system_model.specs.Looks.{caller_of}
use Rattle.system_model.specs.SignalCalls.{post_each}
use Rattle.system_model.specs.Tables.{Tables, view_of}
use Rattle.system_model.proofs.KillSteps.{post_each-run}
use Rattle.system_model.proofs.SeenProcesses.{processes_mapped}
use Rattle.proc_calls.proofs.Changes.{caller_as, processes_as}

pub seen_before : (t : Tables) (old : Processes ℕ) → t.processes ≡ old → (view_of t).processes ≡ map_processes (path_of t.nodes) old
seen_before t old processes = processes_as t ∙ ap (map_processes (path_of t.nodes)) processes

pub refusal_seen : (t : Tables) (old : Processes ℕ) (slot : ℕ) (p : Process ℕ) (whom : To) → t.processes ≡ old → running_at old slot ≡ Some p
    → kill_refusal (caller_of (view_of t) slot) (targets (view_of t).processes (caller_of (view_of t) slot) whom) ≡ kill_refusal p (targets old p whom)
refusal_seen t old slot p whom processes is =
    ap₂ (λ (ps : Processes Path) (who : Process Path). kill_refusal who (targets ps who whom)) (seen_before t old processes) (caller_as t old slot p processes is)
    ∙ kill_refusal-map (path_of t.nodes) old p whom

pids_seen : (t : Tables) (old : Processes ℕ) (slot : ℕ) (p : Process ℕ) (whom : To) → t.processes ≡ old → running_at old slot ≡ Some p
    → pids_to_signal (view_of t).processes (caller_of (view_of t) slot) whom ≡ pids_to_signal old p whom
pids_seen t old slot p whom processes is =
    ap₂ (λ (ps : Processes Path) (who : Process Path). pids_to_signal ps who whom) (seen_before t old processes) (caller_as t old slot p processes is)
    ∙ pids_to_signal-map (path_of t.nodes) old p whom

list_seen : (t : Tables) → (view_of t).ending ≡ t.ending
unfolding view_of
list_seen t = refl

start_seen : (t : Tables) (old : Processes ℕ) (ending : List (ℕ × How)) → t.processes ≡ old → t.ending ≡ ending
    → table_and_list (view_of t).processes (view_of t).ending ≡ map_posted (path_of t.nodes) (table_and_list old ending)
start_seen t old ending processes ends =
    ap₂ (λ (ps : Processes Path) es. table_and_list ps es) (seen_before t old processes) (list_seen t ∙ ends)

posted_seen : (t : Tables) (posted : Posted ℕ)
    → after_post (view_of t) (map_posted (path_of t.nodes) posted) ≡ view_of (record t { processes = posted.table; ending = posted.ending })
unfolding view_of
posted_seen t posted =
    ap (λ (ps : Processes Path). record (view_of t) { processes = ps; ending = posted.ending }) (sym (processes_mapped t.nodes posted.table))

pub kill_changes : (t : Tables) (old : Processes ℕ) (ending : List (ℕ × How)) (slot : ℕ) (p : Process ℕ) (whom : To) (signal : Sig) (after : Posted ℕ)
    → t.processes ≡ old → t.ending ≡ ending → running_at old slot ≡ Some p
    → after ≡ post_to_each signal (pids_to_signal old p whom) (table_and_list old ending)
    → view_of (record t { processes = after.table; ending = after.ending })
    ≡ change_all (view_of t)
    (post_each signal (receivers (caller_of (view_of t) slot) (targets (view_of t).processes (caller_of (view_of t) slot) whom)))
kill_changes t old ending slot p whom signal after processes ends is posted =
    sym (posted_seen t after)
    ∙ ap (λ (a : Posted ℕ). after_post (view_of t) (map_posted (path_of t.nodes) a)) posted
    ∙ ap (after_post (view_of t)) (sym (post_to_each-map (path_of t.nodes) signal (pids_to_signal old p whom) (table_and_list old ending)))
    ∙ ap₂ (λ pids (start : Posted Path). after_post (view_of t) (post_to_each signal pids start)) (sym (pids_seen t old slot p whom processes is))
    (sym (start_seen t old ending processes ends))
    ∙ sym (post_each-run signal (receivers (caller_of (view_of t) slot) (targets (view_of t).processes (caller_of (view_of t) slot) whom)) (view_of t))
