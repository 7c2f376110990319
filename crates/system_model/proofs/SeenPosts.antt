-- What calls see of a post of a signal.
use Rattle.std.proofs.Common.{◌≡◌, ℕ, List, Option, sym, ap, subst, ◌∙◌}
use Rattle.sys_types.specs.declared.sig.Sig.{Sig}
use Rattle.call_words.specs.declared.event.How.{How}
use Rattle.call_words.specs.declared.signal.To.{To}
use Rattle.fd_table.specs.declared.open.Open.{Open}
use Rattle.fd_table.specs.Shared.{Shared}
use Rattle.proc_table.specs.Processes.{Processes}
use Rattle.proc_table.specs.Posts as posts
use Rattle.proc_table.specs.Posts.{Posted, table_and_list}
use Rattle.proc_table.proofs.KeepLemmas.{KeepsProcesses, post_keeps}
use Rattle.proc_table.proofs.MapLemmas.{map_posted, post-map}
use Rattle.tree_model.specs.Tree.{NodeAt}
use Rattle.tree_model.specs.Numbers.{path_of}
use Rattle.system_model.specs.ProcessEffects.{post, after_post, change_processes}
use Rattle.system_model.specs.Effects.{on_processes, change}
use Rattle.system_model.specs.Tables.{Tables, view_of}
use Rattle.system_model.specs.Fit.{FitDirectories, FitSlots}
use Rattle.system_model.proofs.PostLemmas.{directories_kept, slots_kept}
use Rattle.system_model.proofs.SeenProcesses.{processes_mapped}

-- a signal is posted
pub post_seen : (t : Tables) (processes : Processes ℕ) (ending : List (ℕ × How)) (signal : Sig) (whom : To)
    → table_and_list processes ending ≡ posts.post t.processes signal whom t.ending
    → view_of (record t { processes = processes; ending = ending }) ≡ change (view_of t) (on_processes (post signal whom))
unfolding view_of change_processes
post_seen t processes ending signal whom is =
    ap (after_post (view_of t))
    (ap (λ table. table_and_list table ending) (processes_mapped t.nodes processes)
    ∙ ap (map_posted (path_of t.nodes)) is
    ∙ sym (post-map (path_of t.nodes) t.processes signal whom t.ending)
    ∙ ap (λ table. posts.post table signal whom t.ending) (sym (processes_mapped t.nodes t.processes)))

after : (old new : Processes ℕ) (before later : List (ℕ × How)) (signal : Sig) (whom : To) → table_and_list new later ≡ posts.post old signal whom before
    → KeepsProcesses old new
after old new before later signal whom is = subst (KeepsProcesses old) (sym (ap (λ (p : Posted ℕ). p.table) is)) (post_keeps old signal whom before)

-- the tables fit after it
pub post_directories : (nodes : List (Option NodeAt)) (old new : Processes ℕ) (before later : List (ℕ × How)) (signal : Sig) (whom : To)
    → table_and_list new later ≡ posts.post old signal whom before → FitDirectories nodes old → FitDirectories nodes new
post_directories nodes old new before later signal whom is fit = directories_kept nodes old new (after old new before later signal whom is) fit

pub post_slots : (d : Shared Open) (old new : Processes ℕ) (before later : List (ℕ × How)) (signal : Sig) (whom : To)
    → table_and_list new later ≡ posts.post old signal whom before → FitSlots d old → FitSlots d new
post_slots d old new before later signal whom is fit = slots_kept d old new (after old new before later signal whom is) fit
