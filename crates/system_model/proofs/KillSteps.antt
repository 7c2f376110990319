-- What a kill does: a signal is posted to each of its receivers, one after the other.
use Rattle.std.proofs.Common.{◌≡◌, ℕ, List, [], ◌∷◌, map, refl, ap, ◌∙◌}
use Rattle.sys_types.specs.declared.sig.Sig.{Sig}
use Rattle.call_words.specs.declared.signal.To.TheVariants.{Pid}
use Rattle.proc_table.specs.Processes.{Process}
use Rattle.proc_table.specs.Posts.{table_and_list}
use Rattle.proc_table.specs.Kills.{post_to_each}
use Rattle.system_model.specs.Parts.{Path}
use Rattle.system_model.specs.State.{View}
use Rattle.system_model.specs.ProcessEffects.{post, after_post, change_processes}
use Rattle.system_model.specs.Effects.{on_processes, change, change_all}
use Rattle.system_model.specs.SignalCalls.{post_each}

post-step : (v : View) (signal : Sig) (pid : ℕ)
    → change v (on_processes (post signal (Pid pid))) ≡ after_post v (post_to_each signal (pid ∷ []) (table_and_list v.processes v.ending))
unfolding change_processes
post-step v signal pid = refl

-- the effects of a kill make of the table, and of the list of those to be ended, what the posts to the pids make
pub post_each-run : (signal : Sig) (whom : List (Process Path)) (v : View)
    → change_all v (post_each signal whom)
    ≡ after_post v (post_to_each signal (map (λ (p : Process Path). p.pid) whom) (table_and_list v.processes v.ending))
post_each-run signal [] v = refl
post_each-run signal (p ∷ more) v =
    ap (λ (w : View). change_all w (post_each signal more)) (post-step v signal p.pid)
    ∙ post_each-run signal more (after_post v (post_to_each signal (p.pid ∷ []) (table_and_list v.processes v.ending)))
