-- What is seen when a process is to be ended, and when the system is halted.
use Rattle.std.proofs.Common.{◌≡◌, ℕ, true, refl}
use Rattle.call_words.specs.declared.event.How.{How}
use Rattle.proc_table.specs.Posts as posts
use Rattle.system_model.specs.ProcessEffects.{add_ending, change_processes}
use Rattle.system_model.specs.Effects.{on_processes, halt, change}
use Rattle.system_model.specs.Tables.{Tables, view_of}

pub ending_seen : (t : Tables) (slot : ℕ) (how : How)
    → view_of (record t { ending = posts.add_ending t.ending slot how }) ≡ change (view_of t) (on_processes (add_ending slot how))
unfolding view_of change_processes
ending_seen t slot how = refl

pub halt_seen : (t : Tables) → view_of (record t { halted = true }) ≡ change (view_of t) halt
unfolding view_of
halt_seen t = refl
