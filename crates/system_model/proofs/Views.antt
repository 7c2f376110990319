-- What calls see of all tables, part by part.
use Rattle.std.proofs.Common.{◌≡◌, ℕ, Bool, List, ap, ◌∙◌}
use Rattle.call_words.specs.declared.event.How.{How}
use Rattle.fd_table.specs.Shared.{Shared}
use Rattle.pipe_core.specs.Pipes.{Pipes}
use Rattle.line_disc.specs.Device.{Device}
use Rattle.tree_model.specs.Tree.{Nodes, nodes_from}
use Rattle.proc_table.specs.Processes.{Processes}
use Rattle.tty_dev.specs.Table.{devices, counts_of}
use Rattle.system_model.specs.Parts.{Path}
use Rattle.system_model.specs.State.{OpenFile, View}
use Rattle.system_model.specs.Tables.{Tables, generations, seen_files, seen_pipes, seen_processes, view_of}

parts-same : (v w : View) → v.descriptors ≡ w.descriptors → v.pipes ≡ w.pipes → v.lines ≡ w.lines → v.tree ≡ w.tree → v.processes ≡ w.processes
    → v.ending ≡ w.ending → v.recheck ≡ w.recheck → v.halted ≡ w.halted → v ≡ w
parts-same v w descriptors pipes lines tree processes ending recheck halted =
    ap (λ (x : Shared OpenFile). record v { descriptors = x }) descriptors
    ∙ ap (λ (x : Pipes (List ℕ)). record v { descriptors = w.descriptors; pipes = x }) pipes
    ∙ ap (λ (x : List (Device ℕ)). record v { descriptors = w.descriptors; pipes = w.pipes; lines = x }) lines
    ∙ ap (λ (x : Nodes). record v { descriptors = w.descriptors; pipes = w.pipes; lines = w.lines; tree = x }) tree
    ∙ ap (λ (x : Processes Path). record v { descriptors = w.descriptors; pipes = w.pipes; lines = w.lines; tree = w.tree; processes = x }) processes
    ∙ ap (λ (x : List (ℕ × How)). record v { descriptors = w.descriptors; pipes = w.pipes; lines = w.lines; tree = w.tree; processes = w.processes; ending = x }) ending
    ∙ ap (λ (x : Bool). record v { descriptors = w.descriptors; pipes = w.pipes; lines = w.lines; tree = w.tree; processes = w.processes; ending = w.ending; recheck = x }) recheck
    ∙ ap (λ (x : Bool). record v { descriptors = w.descriptors; pipes = w.pipes; lines = w.lines; tree = w.tree; processes = w.processes; ending = w.ending; recheck = w.recheck; halted = x }) halted

-- tables are seen as a view where each part is
pub seen_as : (t : Tables) (v : View) → seen_files t.nodes (generations (counts_of t.lines)) t.descriptors ≡ v.descriptors → seen_pipes t.pool t.pipes ≡ v.pipes
    → devices t.pool t.lines ≡ v.lines → nodes_from t.nodes ≡ v.tree → seen_processes t.nodes t.processes ≡ v.processes
    → t.ending ≡ v.ending → t.recheck ≡ v.recheck → t.halted ≡ v.halted → view_of t ≡ v
unfolding view_of
seen_as t v descriptors pipes lines tree processes ending recheck halted =
    parts-same (view_of t) v descriptors pipes lines tree processes ending recheck halted
