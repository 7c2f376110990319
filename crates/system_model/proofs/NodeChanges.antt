-- What calls see where the nodes change: open files and working directories are as they were where what they are of has the same path.
use Rattle.std.proofs.Common.{◌≡◌, ℕ, List, Option, Some, refl}
use Rattle.fd_table.specs.declared.open.Open.{Open}
use Rattle.fd_table.specs.declared.open.Target.TheVariants.{File as FileOf}
use Rattle.fd_table.specs.Shared.{Shared, entry_at}
use Rattle.proc_table.specs.Processes.{Process, Processes, process_at}
use Rattle.tree_model.specs.Tree.{NodeAt, NodeRecord, nodes_from, with_node_at}
use Rattle.tree_model.specs.Numbers.{path_of}
use Rattle.tty_dev.specs.Table.{counts_of}
use Rattle.system_model.specs.Parts.{Path}
use Rattle.system_model.specs.TreeEffects.{set_node, change_tree}
use Rattle.system_model.specs.Effects.{on_tree, change}
use Rattle.system_model.specs.Tables.{Tables, generations, view_of}
use Rattle.system_model.proofs.SeenFiles.{paths_seen}
use Rattle.system_model.proofs.SeenProcesses.{directories_seen}
use Rattle.system_model.proofs.Views.{seen_as}

-- the nodes of open files have the same paths
abbrev pub SameFiles : List (Option NodeAt) → List (Option NodeAt) → Shared Open → Type 0
SameFiles old new d = (entry number : ℕ) (f : Open) → entry_at d.files entry ≡ Some f → f.target ≡ FileOf number → path_of new number ≡ path_of old number

-- and so do the working directories of processes
abbrev pub SameDirectories : List (Option NodeAt) → List (Option NodeAt) → Processes ℕ → Type 0
SameDirectories old new processes = (slot : ℕ) (p : Process ℕ) → process_at processes slot ≡ Some p → path_of new p.directory ≡ path_of old p.directory

-- a change of what is at one place
pub tree_changes : (t : Tables) (new : List (Option NodeAt)) (place : Path) (what : Option NodeRecord)
    → nodes_from new ≡ with_node_at (nodes_from t.nodes) place what → SameFiles t.nodes new t.descriptors → SameDirectories t.nodes new t.processes
    → view_of (record t { nodes = new }) ≡ change (view_of t) (on_tree (set_node place what))
unfolding view_of change_tree
tree_changes t new place what map files directories =
    seen_as (record t { nodes = new }) (change (view_of t) (on_tree (set_node place what)))
    (paths_seen t.nodes new (generations (counts_of t.lines)) t.descriptors files) refl refl map (directories_seen t.nodes new t.processes directories) refl refl refl
