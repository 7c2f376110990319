-- The tables of a kernel still fit where the nodes change: what is held has its path and its kind still.
use Rattle.std.proofs.Common.{◌≡◌, ℕ, Bool, false, List, Option, Some, None, refl, sym, ap, ◌∙◌}
use Rattle.sys_types.specs.declared.node.Kind.{Kind}
use Rattle.fd_table.specs.declared.open.Open.{Open}
use Rattle.fd_table.specs.declared.open.Target.TheVariants.{File as FileOf}
use Rattle.fd_table.specs.Shared.{Shared, entry_at}
use Rattle.proc_table.specs.Processes.{Process, Processes, process_at}
use Rattle.tree_model.specs.Tree.{NodeAt, NodeRecord, is_dir, is_dir_record, is_file, nodes_from, with_node_at}
use Rattle.tree_model.specs.Numbers.{path_of, record_of, is_file_record}
use Rattle.system_model.specs.Parts.{Path}
use Rattle.system_model.specs.TreeEffects.{set_node}
use Rattle.system_model.specs.Effects.{on_tree, change}
use Rattle.system_model.specs.Tables.{Tables, view_of}
use Rattle.system_model.specs.Fit.{FitFiles, FitDirectories, kind_of}
use Rattle.system_model.proofs.NodeChanges.{tree_changes}

-- a node has its path and its kind still
pub record IsKeptAt (old new : List (Option NodeAt)) (n : ℕ) : Type 0 where
  pub path : path_of new n ≡ path_of old n
  pub kind : kind_of (record_of new n) ≡ kind_of (record_of old n)

-- the nodes of open files have
abbrev pub AreFilesKept : List (Option NodeAt) → List (Option NodeAt) → Shared Open → Type 0
AreFilesKept old new d = (entry number : ℕ) (f : Open) → entry_at d.files entry ≡ Some f → f.target ≡ FileOf number → IsKeptAt old new number

-- and so have the working directories of processes
abbrev pub AreDirectoriesKept : List (Option NodeAt) → List (Option NodeAt) → Processes ℕ → Type 0
AreDirectoriesKept old new processes = (slot : ℕ) (p : Process ℕ) → process_at processes slot ≡ Some p → IsKeptAt old new p.directory

abbrev has_kind : (Kind → Bool) → Option Kind → Bool
has_kind test None = false
has_kind test (Some kind) = test kind

file-kind : (o : Option NodeRecord) → is_file_record o ≡ has_kind is_file (kind_of o)
file-kind None = refl
file-kind (Some node) = refl

dir-kind : (o : Option NodeRecord) → is_dir_record o ≡ has_kind is_dir (kind_of o)
dir-kind None = refl
dir-kind (Some node) = refl

file-kept : (old new : List (Option NodeAt)) (n : ℕ) → IsKeptAt old new n → is_file_record (record_of new n) ≡ is_file_record (record_of old n)
file-kept old new n kept = file-kind (record_of new n) ∙ ap (has_kind is_file) kept.kind ∙ sym (file-kind (record_of old n))

dir-kept : (old new : List (Option NodeAt)) (n : ℕ) → IsKeptAt old new n → is_dir_record (record_of new n) ≡ is_dir_record (record_of old n)
dir-kept old new n kept = dir-kind (record_of new n) ∙ ap (has_kind is_dir) kept.kind ∙ sym (dir-kind (record_of old n))

pub files_fit : (old new : List (Option NodeAt)) (d : Shared Open) → AreFilesKept old new d → FitFiles old d → FitFiles new d
files_fit old new d kept fit = record {
  live = λ entry number f at target. file-kept old new number (kept entry number f at target) ∙ fit.live entry number f at target;
}

pub directories_fit : (old new : List (Option NodeAt)) (processes : Processes ℕ) → AreDirectoriesKept old new processes → IsKeptAt old new 0
    → FitDirectories old processes → FitDirectories new processes
directories_fit old new processes kept root fit = record {
  live = λ slot p at. dir-kept old new p.directory (kept slot p at) ∙ fit.live slot p at;
  root = record { path = root.path ∙ fit.root.path; directory = dir-kept old new 0 root ∙ fit.root.directory };
  zombies = fit.zombies;
}

-- a change of what is at one place, as calls see it
pub kept_seen : (t : Tables) (new : List (Option NodeAt)) (place : Path) (what : Option NodeRecord)
    → nodes_from new ≡ with_node_at (nodes_from t.nodes) place what → AreFilesKept t.nodes new t.descriptors → AreDirectoriesKept t.nodes new t.processes
    → view_of (record t { nodes = new }) ≡ change (view_of t) (on_tree (set_node place what))
kept_seen t new place what map files directories =
    tree_changes t new place what map (λ entry number f at target. (files entry number f at target).path) (λ slot p at. (directories slot p at).path)
