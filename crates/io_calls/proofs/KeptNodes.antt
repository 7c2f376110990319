-- The tables fit still where a regular file is written: each node has its path and its kind.
use Rattle.std.proofs.Common.{◌≡◌, ◌≢◌, ◌⊎◌, inl, inr, ℕ, Bool, true, false, cond, List, Option, Some, None, option_map, refl, sym, ap, ◌∙◌}
use Rattle.std.proofs.lemmas.Bool.{cases_eq}
use Rattle.sys_types.specs.declared.node.Kind.TheVariants as kind
use Rattle.fd_table.specs.Shared.{Shared}
use Rattle.fd_table.specs.declared.open.Open.{Open}
use Rattle.proc_table.specs.Processes.{Processes}
use Rattle.tree_model.specs.Contents.{with_write}
use Rattle.tree_model.specs.Tree.{NodeAt, NodeRecord, at_path, nodes_from, with_node_at}
use Rattle.tree_model.specs.Numbers.{path_of, record_of}
use Rattle.vnode_tree.specs.Nodes.{same_path, with_record}
use Rattle.vnode_tree.proofs.Finite.{at_placed, path_kept, record_changed, record_kept}
use Rattle.vnode_tree.proofs.Trees.{path_true}
use Rattle.system_model.specs.Looks.{tty_path}
use Rattle.system_model.specs.Fit.{FitFiles, FitDirectories, FitTree, kind_of}
use Rattle.system_model.proofs.NodeFits.{IsKeptAt, files_fit, directories_fit}

kind-left : (place : ℕ) (bs : List ℕ) (o : Option NodeRecord) → kind_of (option_map (with_write place bs) o) ≡ kind_of o
kind-left place bs None = refl
kind-left place bs (Some r) = refl

-- each node
pub written_kept : (old : List (Option NodeAt)) (n place : ℕ) (bs : List ℕ) (m : ℕ) → IsKeptAt old (with_record (with_write place bs) old n) m
written_kept old n place bs m = record { path = path_kept (with_write place bs) old n m; kind = by_number (cases_eq m n) }
  where
    by_number : (m ≡ n) ⊎ (m ≢ n) → kind_of (record_of (with_record (with_write place bs) old n) m) ≡ kind_of (record_of old m)
    by_number (inl same) = rw same (ap kind_of (record_changed (with_write place bs) old n) ∙ kind-left place bs (record_of old n))
    by_number (inr other) = ap kind_of (record_kept (with_write place bs) old n m other)

pub written_files : (old new : List (Option NodeAt)) (n place : ℕ) (bs : List ℕ) → new ≡ with_record (with_write place bs) old n → (d : Shared Open)
    → FitFiles old d → FitFiles new d
written_files old new n place bs set d = files_fit old new d (λ entry number f at target. rw set (written_kept old n place bs number))

pub written_directories : (old new : List (Option NodeAt)) (n place : ℕ) (bs : List ℕ) → new ≡ with_record (with_write place bs) old n
    → (processes : Processes ℕ) → FitDirectories old processes → FitDirectories new processes
written_directories old new n place bs set processes =
    directories_fit old new processes (λ slot p at. rw set (written_kept old n place bs p.directory)) (rw set (written_kept old n place bs 0))

-- each line has its node
pub written_lines : (old new : List (Option NodeAt)) (n place : ℕ) (bs : List ℕ) → new ≡ with_record (with_write place bs) old n
    → nodes_from new ≡ with_node_at (nodes_from old) (path_of old n) (option_map (with_write place bs) (record_of old n))
    → record_of old n ≡ at_path (nodes_from old) (path_of old n) → FitTree old → FitTree new
written_lines old new n place bs set map there fit = record {
  lines = λ line below.
      rw (map, at_placed (nodes_from old) (path_of old n) (tty_path line) (option_map (with_write place bs) (record_of old n)))
      (by_place line (same_path (tty_path line) (path_of old n)) refl (fit.lines line below));
  names = λ m line is.
      fit.names m line (sym (written_kept old n place bs m).kind ∙ ap (λ nodes. kind_of (record_of nodes m)) (sym set) ∙ is);
}
  where
    by_place : (line : ℕ) (b : Bool) → same_path (tty_path line) (path_of old n) ≡ b
        → kind_of (at_path (nodes_from old) (tty_path line)) ≡ Some (kind.Line line)
        → kind_of (cond b (option_map (with_write place bs) (record_of old n)) (at_path (nodes_from old) (tty_path line))) ≡ Some (kind.Line line)
    by_place line true same is =
        kind-left place bs (record_of old n)
        ∙ ap kind_of there
        ∙ ap (λ path. kind_of (at_path (nodes_from old) path)) (sym (path_true (tty_path line) (path_of old n) same))
        ∙ is
    by_place line false other is = is
