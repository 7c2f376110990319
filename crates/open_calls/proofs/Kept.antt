-- What is held where a node is changed, made or taken away, and that each line has its node still.
use Rattle.std.proofs.Common.{◌≡◌, ◌≢◌, ◌⊎◌, inl, inr, ℕ, Bool, true, false, cond, List, Option, Some, None, option_map, refl, sym, ap, ◌∙◌}
use Rattle.std.proofs.lemmas.Bool.{cases_eq}
use Rattle.sys_types.specs.declared.node.Kind.TheVariants as kind
use Rattle.fd_table.specs.declared.open.Open.{Open}
use Rattle.fd_table.specs.Shared.{Shared}
use Rattle.proc_table.specs.Processes.{Processes}
use Rattle.tree_model.specs.Tree.{NodeRecord, at_path, nodes_from, with_node_at}
use Rattle.vnode_tree.specs.Nodes.{NodeAt, IsLive, node_at, path_in, path_of, record_of, same_path, with_record}
use Rattle.vnode_tree.specs.Standard.{Keeps}
use Rattle.vnode_tree.proofs.Finite.{at_placed, path_kept, record_changed, record_kept}
use Rattle.vnode_tree.proofs.Trees.{path_true}
use Rattle.system_model.specs.Looks.{tty_path}
use Rattle.system_model.specs.Fit.{FitFiles, FitDirectories, FitTree, kind_of}
use Rattle.system_model.proofs.NodeFits.{IsKeptAt, files_fit, directories_fit}

-- a change leaves the kind
abbrev pub LeavesKind : (NodeRecord → NodeRecord) → Type 0
LeavesKind change = (r : NodeRecord) → (change r).kind ≡ r.kind

pub same_node : (old new : List (Option NodeAt)) (n : ℕ) → node_at new n ≡ node_at old n → IsKeptAt old new n
same_node old new n same = record { path = ap path_in same; kind = ap (λ (o : Option NodeAt). kind_of (option_map (λ (node : NodeAt). node.node) o)) same }

-- a node that was live, where one is made
pub made_kept : (old new : List (Option NodeAt)) (n : ℕ) → Keeps old new → IsLive old n → IsKeptAt old new n
made_kept old new n keeps live = same_node old new n (keeps n live)

kind-left : (change : NodeRecord → NodeRecord) (o : Option NodeRecord) → LeavesKind change → kind_of (option_map change o) ≡ kind_of o
kind-left change None leaves = refl
kind-left change (Some r) leaves = ap Some (leaves r)

-- each node, where one changes
pub changed_kept : (change : NodeRecord → NodeRecord) (old : List (Option NodeAt)) (n m : ℕ) → LeavesKind change → IsKeptAt old (with_record change old n) m
changed_kept change old n m leaves = record { path = path_kept change old n m; kind = by_number (cases_eq m n) }
  where
    by_number : (m ≡ n) ⊎ (m ≢ n) → kind_of (record_of (with_record change old n) m) ≡ kind_of (record_of old m)
    by_number (inl same) = rw same (ap kind_of (record_changed change old n) ∙ kind-left change (record_of old n) leaves)
    by_number (inr other) = ap kind_of (record_kept change old n m other)

-- ---- the nodes of lines

-- what is at one place changes, which is a line only where it was that line
pub lines_fit : (old new : List (Option NodeAt)) (place : List (List ℕ)) (now : Option NodeRecord) → nodes_from new ≡ with_node_at (nodes_from old) place now
    → ((line : ℕ) → kind_of (at_path (nodes_from old) place) ≡ Some (kind.Line line) → kind_of now ≡ Some (kind.Line line))
    → ((n line : ℕ) → kind_of (record_of new n) ≡ Some (kind.Line line) → kind_of (record_of old n) ≡ Some (kind.Line line))
    → FitTree old → FitTree new
lines_fit old new place now map there names fit = record {
  lines = λ line below.
      rw (map, at_placed (nodes_from old) place (tty_path line) now)
      (by_place line (same_path (tty_path line) place) refl (fit.lines line below));
  names = λ n line is. fit.names n line (names n line is);
}
  where
    by_place : (line : ℕ) (b : Bool) → same_path (tty_path line) place ≡ b → kind_of (at_path (nodes_from old) (tty_path line)) ≡ Some (kind.Line line)
        → kind_of (cond b now (at_path (nodes_from old) (tty_path line))) ≡ Some (kind.Line line)
    by_place line true same is = there line (ap (λ path. kind_of (at_path (nodes_from old) path)) (sym (path_true (tty_path line) place same)) ∙ is)
    by_place line false other is = is

-- a node changes
pub changed_lines : (change : NodeRecord → NodeRecord) (old new : List (Option NodeAt)) (n : ℕ) → LeavesKind change → new ≡ with_record change old n
    → nodes_from new ≡ with_node_at (nodes_from old) (path_of old n) (option_map change (record_of old n))
    → record_of old n ≡ at_path (nodes_from old) (path_of old n) → FitTree old → FitTree new
changed_lines change old new n leaves set map there fit =
    lines_fit old new (path_of old n) (option_map change (record_of old n)) map
    (λ line is. kind-left change (record_of old n) leaves ∙ ap kind_of there ∙ is)
    (λ m line is. sym (changed_kept change old n m leaves).kind ∙ ap (λ nodes. kind_of (record_of nodes m)) (sym set) ∙ is)
    fit

-- ---- the tables still fit where a node changes

pub changed_files : (change : NodeRecord → NodeRecord) (old new : List (Option NodeAt)) (n : ℕ) → LeavesKind change → new ≡ with_record change old n
    → (d : Shared Open) → FitFiles old d → FitFiles new d
changed_files change old new n leaves set d = files_fit old new d (λ entry number f at target. rw set (changed_kept change old n number leaves))

pub changed_directories : (change : NodeRecord → NodeRecord) (old new : List (Option NodeAt)) (n : ℕ) → LeavesKind change → new ≡ with_record change old n
    → (processes : Processes ℕ) → FitDirectories old processes → FitDirectories new processes
changed_directories change old new n leaves set processes =
    directories_fit old new processes (λ slot p at. rw set (changed_kept change old n p.directory leaves)) (rw set (changed_kept change old n 0 leaves))
