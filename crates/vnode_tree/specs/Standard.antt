-- What stands in a table of nodes, by the nodes that a boot makes.
use Rattle.std.specs.Prelude.{◌≡◌, ℕ, ◌+◌, Bool, ◌&&◌, nat_lt, nat_le, is_none, List, [], ◌∷◌, ◌++◌, length, map, Option, Some}
use Rattle.tree_model.specs.Tree.{NodeAt, is_dir_record, at_path, nodes_from}
use Rattle.sys_types.specs.declared.limits.TheConstants.{NODES, FILE_SPACE}
use Rattle.sys_types.specs.declared.limits.TheConstants.{NAME_BYTES}
use Rattle.vnode_tree.specs.Nodes.{IsLive, node_at, record_of, path_of, tree_of, is_name, count_of}
use Rattle.vnode_tree.specs.Contents.{space_of}
pub use Rattle.tree_model.specs.Standard.{attrs_of_owner, super_node, mode_755, mode_777, mode_700, mode_600, mode_644, mode_666, root_node, bin_node, etc_node}
pub use Rattle.tree_model.specs.Standard.{home_dir_node, dev_node, tmp_node, standard_dirs, image_text, image_node, digit, tty_line, tty_text, ttys_text}
pub use Rattle.tree_model.specs.Standard.{list_nodes, line_name, line_node, tty_node, home_node, with_images, with_lines}
unfoldable pub use Rattle.tree_model.specs.Standard.{standard}

-- a table of nodes has, at each path, what these nodes have, and there are as many, with as many bytes
pub record IsMapOf (table : List (Option NodeAt)) (nodes : List NodeAt) : Type 0 where
  pub there : tree_of table ≡ tree_of (map (λ n. Some n) nodes)
  pub count : count_of table ≡ length nodes
  pub space : space_of table ≡ space_of (map (λ n. Some n) nodes)

-- nodes that were live are as they were
abbrev pub Keeps : List (Option NodeAt) → List (Option NodeAt) → Type 0
Keeps old new = (number : ℕ) → IsLive old number → node_at new number ≡ node_at old number

-- a node of that name may be added to a directory of these, with so many bytes
abbrev pub can_add : List (Option NodeAt) → ℕ → List ℕ → ℕ → Bool
can_add nodes dir name size =
    is_dir_record (record_of nodes dir)
    && is_none (tree_of nodes (path_of nodes dir ++ name ∷ []))
    && is_name name && nat_le (length name) NAME_BYTES
    && nat_lt (count_of nodes) NODES
    && nat_le (space_of nodes + size) FILE_SPACE

-- each node is what the tree has at its path
pub record AreAtPaths (table : List (Option NodeAt)) : Type 0 where
  pub each : (number : ℕ) → IsLive table number → record_of table number ≡ at_path (nodes_from table) (path_of table number)
