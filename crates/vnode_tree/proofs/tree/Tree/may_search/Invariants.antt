use Rattle.std.proofs.Common.{◌≡◌, map, drop}
use Rattle.tree_model.specs.Tree.{at_path, nodes_from}
use Rattle.vnode_tree.specs.Nodes.{path_of}
use Rattle.vnode_tree.specs.Resolve.{search_rules}
use Rattle.vnode_tree.proofs.tree.Tree.may_search.Given as goal

-- the directories so far may be searched, so it is left to those that were not looked at
abbrev pub invariant-loop-dir : goal.invariant-loop-dir
invariant-loop-dir l =
    search_rules (at_path (nodes_from l.self)) l.cred l.label (map (path_of l.self) (drop l.dir-index l.dirs))
    ≡ search_rules (at_path (nodes_from l.self)) l.cred l.label (map (path_of l.self) l.dirs)
