use Rattle.std.proofs.Common.{◌≡◌, ◌++◌, Some, map}
use Rattle.std.specs.List.{range_with_len}
use Rattle.vnode_tree.specs.Nodes.{node_at}
use Rattle.vnode_tree.specs.Standard.{IsMapOf, Keeps, with_images, line_node, dev_node}
use Rattle.vnode_tree.proofs.tree.Tree.add_lines.Given as goal

abbrev pub invariant-loop-number : goal.invariant-loop-number
invariant-loop-number l =
    IsMapOf l.self (with_images ++ map line_node (range_with_len 0 l.number)) × (node_at l.self l.dev ≡ Some dev_node) × Keeps l.fn.self l.self
