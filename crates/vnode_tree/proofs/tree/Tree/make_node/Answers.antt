use Rattle.std.proofs.Common.{rules}
use Rattle.vnode_tree.proofs.tree.Tree.make_node.Goals as goal

pub returns-clause-new_node : goal.returns-clause-new_node
returns-clause-new_node c = search rules

pub returns-clause-map : goal.returns-clause-map
returns-clause-map c = search rules
