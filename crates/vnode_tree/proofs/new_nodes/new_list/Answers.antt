use Rattle.std.proofs.Common.{rules}
use Rattle.vnode_tree.proofs.new_nodes.new_list.Goals as goal

pub returns-in-Some : goal.returns-in-Some
returns-in-Some c = search rules
