use Rattle.vnode_tree.proofs.OwnPathLemmas.{finds_itself}
use Rattle.vnode_tree.proofs.laws.a_path_leads_to_its_node.Goals as goal

pub returns : goal.returns
returns c here short = finds_itself c.tree.inside.entries c.args.tree.now c.args.node here c.tree.view_is c.tree.invariant c.requires short
