use Rattle.vnode_tree.proofs.Finite.{at_placed}
use Rattle.vnode_tree.proofs.laws.a_node_is_put_at_one_path.Goals as goal

pub returns : goal.returns
returns c = λ nodes path other now. at_placed nodes path other now
