-- The fold is the sum of the bytes.
use Rattle.std.proofs.Common.{rules}
use Rattle.vnode_tree.specs.Keys.{name_sum}
use Rattle.vnode_tree.proofs.key.sum_of.Goals as goal

pub returns : goal.returns
unfolding name_sum
returns c = search rules
