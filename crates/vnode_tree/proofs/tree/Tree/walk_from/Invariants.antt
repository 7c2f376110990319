use Rattle.std.proofs.Common.{length}
use Rattle.tree_model.specs.Tree.{walk_from}
use Rattle.vnode_tree.specs.Nodes.{path_of, tree_of}
use Rattle.vnode_tree.proofs.Walking.{Walking}
use Rattle.vnode_tree.proofs.tree.Tree.walk_from.Given as goal

abbrev pub invariant-loop-part : goal.invariant-loop-part
invariant-loop-part l = Walking l.self (walk_from (tree_of l.self) (path_of l.self l.fn.from) l.fn.steps) l.fn.passed.items l.here l.steps l.passed.items

abbrev pub decreases-loop-part : goal.decreases-loop-part
decreases-loop-part l = length l.steps
