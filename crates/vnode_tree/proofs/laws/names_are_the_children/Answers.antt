use Rattle.std.proofs.Common.{subst}
use Rattle.vnode_tree.proofs.Tables.{paths_apart}
use Rattle.vnode_tree.proofs.Trees.{ArePathsApart}
use Rattle.vnode_tree.proofs.NamesLaws.{are_below, they_rise, only_names}
use Rattle.vnode_tree.proofs.laws.names_are_the_children.Goals as goal

-- no two nodes of the tree have one path
all_apart : (c : goal.After-tree) → ArePathsApart c.args.tree.now
all_apart c = subst ArePathsApart c.tree.view_is (paths_apart c.tree.inside.entries c.tree.invariant)

pub returns-clause-children : goal.returns-clause-children
returns-clause-children c = are_below c.args.tree.now c.args.dir

pub returns-clause-order : goal.returns-clause-order
returns-clause-order c = they_rise c.args.tree.now c.args.dir (all_apart c)

pub returns-clause-only : goal.returns-clause-only
returns-clause-only c names below up = only_names c.args.tree.now c.args.dir names (all_apart c) below up
