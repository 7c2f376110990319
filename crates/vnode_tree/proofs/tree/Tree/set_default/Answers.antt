use Rattle.vnode_tree.proofs.Calls.{default_set}
use Rattle.vnode_tree.proofs.Finite.{nodes_changed}
use Rattle.vnode_tree.proofs.Looks.{live_entry}
use Rattle.vnode_tree.proofs.tree.Tree.set_default.Goals as goal

pub set_default-requires : goal.set_default-requires
set_default-requires c = live_entry c.self.inside.entries c.args.self.now c.args.node c.self.view_is c.requires.live

pub invariant_of-self : goal.invariant_of-self
invariant_of-self c =
    rw c.set_default.ensures (default_set c.args.list c.self.inside.entries c.args.self.now c.args.node c.self.view_is c.self.invariant c.requires.live).kept

pub returns-clause-set : goal.returns-clause-set
returns-clause-set c =
    rw c.set_default.ensures (default_set c.args.list c.self.inside.entries c.args.self.now c.args.node c.self.view_is c.self.invariant c.requires.live).set

pub returns-clause-changes : goal.returns-clause-changes
returns-clause-changes c =
    rw c.set_default.ensures (default_set c.args.list c.self.inside.entries c.args.self.now c.args.node c.self.view_is c.self.invariant c.requires.live).changes

pub returns-clause-map : goal.returns-clause-map
returns-clause-map c = nodes_changed _ _ _ _ (returns-clause-changes c)
