use Rattle.vnode_tree.proofs.Calls.{removed}
use Rattle.vnode_tree.proofs.Finite.{nodes_changed}
use Rattle.vnode_tree.proofs.Looks.{live_entry}
use Rattle.vnode_tree.proofs.tree.Tree.remove.Goals as goal

pub take_away-requires : goal.take_away-requires
take_away-requires c = live_entry c.self.inside.entries c.args.self.now c.args.node c.self.view_is c.requires.live

pub invariant_of-self : goal.invariant_of-self
invariant_of-self c =
    rw c.take_away.ensures (removed c.self.inside.entries c.args.self.now c.args.node c.self.view_is c.self.invariant c.requires.live c.requires.removable).kept

pub returns-clause-without_node : goal.returns-clause-without_node
returns-clause-without_node c =
    rw c.take_away.ensures (removed c.self.inside.entries c.args.self.now c.args.node c.self.view_is c.self.invariant c.requires.live c.requires.removable).gone

pub returns-clause-changes : goal.returns-clause-changes
returns-clause-changes c =
    rw c.take_away.ensures
    (removed c.self.inside.entries c.args.self.now c.args.node c.self.view_is c.self.invariant c.requires.live c.requires.removable).changes

pub returns-clause-map : goal.returns-clause-map
returns-clause-map c = nodes_changed _ _ _ _ (returns-clause-changes c)
