use Rattle.vnode_tree.proofs.Devices.{itself_there}
use Rattle.vnode_tree.proofs.Files.{file_live, file_cut}
use Rattle.vnode_tree.proofs.Finite.{nodes_changed}
use Rattle.vnode_tree.proofs.Looks.{live_entry}
use Rattle.vnode_tree.proofs.tree.Tree.truncate.Goals as goal

pub clear-requires : goal.clear-requires
clear-requires c =
    live_entry c.self.inside.entries c.args.self.now c.args.node c.self.view_is (file_live c.args.self.now c.args.node c.requires)

pub invariant_of-self : goal.invariant_of-self
invariant_of-self c =
    rw c.clear.ensures (file_cut c.self.inside.entries c.args.self.now c.args.node c.self.view_is c.self.invariant c.requires).kept

pub returns-clause-cut : goal.returns-clause-cut
returns-clause-cut c =
    rw c.clear.ensures (file_cut c.self.inside.entries c.args.self.now c.args.node c.self.view_is c.self.invariant c.requires).set

pub returns-clause-changes : goal.returns-clause-changes
returns-clause-changes c =
    rw c.clear.ensures (file_cut c.self.inside.entries c.args.self.now c.args.node c.self.view_is c.self.invariant c.requires).changes

pub returns-clause-map : goal.returns-clause-map
returns-clause-map c = nodes_changed _ _ _ _ (returns-clause-changes c)

pub returns-clause-node : goal.returns-clause-node
returns-clause-node c =
    itself_there c.self.inside.entries c.args.self.now c.args.node c.self.view_is c.self.invariant
    (file_live c.args.self.now c.args.node c.requires)
