use Rattle.vnode_tree.proofs.Calls.{attrs_set}
use Rattle.vnode_tree.proofs.Finite.{nodes_changed}
use Rattle.vnode_tree.proofs.Looks.{live_entry}
use Rattle.vnode_tree.proofs.tree.Tree.set_attrs.Goals as goal

pub set_attrs-requires : goal.set_attrs-requires
set_attrs-requires c = live_entry c.self.inside.entries c.args.self.now c.args.node c.self.view_is c.requires.live

pub invariant_of-self : goal.invariant_of-self
invariant_of-self c =
    rw c.set_attrs.ensures
    (attrs_set c.args.attrs c.self.inside.entries c.args.self.now c.args.node c.self.view_is c.self.invariant c.requires.live c.requires.kind).kept

pub returns-clause-set : goal.returns-clause-set
returns-clause-set c =
    rw c.set_attrs.ensures
    (attrs_set c.args.attrs c.self.inside.entries c.args.self.now c.args.node c.self.view_is c.self.invariant c.requires.live c.requires.kind).set

pub returns-clause-changes : goal.returns-clause-changes
returns-clause-changes c =
    rw c.set_attrs.ensures
    (attrs_set c.args.attrs c.self.inside.entries c.args.self.now c.args.node c.self.view_is c.self.invariant c.requires.live c.requires.kind).changes

pub returns-clause-map : goal.returns-clause-map
returns-clause-map c = nodes_changed _ _ _ _ (returns-clause-changes c)
