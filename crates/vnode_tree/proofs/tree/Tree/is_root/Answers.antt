use Rattle.std.proofs.Common.{sym, ◌∙◌, ap}
use Rattle.vnode_tree.specs.Nodes.{path_of}
use Rattle.vnode_tree.proofs.Children.{root_at, only_root}
use Rattle.vnode_tree.proofs.tree.Tree.is_root.Goals as goal

pub returns-then-number-eq0-clause-root : goal.returns-then-number-eq0-clause-root
returns-then-number-eq0-clause-root c =
    ap (path_of c.args.self.now) (sym c.number.ensures ∙ c.if-number-eq0.true)
    ∙ (root_at c.self.inside.entries c.args.self.now c.self.view_is c.self.invariant).here

pub returns-clause-below : goal.returns-clause-below
returns-clause-below c path =
    c.if-number-eq0.false (c.number.ensures ∙ only_root c.self.inside.entries c.args.self.now c.args.node c.self.view_is c.self.invariant c.requires path)
