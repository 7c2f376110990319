use Rattle.std.proofs.Common.{sym, ◌∙◌, ap}
use Rattle.std.specs.Prelude.{position}
use Rattle.vnode_tree.specs.Nodes.{path_of}
use Rattle.vnode_tree.specs.Links.{is_in}
use Rattle.vnode_tree.proofs.Children.{has_child, no_child}
use Rattle.vnode_tree.proofs.Finite.{some_names, no_names}
use Rattle.vnode_tree.proofs.tree.Tree.has_children.Goals as goal

pub returns-in-Some-clause-some : goal.returns-in-Some-clause-some
returns-in-Some-clause-some c =
    has_child c.self.inside.entries c.args.self.now c.args.node _ c.self.view_is c.self.invariant c.requires
    (ap (λ d. position (is_in d) c.self.inside.entries) (sym c.number.ensures) ∙ sym c.first_child.ensures ∙ c.in-Some.is)

pub returns-in-None-clause-none : goal.returns-in-None-clause-none
returns-in-None-clause-none c =
    no_child c.self.inside.entries c.args.self.now c.args.node c.self.view_is c.self.invariant c.requires
    (ap (λ d. position (is_in d) c.self.inside.entries) (sym c.number.ensures) ∙ sym c.first_child.ensures ∙ c.in-None.is)

pub returns-in-Some-clause-map : goal.returns-in-Some-clause-map
returns-in-Some-clause-map c = some_names c.args.self.now (path_of c.args.self.now c.args.node) (returns-in-Some-clause-some c)

pub returns-in-None-clause-map : goal.returns-in-None-clause-map
returns-in-None-clause-map c = no_names c.args.self.now (path_of c.args.self.now c.args.node) (returns-in-None-clause-none c)
