use Rattle.std.proofs.Common.{sym, ◌∙◌, ap}
use Rattle.std.specs.Prelude.{position}
use Rattle.vnode_tree.specs.Links.{is_child}
use Rattle.vnode_tree.proofs.Children.{child_found, child_none}
use Rattle.vnode_tree.proofs.tree.Tree.child.Goals as goal

pub returns-in-None : goal.returns-in-None
returns-in-None c =
    child_none c.self.inside.entries c.args.self.now c.args.dir c.args.name.now c.self.view_is c.self.invariant c.requires.live
    (ap (λ d. position (is_child d c.args.name.now) c.self.inside.entries) (sym c.number.ensures) ∙ sym c.child_place.ensures ∙ c.in-None.is)

pub returns-in-Some : goal.returns-in-Some
returns-in-Some c =
    rw c.of.ensures
    (child_found c.self.inside.entries c.args.self.now c.args.dir c.args.name.now c.in-Some.place c.self.view_is
    c.self.invariant c.requires.live c.requires.some
    (ap (λ d. position (is_child d c.args.name.now) c.self.inside.entries) (sym c.number.ensures) ∙ sym c.child_place.ensures ∙ c.in-Some.is))
