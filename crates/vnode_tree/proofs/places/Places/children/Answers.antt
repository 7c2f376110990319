-- The keys of a directory are those of its children.
use Rattle.std.proofs.Common.{◌∙◌, ap}
use Rattle.vnode_tree.specs.Children.{children_of}
use Rattle.vnode_tree.specs.Keys.{keyed_inside}
use Rattle.vnode_tree.proofs.Indexes.{children_are}
use Rattle.vnode_tree.proofs.places.Places.children.Goals as goal

pub returns : goal.returns
returns c =
    c.children.ensures ∙ ap (λ ks. keyed_inside ks c.args.dir) (c.deref.ensures.value ∙ c.self.invariant.keys_are)
    ∙ children_are c.args.dir c.self.inside.entries.items ∙ ap (λ es. children_of es c.args.dir) c.self.view_is
