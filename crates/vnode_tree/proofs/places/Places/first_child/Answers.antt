-- The keys find what a search of the entries finds.
use Rattle.std.proofs.Common.{◌&&◌, ◌∙◌, Bool, Option, ap, ap₂}
use Rattle.std.specs.Prelude.{position}
use Rattle.std.specs.List.{zip}
use Rattle.vnode_tree.specs.declared.entry.Entry.{Entry}
use Rattle.vnode_tree.specs.declared.key.Key.{Key}
use Rattle.vnode_tree.specs.Links.{is_in}
use Rattle.vnode_tree.specs.Keys.{is_key_below}
use Rattle.vnode_tree.proofs.Indexes.{first_child_is}
use Rattle.vnode_tree.proofs.places.Places.first_child.Goals as goal

pub returns : goal.returns
returns c =
    let test : Option Key × Option Entry → Bool = λ p. is_key_below c.args.dir p.0 && is_in c.args.dir p.1 in
    c.first_child.ensures ∙ ap₂ (λ ks es. position test (zip ks es)) (c.deref.ensures.value ∙ c.self.invariant.keys_are) c.deref-2.ensures.value
    ∙ first_child_is c.args.dir c.self.inside.entries.items ∙ ap (position (is_in c.args.dir)) c.self.view_is
