-- The keys find what a search of the entries finds.
use Rattle.std.proofs.Common.{◌&&◌, ◌∙◌, Bool, Option, ap, ap₂}
use Rattle.std.specs.Prelude.{position}
use Rattle.std.specs.List.{zip}
use Rattle.vnode_tree.specs.declared.entry.Entry.{Entry}
use Rattle.vnode_tree.specs.declared.key.Key.{Key}
use Rattle.vnode_tree.specs.Links.{is_child}
use Rattle.vnode_tree.specs.Keys.{has_key, key_of}
use Rattle.vnode_tree.proofs.Indexes.{child_place_is}
use Rattle.vnode_tree.proofs.places.Places.child_place.Goals as goal

pub returns : goal.returns
returns c =
    let test : Option Key × Option Entry → Bool = λ p. has_key (key_of c.args.dir c.args.name.now) p.0 && is_child c.args.dir c.args.name.now p.1 in
    c.child_place.ensures ∙ ap₂ (λ ks es. position test (zip ks es)) (c.deref.ensures.value ∙ c.self.invariant.keys_are) c.deref-2.ensures.value
    ∙ child_place_is c.args.dir c.args.name.now c.self.inside.entries.items ∙ ap (position (is_child c.args.dir c.args.name.now)) c.self.view_is
