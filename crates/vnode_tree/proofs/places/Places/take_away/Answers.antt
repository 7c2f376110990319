-- A node goes with its key, and its bytes leave the total.
use Rattle.std.proofs.Common.{◌≡◌, ◌<◌, None, length, ap, ◌∙◌, refl, arith}
use Rattle.std.proofs.lemmas.List.{get_or_default}
use Rattle.vnode_tree.specs.Links.{entry_at}
use Rattle.vnode_tree.specs.Kept.{size_in}
use Rattle.vnode_tree.proofs.Indexes.{below_size, place_set, part_of_all}
use Rattle.vnode_tree.proofs.places.Places.take_away.Goals as goal

pub invariant_of-self : goal.invariant_of-self
invariant_of-self c =
    let below : c.from-place.result < length c.self.inside.entries.items =
    below_size c.self.inside.entries.items c.args.self.now c.from-place.result c.args.node c.self.view_is c.requires
    (c.from-place.ensures ∙ c.number.ensures) in
    let size_is : c.size.result ≡ size_in (entry_at c.self.inside.entries.items c.from-place.result) =
    c.size.ensures ∙ ap size_in (c.index.ensures ∙ get_or_default c.self.inside.entries.items c.from-place.result c.index.result.now None below) in
    place_set c.self.inside.entries.items c.self.inside.keys.items c.self.inside.total c.from-place.result _ _ _ c.self.invariant below refl
    (omega (arith, size_is, part_of_all c.self.inside.entries.items c.from-place.result below, c.self.invariant.total_is))
