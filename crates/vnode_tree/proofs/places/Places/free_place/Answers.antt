-- The first place without a key is the first without an entry.
use Rattle.std.proofs.Common.{◌∙◌, ap}
use Rattle.std.specs.Prelude.{is_none, position}
use Rattle.vnode_tree.proofs.Indexes.{free_place_is}
use Rattle.vnode_tree.proofs.places.Places.free_place.Goals as goal

pub returns : goal.returns
returns c =
    c.free_place.ensures ∙ ap (position is_none) (c.deref.ensures.value ∙ c.self.invariant.keys_are)
    ∙ free_place_is c.self.inside.entries.items ∙ ap (position is_none) c.self.view_is
