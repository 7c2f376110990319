-- Places that are all free have no keys and hold no bytes.
use Rattle.std.proofs.Common.{rules}
use Rattle.vnode_tree.proofs.Indexes.{free_index}
use Rattle.vnode_tree.proofs.places.Places.all_free.Goals as goal

pub invariant_of-result : goal.invariant_of-result
invariant_of-result c =
    free_index c.in_ok-free_places.field-0.items c.in_ok-vec.field-0.items c.in_ok-free_places.ensures
    (c.in_ok-vec.ensures.items_if_clones_equal (λ key clone. search rules))
