use Rattle.std.proofs.Common.{◌≡◌, ◌++◌, Some, map, take}
use Rattle.sys_types.specs.Images.{images}
use Rattle.vnode_tree.specs.Nodes.{node_at}
use Rattle.vnode_tree.specs.Standard.{IsMapOf, Keeps, standard_dirs, image_node, bin_node}
use Rattle.vnode_tree.proofs.tree.Tree.add_images.Given as goal

abbrev pub invariant-loop-image : goal.invariant-loop-image
invariant-loop-image l =
    IsMapOf l.self (standard_dirs ++ map image_node (take l.image-index images)) × (node_at l.self l.bin ≡ Some bin_node) × Keeps l.fn.self l.self
    × (l.image-items ≡ images)
