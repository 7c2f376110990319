use Rattle.std.proofs.Common.{◌∷◌, [], refl}
use Rattle.std.specs.Prelude.{codes}
use Rattle.label_core.specs.declared.element.Element.TheVariants as element
use Rattle.sys_types.specs.declared.node.Kind.TheVariants as kind
use Rattle.vnode_tree.specs.Nodes.{tree_of}
use Rattle.vnode_tree.specs.Standard.{root_node, super_node, mode_755, mode_777}
use Rattle.vnode_tree.proofs.Maps.{Stage, next_stage, dir_fits}
use Rattle.vnode_tree.proofs.tree.Tree.add_dirs.Goals as goal

pub add_dir-bin-requires-clause-room : goal.add_dir-bin-requires-clause-room
unfolding tree_of
add_dir-bin-requires-clause-room c =
    let s0 : Stage c.args.self.now (root_node ∷ []) = record { map = c.requires.map; root = c.requires.root } in
    dir_fits c.args.self.now (root_node ∷ []) (codes "bin") s0 refl

pub add_dir-etc-requires-clause-room : goal.add_dir-etc-requires-clause-room
unfolding tree_of
add_dir-etc-requires-clause-room c =
    let s0 : Stage c.args.self.now (root_node ∷ []) = record { map = c.requires.map; root = c.requires.root } in
    let s1 : Stage c.add_dir-bin.new.self (root_node ∷ super_node (codes "bin" ∷ []) kind.Dir mode_755 element.Low [] ∷ []) =
    next_stage c.args.self.now c.add_dir-bin.new.self (root_node ∷ []) (super_node (codes "bin" ∷ []) kind.Dir mode_755 element.Low []) s0
    c.add_dir-bin.ensures.grows c.add_dir-bin.ensures.keeps in
    dir_fits c.add_dir-bin.new.self (root_node ∷ super_node (codes "bin" ∷ []) kind.Dir mode_755 element.Low [] ∷ []) (codes "etc") s1 refl

pub add_dir-home-requires-clause-room : goal.add_dir-home-requires-clause-room
unfolding tree_of
add_dir-home-requires-clause-room c =
    let s0 : Stage c.args.self.now (root_node ∷ []) = record { map = c.requires.map; root = c.requires.root } in
    let s1 : Stage c.add_dir-bin.new.self (root_node ∷ super_node (codes "bin" ∷ []) kind.Dir mode_755 element.Low [] ∷ []) =
    next_stage c.args.self.now c.add_dir-bin.new.self (root_node ∷ []) (super_node (codes "bin" ∷ []) kind.Dir mode_755 element.Low []) s0
    c.add_dir-bin.ensures.grows c.add_dir-bin.ensures.keeps in
    let s2 : Stage c.add_dir-etc.new.self
    (root_node ∷ super_node (codes "bin" ∷ []) kind.Dir mode_755 element.Low [] ∷ super_node (codes "etc" ∷ []) kind.Dir mode_755 element.Low [] ∷ []) =
    next_stage c.add_dir-bin.new.self c.add_dir-etc.new.self (root_node ∷ super_node (codes "bin" ∷ []) kind.Dir mode_755 element.Low [] ∷ [])
    (super_node (codes "etc" ∷ []) kind.Dir mode_755 element.Low []) s1 c.add_dir-etc.ensures.grows c.add_dir-etc.ensures.keeps in
    dir_fits c.add_dir-etc.new.self
    (root_node ∷ super_node (codes "bin" ∷ []) kind.Dir mode_755 element.Low [] ∷ super_node (codes "etc" ∷ []) kind.Dir mode_755 element.Low [] ∷ [])
    (codes "home") s2 refl

pub add_dir-dev-requires-clause-room : goal.add_dir-dev-requires-clause-room
unfolding tree_of
add_dir-dev-requires-clause-room c =
    let s0 : Stage c.args.self.now (root_node ∷ []) = record { map = c.requires.map; root = c.requires.root } in
    let s1 : Stage c.add_dir-bin.new.self (root_node ∷ super_node (codes "bin" ∷ []) kind.Dir mode_755 element.Low [] ∷ []) =
    next_stage c.args.self.now c.add_dir-bin.new.self (root_node ∷ []) (super_node (codes "bin" ∷ []) kind.Dir mode_755 element.Low []) s0
    c.add_dir-bin.ensures.grows c.add_dir-bin.ensures.keeps in
    let s2 : Stage c.add_dir-etc.new.self
    (root_node ∷ super_node (codes "bin" ∷ []) kind.Dir mode_755 element.Low [] ∷ super_node (codes "etc" ∷ []) kind.Dir mode_755 element.Low [] ∷ []) =
    next_stage c.add_dir-bin.new.self c.add_dir-etc.new.self (root_node ∷ super_node (codes "bin" ∷ []) kind.Dir mode_755 element.Low [] ∷ [])
    (super_node (codes "etc" ∷ []) kind.Dir mode_755 element.Low []) s1 c.add_dir-etc.ensures.grows c.add_dir-etc.ensures.keeps in
    let s3 : Stage c.add_dir-home.new.self
    (root_node ∷ super_node (codes "bin" ∷ []) kind.Dir mode_755 element.Low [] ∷ super_node (codes "etc" ∷ []) kind.Dir mode_755 element.Low []
    ∷ super_node (codes "home" ∷ []) kind.Dir mode_755 element.Low [] ∷ [])
    =
    next_stage c.add_dir-etc.new.self c.add_dir-home.new.self
    (root_node ∷ super_node (codes "bin" ∷ []) kind.Dir mode_755 element.Low [] ∷ super_node (codes "etc" ∷ []) kind.Dir mode_755 element.Low [] ∷ [])
    (super_node (codes "home" ∷ []) kind.Dir mode_755 element.Low []) s2 c.add_dir-home.ensures.grows c.add_dir-home.ensures.keeps in
    dir_fits c.add_dir-home.new.self
    (root_node ∷ super_node (codes "bin" ∷ []) kind.Dir mode_755 element.Low [] ∷ super_node (codes "etc" ∷ []) kind.Dir mode_755 element.Low [] ∷
    super_node (codes "home" ∷ []) kind.Dir mode_755 element.Low [] ∷ [])
    (codes "dev") s3 refl

pub add_dir-requires-clause-room : goal.add_dir-requires-clause-room
unfolding tree_of
add_dir-requires-clause-room c =
    let s0 : Stage c.args.self.now (root_node ∷ []) = record { map = c.requires.map; root = c.requires.root } in
    let s1 : Stage c.add_dir-bin.new.self (root_node ∷ super_node (codes "bin" ∷ []) kind.Dir mode_755 element.Low [] ∷ []) =
    next_stage c.args.self.now c.add_dir-bin.new.self (root_node ∷ []) (super_node (codes "bin" ∷ []) kind.Dir mode_755 element.Low []) s0
    c.add_dir-bin.ensures.grows c.add_dir-bin.ensures.keeps in
    let s2 : Stage c.add_dir-etc.new.self
    (root_node ∷ super_node (codes "bin" ∷ []) kind.Dir mode_755 element.Low [] ∷ super_node (codes "etc" ∷ []) kind.Dir mode_755 element.Low [] ∷ []) =
    next_stage c.add_dir-bin.new.self c.add_dir-etc.new.self (root_node ∷ super_node (codes "bin" ∷ []) kind.Dir mode_755 element.Low [] ∷ [])
    (super_node (codes "etc" ∷ []) kind.Dir mode_755 element.Low []) s1 c.add_dir-etc.ensures.grows c.add_dir-etc.ensures.keeps in
    let s3 : Stage c.add_dir-home.new.self
    (root_node ∷ super_node (codes "bin" ∷ []) kind.Dir mode_755 element.Low [] ∷ super_node (codes "etc" ∷ []) kind.Dir mode_755 element.Low []
    ∷ super_node (codes "home" ∷ []) kind.Dir mode_755 element.Low [] ∷ [])
    =
    next_stage c.add_dir-etc.new.self c.add_dir-home.new.self
    (root_node ∷ super_node (codes "bin" ∷ []) kind.Dir mode_755 element.Low [] ∷ super_node (codes "etc" ∷ []) kind.Dir mode_755 element.Low [] ∷ [])
    (super_node (codes "home" ∷ []) kind.Dir mode_755 element.Low []) s2 c.add_dir-home.ensures.grows c.add_dir-home.ensures.keeps in
    let s4 : Stage c.add_dir-dev.new.self
    (root_node ∷ super_node (codes "bin" ∷ []) kind.Dir mode_755 element.Low [] ∷ super_node (codes "etc" ∷ []) kind.Dir mode_755 element.Low []
    ∷ super_node (codes "home" ∷ []) kind.Dir mode_755 element.Low [] ∷ super_node (codes "dev" ∷ []) kind.Dir mode_755 element.Equal [] ∷ [])
    =
    next_stage c.add_dir-home.new.self c.add_dir-dev.new.self
    (root_node ∷ super_node (codes "bin" ∷ []) kind.Dir mode_755 element.Low [] ∷ super_node (codes "etc" ∷ []) kind.Dir mode_755 element.Low [] ∷
    super_node (codes "home" ∷ []) kind.Dir mode_755 element.Low [] ∷ [])
    (super_node (codes "dev" ∷ []) kind.Dir mode_755 element.Equal []) s3 c.add_dir-dev.ensures.grows c.add_dir-dev.ensures.keeps in
    dir_fits c.add_dir-dev.new.self
    (root_node ∷ super_node (codes "bin" ∷ []) kind.Dir mode_755 element.Low [] ∷ super_node (codes "etc" ∷ []) kind.Dir mode_755 element.Low [] ∷
    super_node (codes "home" ∷ []) kind.Dir mode_755 element.Low [] ∷ super_node (codes "dev" ∷ []) kind.Dir mode_755 element.Equal [] ∷ [])
    (codes "tmp") s4 refl

pub returns-clause-map : goal.returns-clause-map
returns-clause-map c =
    let s0 : Stage c.args.self.now (root_node ∷ []) = record { map = c.requires.map; root = c.requires.root } in
    let s1 : Stage c.add_dir-bin.new.self (root_node ∷ super_node (codes "bin" ∷ []) kind.Dir mode_755 element.Low [] ∷ []) =
    next_stage c.args.self.now c.add_dir-bin.new.self (root_node ∷ []) (super_node (codes "bin" ∷ []) kind.Dir mode_755 element.Low []) s0
    c.add_dir-bin.ensures.grows c.add_dir-bin.ensures.keeps in
    let s2 : Stage c.add_dir-etc.new.self
    (root_node ∷ super_node (codes "bin" ∷ []) kind.Dir mode_755 element.Low [] ∷ super_node (codes "etc" ∷ []) kind.Dir mode_755 element.Low [] ∷ []) =
    next_stage c.add_dir-bin.new.self c.add_dir-etc.new.self (root_node ∷ super_node (codes "bin" ∷ []) kind.Dir mode_755 element.Low [] ∷ [])
    (super_node (codes "etc" ∷ []) kind.Dir mode_755 element.Low []) s1 c.add_dir-etc.ensures.grows c.add_dir-etc.ensures.keeps in
    let s3 : Stage c.add_dir-home.new.self
    (root_node ∷ super_node (codes "bin" ∷ []) kind.Dir mode_755 element.Low [] ∷ super_node (codes "etc" ∷ []) kind.Dir mode_755 element.Low []
    ∷ super_node (codes "home" ∷ []) kind.Dir mode_755 element.Low [] ∷ [])
    =
    next_stage c.add_dir-etc.new.self c.add_dir-home.new.self
    (root_node ∷ super_node (codes "bin" ∷ []) kind.Dir mode_755 element.Low [] ∷ super_node (codes "etc" ∷ []) kind.Dir mode_755 element.Low [] ∷ [])
    (super_node (codes "home" ∷ []) kind.Dir mode_755 element.Low []) s2 c.add_dir-home.ensures.grows c.add_dir-home.ensures.keeps in
    let s4 : Stage c.add_dir-dev.new.self
    (root_node ∷ super_node (codes "bin" ∷ []) kind.Dir mode_755 element.Low [] ∷ super_node (codes "etc" ∷ []) kind.Dir mode_755 element.Low []
    ∷ super_node (codes "home" ∷ []) kind.Dir mode_755 element.Low [] ∷ super_node (codes "dev" ∷ []) kind.Dir mode_755 element.Equal [] ∷ [])
    =
    next_stage c.add_dir-home.new.self c.add_dir-dev.new.self
    (root_node ∷ super_node (codes "bin" ∷ []) kind.Dir mode_755 element.Low [] ∷ super_node (codes "etc" ∷ []) kind.Dir mode_755 element.Low [] ∷
    super_node (codes "home" ∷ []) kind.Dir mode_755 element.Low [] ∷ [])
    (super_node (codes "dev" ∷ []) kind.Dir mode_755 element.Equal []) s3 c.add_dir-dev.ensures.grows c.add_dir-dev.ensures.keeps in
    let s5 : Stage c.add_dir.new.self
    (root_node ∷ super_node (codes "bin" ∷ []) kind.Dir mode_755 element.Low [] ∷ super_node (codes "etc" ∷ []) kind.Dir mode_755 element.Low []
    ∷ super_node (codes "home" ∷ []) kind.Dir mode_755 element.Low [] ∷ super_node (codes "dev" ∷ []) kind.Dir mode_755 element.Equal []
    ∷ super_node (codes "tmp" ∷ []) kind.Dir mode_777 element.Equal [] ∷ [])
    =
    next_stage c.add_dir-dev.new.self c.add_dir.new.self
    (root_node ∷ super_node (codes "bin" ∷ []) kind.Dir mode_755 element.Low [] ∷ super_node (codes "etc" ∷ []) kind.Dir mode_755 element.Low [] ∷
    super_node (codes "home" ∷ []) kind.Dir mode_755 element.Low [] ∷ super_node (codes "dev" ∷ []) kind.Dir mode_755 element.Equal [] ∷ [])
    (super_node (codes "tmp" ∷ []) kind.Dir mode_777 element.Equal []) s4 c.add_dir.ensures.grows c.add_dir.ensures.keeps in
    s5.map
