use Rattle.std.proofs.Common.{◌++◌, ◌∷◌, [], List, ℕ, Some, None, length, subst}
use Rattle.vnode_tree.specs.Nodes.{path_of, new_node, ChangesAt}
use Rattle.vnode_tree.proofs.Maps.{map_grows, can_add_absent}
use Rattle.vnode_tree.proofs.tree.Tree.add.Goals as goal

pub returns-clause-grows : goal.returns-clause-grows
returns-clause-grows c nodes m =
    let changes : ChangesAt (path_of c.args.self.now c.args.dir ++ c.args.name.now ∷ []) (Some (new_node c.args.kind c.args.attrs None c.args.contents))
    c.args.self.now c.make.new.self =
    subst
    (λ (name : List ℕ). ChangesAt (path_of c.args.self.now c.args.dir ++ name ∷ []) (Some (new_node c.args.kind c.args.attrs None c.args.contents))
    c.args.self.now c.make.new.self)
    c.in-Some.ensures.same c.in-Ok.ensures.changes in
    map_grows c.args.self.now c.make.new.self nodes
    (record { path = path_of c.args.self.now c.args.dir ++ c.args.name.now ∷ []; node = new_node c.args.kind c.args.attrs None c.args.contents }) m
    (can_add_absent c.args.self.now c.args.dir c.args.name.now (length c.args.contents) c.requires.room) changes c.in-Ok.ensures.count c.in-Ok.ensures.space
