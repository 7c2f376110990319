use Rattle.std.proofs.Common.{◌≡◌, [], ◌∷◌, ◌++◌, sym, ap, ◌∙◌}
use Rattle.std.specs.Prelude.{codes}
use Rattle.tree_model.specs.Standard.{line_name}
use Rattle.vnode_tree.specs.Nodes.{path_of, tree_of}
use Rattle.vnode_tree.proofs.LineNodes.{dir_there, name_there}
use Rattle.vnode_tree.proofs.tree.Tree.line_node.Goals as goal
use Rattle.vnode_tree.proofs.tree.Tree.line_node.Goals.{In-Some}

pub unreachable-requires : goal.unreachable-requires
unreachable-requires c =
    dir_there c.self.inside.entries c.args.self.now (codes "dev") (line_name c.args.line) c.self.view_is c.self.invariant c.requires.there
    (ap (λ path. tree_of c.args.self.now (path ++ codes "dev" ∷ [])) (sym c.root.ensures.path) ∙ c.in_default.ensures)

-- the directory of lines
dir : (c : In-Some) → path_of c.args.self.now c.in-Some.dir ≡ codes "dev" ∷ []
dir c = c.in-Some.ensures.here ∙ ap (λ path. path ++ codes "dev" ∷ []) c.root.ensures.path

pub unreachable-requires-in_default-child : goal.unreachable-requires-in_default-child
unreachable-requires-in_default-child c =
    name_there c.args.self.now (codes "dev" ∷ line_name c.args.line ∷ []) c.requires.there
    (ap (λ path. tree_of c.args.self.now (path ++ line_name c.args.line ∷ [])) (sym (dir (goal.at.unreachable-requires-in_default-child c).In-Some))
    ∙ ap (λ name. tree_of c.args.self.now (path_of c.args.self.now c.in-Some.dir ++ name ∷ [])) (sym c.line_name.ensures)
    ∙ c.in_default-child.ensures)
