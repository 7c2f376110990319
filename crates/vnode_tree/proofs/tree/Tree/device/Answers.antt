use Rattle.std.proofs.Common.{◌≡◌, [], ◌∷◌, ◌++◌, Option, Some, None, sym, ap, ◌∙◌, subst}
use Rattle.std.specs.Prelude.{codes, MatchOption}
use Rattle.sys_types.specs.declared.node.Node.{Node}
use Rattle.tree_model.specs.Tree.{at_path, nodes_from}
use Rattle.vnode_tree.specs.Nodes.{IsAt, path_of, tree_of}
use Rattle.vnode_tree.proofs.Devices.{nothing_below}
use Rattle.vnode_tree.proofs.Finite.{at_path_is}
use Rattle.vnode_tree.proofs.tree.Tree.device.Goals as goal

pub returns-in_default : goal.returns-in_default
returns-in_default c =
    nothing_below c.self.inside.entries c.args.self.now (codes "dev") c.args.name.now c.self.view_is c.self.invariant
    (ap (λ path. tree_of c.args.self.now (path ++ codes "dev" ∷ [])) (sym c.root.ensures.path) ∙ c.in_default.ensures)

pub returns : goal.returns
returns c = by_answer c.child-2.result c.child-2.ensures
  where
    dir_path : path_of c.args.self.now c.in-Some.dir ≡ codes "dev" ∷ []
    dir_path = c.in-Some.ensures.here ∙ ap (λ path. path ++ codes "dev" ∷ []) c.root.ensures.path

    by_answer : (o : Option Node)
        → MatchOption o (tree_of c.args.self.now (path_of c.args.self.now c.in-Some.dir ++ c.args.name.now ∷ []) ≡ None)
        (λ node. IsAt c.args.self.now (path_of c.args.self.now c.in-Some.dir ++ c.args.name.now ∷ []) node)
        → MatchOption o (at_path (nodes_from c.args.self.now) (codes "dev" ∷ c.args.name.now ∷ []) ≡ None)
        (IsAt c.args.self.now (codes "dev" ∷ c.args.name.now ∷ []))
    by_answer None is =
        at_path_is c.args.self.now (codes "dev" ∷ c.args.name.now ∷ [])
        ∙ ap (λ path. tree_of c.args.self.now (path ++ c.args.name.now ∷ [])) (sym dir_path)
        ∙ is
    by_answer (Some node) is = subst (λ path. IsAt c.args.self.now (path ++ c.args.name.now ∷ []) node) dir_path is
