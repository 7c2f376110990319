use Rattle.std.proofs.Common.{◌∷◌, ◌++◌, [], List, ℕ, Some, ap, ◌∙◌, subst}
use Rattle.sys_types.specs.declared.node.Kind.TheVariants as kind
use Rattle.vnode_tree.specs.Standard.{IsMapOf, root_node, super_node}
use Rattle.vnode_tree.proofs.tree.Tree.add_dir.Goals as goal

pub returns-clause-at : goal.returns-clause-at
returns-clause-at c =
    c.add_super.ensures.at root_node c.requires.root
    ∙ ap (λ (bytes : List ℕ). Some (super_node (c.args.name.now ∷ []) kind.Dir c.args.mode c.args.element bytes)) c.empty.ensures

pub returns-clause-grows : goal.returns-clause-grows
returns-clause-grows c nodes m =
    subst (λ (bytes : List ℕ). IsMapOf c.add_super.new.self (nodes ++ super_node (c.args.name.now ∷ []) kind.Dir c.args.mode c.args.element bytes ∷ []))
    c.empty.ensures (c.add_super.ensures.grows root_node nodes c.requires.root m)
