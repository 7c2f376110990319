-- The node of a terminal line: where it is there, so is the directory of lines.
use Rattle.std.proofs.Common.{◌≡◌, ◌≢◌, ℕ, true, List, [], ◌∷◌, Option, Some, None, refl, sym, ap, ◌∙◌}
use Rattle.std.specs.Prelude.{IsSome, is_some}
use Rattle.tree_model.specs.Tree.{NodeRecord, at_path, nodes_from, parent_of}
use Rattle.vnode_tree.specs.declared.entry.Entry.{Entry}
use Rattle.vnode_tree.specs.Nodes.{NodeAt, node_at, path_in, path_of, tree_of}
use Rattle.vnode_tree.specs.Links.{nodes_of}
use Rattle.vnode_tree.specs.Kept.{IsKept}
use Rattle.vnode_tree.proofs.Children.{dir_of, root_at}
use Rattle.vnode_tree.proofs.Finite.{at_path_is}
use Rattle.vnode_tree.proofs.Tables.{listed}
use Rattle.vnode_tree.proofs.Trees.{found_at}

not-both : {A : Type 0} (o : Option A) → is_some o ≡ true → o ≡ None → ⊥
not-both None some none = cc
not-both (Some x) some none = cc

-- the directory of a node that is there
above-there : (entries : List (Option Entry)) (nodes : List (Option NodeAt)) (dir name : List ℕ) (node : NodeRecord) → nodes_of entries ≡ nodes → IsKept entries
    → tree_of nodes (dir ∷ name ∷ []) ≡ Some node → is_some (tree_of nodes (dir ∷ [])) ≡ true
above-there entries nodes dir name node view kept e =
    let found = found_at nodes (dir ∷ name ∷ []) node e in
    let path : path_of nodes found.place ≡ dir ∷ name ∷ [] = ap path_in found.at ∙ found.path_is in
    let is = listed entries found.place found.itself (ap (λ ns. node_at ns found.place) view ∙ found.at) in
    let root = (root_at entries nodes view kept).here in
    let other : found.place ≢ 0 =
    λ same.
    let both : dir ∷ name ∷ [] ≡ [] = sym path ∙ ap (path_of nodes) same ∙ root in
    cc in
    ap (λ p. is_some (tree_of nodes (parent_of p))) (sym path) ∙ (dir_of entries nodes found.place is.entry view kept is.at other).some

pub dir_there : (entries : List (Option Entry)) (nodes : List (Option NodeAt)) (dir name : List ℕ) → nodes_of entries ≡ nodes → IsKept entries
    → IsSome (at_path (nodes_from nodes) (dir ∷ name ∷ [])) → tree_of nodes (dir ∷ []) ≡ None → ⊥
dir_there entries nodes dir name view kept there none =
    by_node (tree_of nodes (dir ∷ name ∷ [])) refl (ap is_some (sym (at_path_is nodes (dir ∷ name ∷ []))) ∙ there)
  where
    by_node : (o : Option NodeRecord) → tree_of nodes (dir ∷ name ∷ []) ≡ o → is_some o ≡ true → ⊥
    by_node None e some = cc
    by_node (Some node) e some = not-both (tree_of nodes (dir ∷ [])) (above-there entries nodes dir name node view kept e) none

pub name_there : (nodes : List (Option NodeAt)) (path : List (List ℕ)) → IsSome (at_path (nodes_from nodes) path) → tree_of nodes path ≡ None → ⊥
name_there nodes path there none = not-both (tree_of nodes path) (ap is_some (sym (at_path_is nodes path)) ∙ there) none
