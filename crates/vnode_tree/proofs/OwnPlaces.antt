-- Each node of a tree is what the tree has at its path.
use Rattle.std.proofs.Common.{◌≡◌, ℕ, List, Option, Some, None, refl, sym, ◌∙◌}
use Rattle.std.specs.Prelude.{IsSome}
use Rattle.tree_model.specs.Tree.{NodeAt, at_path, nodes_from}
use Rattle.vnode_tree.specs.declared.entry.Entry.{Entry}
use Rattle.vnode_tree.specs.Nodes.{record_of, path_of}
use Rattle.vnode_tree.specs.Links.{nodes_of, entry_at}
use Rattle.vnode_tree.specs.Kept.{IsKept}
use Rattle.vnode_tree.specs.Standard.{AreAtPaths}
use Rattle.vnode_tree.proofs.Looks.{live_entry, record_is}
use Rattle.vnode_tree.proofs.Finite.{what_is_at}

at-path : (entries : List (Option Entry)) (nodes : List (Option NodeAt)) (n : ℕ) (o : Option Entry) → nodes_of entries ≡ nodes → IsKept entries
    → entry_at entries n ≡ o → IsSome o → record_of nodes n ≡ at_path (nodes_from nodes) (path_of nodes n)
at-path entries nodes n None view kept at some = absurd cc
at-path entries nodes n (Some entry) view kept at some = record_is entries nodes n entry view kept at ∙ sym (what_is_at entries nodes n entry view kept at)

pub at_paths : (entries : List (Option Entry)) (nodes : List (Option NodeAt)) → nodes_of entries ≡ nodes → IsKept entries → AreAtPaths nodes
at_paths entries nodes view kept = record {
  each = λ n live. at-path entries nodes n (entry_at entries n) view kept refl (live_entry entries nodes n view live);
}
