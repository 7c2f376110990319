-- A node that is there is in a directory that is there; and whether a table has a free place.
use Rattle.std.proofs.Common.{◌≡◌, ℕ, true, false, List, [], ◌∷◌, Option, Some, None, refl, sym, ap, ◌∙◌, arith}
use Rattle.std.specs.Prelude.{is_some, is_none, position, ◌==◌, length}
use Rattle.std.proofs.lemmas.List.Quantifiers.{position-Some}
use Rattle.std.proofs.lemmas.Bool.Decides.{nat_tests}
use Rattle.tree_model.specs.Tree.{NodeRecord, at_path, nodes_from, parent_of}
use Rattle.vnode_tree.specs.declared.entry.Entry.{Entry}
use Rattle.vnode_tree.specs.Nodes.{NodeAt, IsLive, node_at, path_in, path_of, record_of, tree_of, count_of}
use Rattle.vnode_tree.specs.Links.{entry_at, nodes_of}
use Rattle.vnode_tree.specs.Kept.{IsKept}
use Rattle.vnode_tree.proofs.Calls.{full_table, some_entry}
use Rattle.vnode_tree.proofs.Children.{dir_of, root_at}
use Rattle.vnode_tree.proofs.Finite.{at_path_is, nodes_counted, apart_table, what_is_at}
use Rattle.vnode_tree.proofs.Looks.{live_entry, record_is}
use Rattle.vnode_tree.proofs.Tables.{listed}
use Rattle.vnode_tree.proofs.Trees.{found_at}
use Rattle.vnode_tree.proofs.Counts.{count_with_free}
use Rattle.vnode_tree.proofs.Tables.{length-nodes}

-- a name in a directory that is not there is not there
above-there : (entries : List (Option Entry)) (dir name : List ℕ) (what : NodeRecord) → IsKept entries
    → tree_of (nodes_of entries) (dir ∷ name ∷ []) ≡ Some what
    → tree_of (nodes_of entries) (dir ∷ []) ≡ None → ⊥
above-there entries dir name what kept is none =
    let found = found_at (nodes_of entries) (dir ∷ name ∷ []) what is in
    let entry = listed entries found.place found.itself found.at in
    let path : path_of (nodes_of entries) found.place ≡ dir ∷ name ∷ [] = ap path_in found.at ∙ found.path_is in
    let above = dir_of entries (nodes_of entries) found.place entry.entry refl kept entry.at
    (λ first.
    absurd (
    let root : path_of (nodes_of entries) found.place ≡ [] = ap (path_of (nodes_of entries)) first ∙ (root_at entries (nodes_of entries) refl kept).here in
    let no : [] ≡ dir ∷ name ∷ [] = sym root ∙ path in
    cc)) in
    let there : is_some (tree_of (nodes_of entries) (dir ∷ [])) ≡ true = ap (λ p. is_some (tree_of (nodes_of entries) (parent_of p))) (sym path) ∙ above.some in
    let no : false ≡ true = ap is_some (sym none) ∙ there in
    cc

pub nothing_below : (entries : List (Option Entry)) (nodes : List (Option NodeAt)) (dir name : List ℕ) → nodes_of entries ≡ nodes → IsKept entries
    → tree_of nodes (dir ∷ []) ≡ None → at_path (nodes_from nodes) (dir ∷ name ∷ []) ≡ None
nothing_below entries nodes dir name view kept none =
    at_path_is nodes (dir ∷ name ∷ []) ∙ by_what (tree_of nodes (dir ∷ name ∷ [])) refl
  where
    by_what : (o : Option NodeRecord) → tree_of nodes (dir ∷ name ∷ []) ≡ o → o ≡ None
    by_what None is = refl
    by_what (Some what) is =
        absurd
        (above-there entries dir name what kept (ap (λ ns. tree_of ns (dir ∷ name ∷ [])) view ∙ is) (ap (λ ns. tree_of ns (dir ∷ [])) view ∙ none))

-- a node that is live stands at its path
pub itself_there : (entries : List (Option Entry)) (nodes : List (Option NodeAt)) (n : ℕ) → nodes_of entries ≡ nodes → IsKept entries → IsLive nodes n
    → record_of nodes n ≡ at_path (nodes_from nodes) (path_of nodes n)
itself_there entries nodes n view kept live =
    let entry = some_entry (entry_at entries n) (live_entry entries nodes n view live) in
    record_is entries nodes n entry.0 view kept entry.1 ∙ sym (what_is_at entries nodes n entry.0 view kept entry.1)

-- ---- free places

free-named : (entries : List (Option Entry)) (n : ℕ) → entry_at entries n ≡ None → node_at (nodes_of entries) n ≡ None
free-named entries n free = by_node (node_at (nodes_of entries) n) refl
  where
    by_node : (o : Option NodeAt) → node_at (nodes_of entries) n ≡ o → o ≡ None
    by_node None is = refl
    by_node (Some node) is = (let entry = listed entries n node is in absurd (let no : None ≡ Some entry.entry = sym free ∙ entry.at in cc))

none-of : (o : Option Entry) → is_none o ≡ true → o ≡ None
none-of None is = refl
none-of (Some entry) is = absurd cc

pub full_seen : (entries : List (Option Entry)) (nodes : List (Option NodeAt)) → nodes_of entries ≡ nodes → IsKept entries
    → is_none (position is_none entries) ≡ (length (nodes_from nodes) == 1024)
full_seen entries nodes view kept = rw (nodes_counted nodes (apart_table entries nodes view kept)) (by_place (position is_none entries) refl)
  where
    by_place : (o : Option ℕ) → position is_none entries ≡ o → is_none o ≡ (count_of nodes == 1024)
    by_place None is = (let full = full_table entries nodes view kept is in rw full refl)
    by_place (Some n) is =
        let at = position-Some is_none entries n None is in
        let free = free-named entries n (none-of (entry_at entries n) at.1) in
        let less = count_with_free (nodes_of entries) n (omega (arith, length-nodes entries, at.0)) free in
        let count : count_of (nodes_of entries) ≡ count_of nodes = ap count_of view in
        let size = kept.size in
        let sizes = length-nodes entries in
        let no : (count_of nodes == 1024) ≡ false = grind (arith, nat_tests) in
        sym no
