-- Children of a directory, and the directory of a node.
use Rattle.std.proofs.Common.{◌≡◌, ◌≢◌, inl, inr, ℕ, ◌-◌, ◌<◌, Bool, true, false, List, [], ◌∷◌, ◌++◌, length, Option, Some, None, refl, sym, ap, ◌∙◌, arith}
use Rattle.std.proofs.Common.{subst, eq-eqb, ne_eqb, eqb-true, length-append}
use Rattle.std.specs.Prelude.{IsSome, is_some, position, not, ◌&&◌, ◌==◌}
use Rattle.std.specs.Str.{bytes_eq}
use Rattle.std.proofs.lemmas.Slice.Eq.{bytes_eq-Decides}
use Rattle.std.proofs.lemmas.List.Quantifiers.{position-Some}
use Rattle.std.proofs.lemmas.List.{take-append-le}
use Rattle.std.proofs.Math.Seq.{take-length}
use Rattle.tree_model.specs.Tree.{NodeRecord, parent_of}
use Rattle.vnode_tree.specs.declared.entry.Entry.{Entry}
use Rattle.vnode_tree.specs.Nodes.{NodeAt, IsLive, IsAt, IsLeaf, HasChild, path_in, path_of, tree_of}
use Rattle.vnode_tree.specs.Links.{entry_at, path_up, record_in, nodes_of, is_child, is_in}
use Rattle.vnode_tree.specs.Kept.{IsKept}
use Rattle.vnode_tree.proofs.Paths.{path_is, enough_fuel, root_path}
use Rattle.vnode_tree.proofs.Counts.{live_within}
use Rattle.vnode_tree.proofs.Trees.{at_its_path, found_at}
use Rattle.vnode_tree.proofs.Tables.{has_path, listed, one_node, paths_apart, snoc_same}
use Rattle.vnode_tree.proofs.Looks.{live_entry}
use Rattle.vnode_tree.proofs.Changes.{name_some}
use Rattle.vnode_tree.proofs.Calls.{some_entry}
use Rattle.vnode_tree.proofs.Positions.{all_fail}

both_true : (a b : Bool) → (a && b) ≡ true → (a ≡ true) × (b ≡ true)
both_true true b e = (refl, e)
both_true false b e = absurd cc

child_parts : (dir : ℕ) (name : List ℕ) (o : Option Entry) → is_child dir name o ≡ true
    → (entry : Entry) × (o ≡ Some entry) × (entry.dir ≡ dir) × (entry.name ≡ name)
child_parts dir name None e = absurd cc
child_parts dir name (Some entry) e =
    let both = both_true (entry.dir == dir) (bytes_eq entry.name name) e in
    (entry, refl, eqb-true entry.dir dir both.0, (bytes_eq-Decides entry.name name).0 both.1)

-- a node is at its path
pub at_path : (entries : List (Option Entry)) (nodes : List (Option NodeAt)) (n : ℕ) (entry : Entry) (path : List (List ℕ)) → nodes_of entries ≡ nodes
    → IsKept entries → entry_at entries n ≡ Some entry → path_up (length entries) entries n ≡ Some path → IsAt nodes path n
at_path entries nodes n entry path view kept at up = subst (λ ns. IsAt ns path n) view (
    let there = has_path entries n entry kept at in
    let same : there.path ≡ path = let both : Some there.path ≡ Some path = sym there.up ∙ up in cc in
    let found : tree_of (nodes_of entries) there.path ≡ Some (record_in entry) =
    at_its_path (nodes_of entries) n (record { path = there.path; node = record_in entry }) (paths_apart entries kept) there.itself in
    record {
      live = subst (λ (o : Option NodeAt). IsSome o) (sym there.itself) refl;
      here = ap path_in there.itself ∙ same;
      some = ap (λ p. is_some (tree_of (nodes_of entries) p)) (sym same) ∙ ap (λ (o : Option NodeRecord). is_some o) found;
    })

-- the node of a name in a directory
pub child_found : (entries : List (Option Entry)) (nodes : List (Option NodeAt)) (dir : ℕ) (name : List ℕ) (n : ℕ) → nodes_of entries ≡ nodes
    → IsKept entries → IsLive nodes dir → 0 < length name → position (is_child dir name) entries ≡ Some n
    → IsAt nodes (path_of nodes dir ++ name ∷ []) n
child_found entries nodes dir name n view kept live node found =
    let here = position-Some (is_child dir name) entries n None found in
    let child = child_parts dir name (entry_at entries n) here.1 in
    let above = some_entry (entry_at entries dir) (live_entry entries nodes dir view live) in
    let dir_at = has_path entries dir above.0 kept above.1 in
    let node_at = has_path entries n child.0 kept child.1 in
    let dir_path : path_of nodes dir ≡ dir_at.path = ap (λ ns. path_of ns dir) (sym view) ∙ ap path_in dir_at.itself in
    let path_here : node_at.path ≡ dir_at.path ++ name ∷ [] = elim (path_is (length entries) entries n node_at.path node_at.up) [
      | inl root ↦
          let one : kept.root.0 ≡ child.0 =
          let both : Some kept.root.0 ≡ Some child.0 = sym kept.root.1 ∙ ap (entry_at entries) (sym root.here) ∙ child.1 in cc in
          absurd
          (omega (
            arith,
            node,
            ap (λ (x : List ℕ). length x) (sym child.3),
            ap (λ (x : Entry). length x.name) (sym one),
            ap (λ (x : List ℕ). length x) kept.root.2,
          ))
      | inr below ↦
          let one : below.entry ≡ child.0 = let both : Some below.entry ≡ Some child.0 = sym below.at ∙ child.1 in cc in
          let up : path_up below.more entries dir ≡ Some below.above =
          subst (λ (d : ℕ). path_up below.more entries d ≡ Some below.above) (ap (λ (x : Entry). x.dir) one ∙ child.2) below.up in
          let more : path_up (length entries) entries dir ≡ Some below.above =
          enough_fuel (length entries) below.more entries dir below.above (omega (arith, below.enough)) up in
          let above_is : below.above ≡ dir_at.path = let both : Some below.above ≡ Some dir_at.path = sym more ∙ dir_at.up in cc in
          below.whole ∙ ap (λ (q : List (List ℕ)). q ++ (below.entry).name ∷ []) above_is
          ∙ ap (λ (x : List ℕ). dir_at.path ++ x ∷ []) (ap (λ (x : Entry). x.name) one ∙ child.3)
    ] in
    rw dir_path (at_path entries nodes n child.0 (dir_at.path ++ name ∷ []) view kept child.1 (node_at.up ∙ ap (λ (q : List (List ℕ)). Some q) path_here))

none_here : (entries : List (Option Entry)) (dir : ℕ) (name : List ℕ) → IsKept entries → IsLive (nodes_of entries) dir
    → position (is_child dir name) entries ≡ None → tree_of (nodes_of entries) (path_of (nodes_of entries) dir ++ name ∷ []) ≡ None
none_here entries dir name kept live none =
    let above = some_entry (entry_at entries dir) (live_entry entries (nodes_of entries) dir refl live) in
    let dir_at = has_path entries dir above.0 kept above.1 in
    let dir_path : path_of (nodes_of entries) dir ≡ dir_at.path = ap path_in dir_at.itself in
    let path : List (List ℕ) = path_of (nodes_of entries) dir ++ name ∷ [] in
    elim (tree_of (nodes_of entries) (path_of (nodes_of entries) dir ++ name ∷ [])) as
    (λ o. tree_of (nodes_of entries) (path_of (nodes_of entries) dir ++ name ∷ []) ≡ o → o ≡ None) [
      | None ↦ λ e. refl
      | Some node ↦ λ e.
          let found = found_at (nodes_of entries) (path_of (nodes_of entries) dir ++ name ∷ []) node e in
          let is = listed entries found.place found.itself found.at in
          absurd (elim (path_is (length entries) entries found.place found.itself.path is.up) [
            | inl root ↦
                omega (arith, ap (λ (x : List (List ℕ)). length x) (sym root.whole ∙ found.path_is), length-append (path_of (nodes_of entries) dir) (name ∷ []))
            | inr below ↦
                let both = snoc_same below.above (path_of (nodes_of entries) dir) (below.entry).name name (sym below.whole ∙ found.path_is) in
                let same_dir : (below.entry).dir ≡ dir =
                one_node below.more (length entries) entries (below.entry).dir dir below.above kept below.up
                (dir_at.up ∙ ap (λ (q : List (List ℕ)). Some q) (sym dir_path ∙ sym both.0)) in
                let yes : is_child dir name (entry_at entries found.place) ≡ true =
                ap (is_child dir name) below.at ∙ ap (λ b. b && bytes_eq (below.entry).name name) (eq-eqb (below.entry).dir dir same_dir)
                ∙ (bytes_eq-Decides (below.entry).name name).1 both.1 in
                let no_one : is_child dir name (entry_at entries found.place) ≡ false =
                all_fail (is_child dir name) entries found.place None none (live_within entries found.place below.entry below.at) in
                let wrong : true ≡ false = sym yes ∙ no_one in
                cc
          ])
    ] refl

-- a name that no node has in a directory
pub child_none : (entries : List (Option Entry)) (nodes : List (Option NodeAt)) (dir : ℕ) (name : List ℕ) → nodes_of entries ≡ nodes → IsKept entries
    → IsLive nodes dir → position (is_child dir name) entries ≡ None → tree_of nodes (path_of nodes dir ++ name ∷ []) ≡ None
child_none entries nodes dir name view kept live none =
    subst (λ ns. tree_of ns (path_of ns dir ++ name ∷ []) ≡ None) view
    (none_here entries dir name kept (subst (λ ns. IsLive ns dir) (sym view) live) none)

-- a node with a path has an entry
listed_dir : (k : ℕ) (entries : List (Option Entry)) (n : ℕ) (path : List (List ℕ)) → path_up k entries n ≡ Some path
    → (entry : Entry) × (entry_at entries n ≡ Some entry)
listed_dir k entries n path up = elim (path_is k entries n path up) [
  | inl root ↦ (root.entry, root.at)
  | inr below ↦ (below.entry, below.at)
]

-- the directory of a node
pub dir_of : (entries : List (Option Entry)) (nodes : List (Option NodeAt)) (n : ℕ) (entry : Entry) → nodes_of entries ≡ nodes → IsKept entries
    → entry_at entries n ≡ Some entry → n ≢ 0 → IsAt nodes (parent_of (path_of nodes n)) entry.dir
dir_of entries nodes n entry view kept at other =
    let there = has_path entries n entry kept at in
    let path_here : path_of nodes n ≡ there.path = ap (λ ns. path_of ns n) (sym view) ∙ ap path_in there.itself in
    elim (path_is (length entries) entries n there.path there.up) [
      | inl root ↦ absurd (other root.here)
      | inr below ↦
          let one : below.entry ≡ entry = let both : Some below.entry ≡ Some entry = sym below.at ∙ at in cc in
          let up : path_up below.more entries entry.dir ≡ Some below.above =
          subst (λ (x : Entry). path_up below.more entries x.dir ≡ Some below.above) one below.up in
          let more : path_up (length entries) entries entry.dir ≡ Some below.above =
          enough_fuel (length entries) below.more entries entry.dir below.above (omega (arith, below.enough)) up in
          let parent : parent_of there.path ≡ below.above = rw below.whole (
          let size : length (below.above ++ (below.entry).name ∷ []) - 1 ≡ length below.above =
          omega (arith, length-append below.above ((below.entry).name ∷ [])) in
          rw size (take-append-le (length below.above) below.above ((below.entry).name ∷ []) (omega arith) ∙ take-length below.above)) in
          let dir_entry = listed_dir below.more entries entry.dir below.above up in
          rw (path_here, parent) (at_path entries nodes entry.dir dir_entry.0 below.above view kept dir_entry.1 more)
    ]

-- a node is what is at its path
pub what_is_there : (entries : List (Option Entry)) (nodes : List (Option NodeAt)) (n : ℕ) (entry : Entry) → nodes_of entries ≡ nodes → IsKept entries
    → entry_at entries n ≡ Some entry → tree_of nodes (path_of nodes n) ≡ Some (record_in entry)
what_is_there entries nodes n entry view kept at = subst (λ ns. tree_of ns (path_of ns n) ≡ Some (record_in entry)) view (
    let there = has_path entries n entry kept at in
    ap (tree_of (nodes_of entries)) (ap path_in there.itself)
    ∙ at_its_path (nodes_of entries) n (record { path = there.path; node = record_in entry }) (paths_apart entries kept) there.itself)

-- the root is in itself
pub root_dir : (entries : List (Option Entry)) (nodes : List (Option NodeAt)) (n : ℕ) → nodes_of entries ≡ nodes → IsKept entries → n ≡ 0
    → IsAt nodes (parent_of (path_of nodes n)) n
root_dir entries nodes n view kept zero_is =
    let up : path_up (length entries) entries 0 ≡ Some [] =
    subst (λ k. path_up k entries 0 ≡ Some []) (sym kept.size) (root_path 1023 entries kept.root.0 kept.root.1) in
    let at = at_path entries nodes 0 kept.root.0 [] view kept kept.root.1 up in
    rw zero_is (rw at.here at)

-- the root is live, at the empty path
pub root_at : (entries : List (Option Entry)) (nodes : List (Option NodeAt)) → nodes_of entries ≡ nodes → IsKept entries → IsAt nodes [] 0
root_at entries nodes view kept =
    at_path entries nodes 0 kept.root.0 [] view kept kept.root.1
    (subst (λ k. path_up k entries 0 ≡ Some []) (sym kept.size) (root_path 1023 entries kept.root.0 kept.root.1))

not_empty : (name : List ℕ) → not (length name == 0) ≡ true → 0 < length name
not_empty [] e = absurd (let wrong : false ≡ true = e in cc)
not_empty (b ∷ name) e = omega arith

in_parts : (dir : ℕ) (o : Option Entry) → is_in dir o ≡ true → (entry : Entry) × (o ≡ Some entry) × (entry.dir ≡ dir) × (0 < length entry.name)
in_parts dir None e = absurd cc
in_parts dir (Some entry) e =
    let both = both_true (entry.dir == dir) (not (length entry.name == 0)) e in
    (entry, refl, eqb-true entry.dir dir both.0, not_empty entry.name both.1)

-- a node in a directory has a path there
pub has_child : (entries : List (Option Entry)) (nodes : List (Option NodeAt)) (dir n : ℕ) → nodes_of entries ≡ nodes → IsKept entries → IsLive nodes dir
    → position (is_in dir) entries ≡ Some n → HasChild nodes (path_of nodes dir)
has_child entries nodes dir n view kept live found =
    let here = position-Some (is_in dir) entries n None found in
    let child = in_parts dir (entry_at entries n) here.1 in
    let other : n ≢ 0 = λ zero_is.
    let one : kept.root.0 ≡ child.0 = let both : Some kept.root.0 ≡ Some child.0 = sym kept.root.1 ∙ ap (entry_at entries) (sym zero_is) ∙ child.1 in cc in
    omega (arith, child.3, ap (λ (x : Entry). length x.name) (sym one), ap (λ (x : List ℕ). length x) kept.root.2) in
    let node_at = has_path entries n child.0 kept child.1 in
    let above = some_entry (entry_at entries dir) (live_entry entries nodes dir view live) in
    let dir_at = has_path entries dir above.0 kept above.1 in
    let dir_path : path_of nodes dir ≡ dir_at.path = ap (λ ns. path_of ns dir) (sym view) ∙ ap path_in dir_at.itself in
    elim (path_is (length entries) entries n node_at.path node_at.up) [
      | inl root ↦ absurd (other root.here)
      | inr below ↦
          let one : below.entry ≡ child.0 = let both : Some below.entry ≡ Some child.0 = sym below.at ∙ child.1 in cc in
          let up : path_up below.more entries dir ≡ Some below.above =
          subst (λ (d : ℕ). path_up below.more entries d ≡ Some below.above) (ap (λ (x : Entry). x.dir) one ∙ child.2) below.up in
          let more : path_up (length entries) entries dir ≡ Some below.above =
          enough_fuel (length entries) below.more entries dir below.above (omega (arith, below.enough)) up in
          let above_is : below.above ≡ path_of nodes dir =
          (let both : Some below.above ≡ Some dir_at.path = sym more ∙ dir_at.up in let same_path : below.above ≡ dir_at.path = cc in same_path)
          ∙ sym dir_path in
          let path_here : node_at.path ≡ path_of nodes dir ++ (below.entry).name ∷ [] =
          below.whole ∙ ap (λ (q : List (List ℕ)). q ++ (below.entry).name ∷ []) above_is in (
            (below.entry).name,
            (at_path entries nodes n child.0 (path_of nodes dir ++ (below.entry).name ∷ []) view kept child.1
                (node_at.up ∙ ap (λ (q : List (List ℕ)). Some q) path_here)).some,
          )
    ]

is_named : (name : List ℕ) → 0 < length name → not (length name == 0) ≡ true
is_named name some =
    let other : ◌≢◌ {A = ℕ} (length name) 0 = λ e. omega (arith, e, some) in
    rw (ne_eqb (length name) 0 other) refl

-- no entry is in the directory, so no node of any name is
child_none_by : (entries : List (Option Entry)) (nodes : List (Option NodeAt)) (dir : ℕ) (name : List ℕ) → nodes_of entries ≡ nodes → IsKept entries
    → IsLive nodes dir → ((k : ℕ) → k < length entries → is_in dir (entry_at entries k) ≡ false) → tree_of nodes (path_of nodes dir ++ name ∷ []) ≡ None
child_none_by entries nodes dir name view kept live fails = subst (λ ns. tree_of ns (path_of ns dir ++ name ∷ []) ≡ None) view (
    let above = some_entry (entry_at entries dir) (live_entry entries nodes dir view live) in
    let dir_at = has_path entries dir above.0 kept above.1 in
    let dir_path : path_of (nodes_of entries) dir ≡ dir_at.path = ap path_in dir_at.itself in
    elim (tree_of (nodes_of entries) (path_of (nodes_of entries) dir ++ name ∷ [])) as
    (λ o. tree_of (nodes_of entries) (path_of (nodes_of entries) dir ++ name ∷ []) ≡ o → o ≡ None) [
      | None ↦ λ e. refl
      | Some node ↦ λ e.
          let found = found_at (nodes_of entries) (path_of (nodes_of entries) dir ++ name ∷ []) node e in
          let is = listed entries found.place found.itself found.at in
          absurd (elim (path_is (length entries) entries found.place found.itself.path is.up) [
            | inl root ↦
                omega (arith, ap (λ (x : List (List ℕ)). length x) (sym root.whole ∙ found.path_is), length-append (path_of (nodes_of entries) dir) (name ∷ []))
            | inr below ↦
                let both = snoc_same below.above (path_of (nodes_of entries) dir) (below.entry).name name (sym below.whole ∙ found.path_is) in
                let same_dir : (below.entry).dir ≡ dir =
                one_node below.more (length entries) entries (below.entry).dir dir below.above kept below.up
                (dir_at.up ∙ ap (λ (q : List (List ℕ)). Some q) (sym dir_path ∙ sym both.0)) in
                let node : 0 < length (below.entry).name = name_some (below.entry).name (kept.names found.place below.entry below.at below.other).0 in
                let yes : is_in dir (entry_at entries found.place) ≡ true =
                ap (is_in dir) below.at ∙ ap (λ b. b && not (length (below.entry).name == 0)) (eq-eqb (below.entry).dir dir same_dir)
                ∙ is_named (below.entry).name node in
                let wrong : true ≡ false = sym yes ∙ fails found.place (live_within entries found.place below.entry below.at) in
                cc
          ])
    ] refl)

-- a directory without nodes leads no further
pub no_child : (entries : List (Option Entry)) (nodes : List (Option NodeAt)) (dir : ℕ) → nodes_of entries ≡ nodes → IsKept entries → IsLive nodes dir
    → position (is_in dir) entries ≡ None → IsLeaf nodes (path_of nodes dir)
no_child entries nodes dir view kept live none name =
    child_none_by entries nodes dir name view kept live (λ k below. all_fail (is_in dir) entries k None none below)

-- no other node has the root's path
pub only_root : (entries : List (Option Entry)) (nodes : List (Option NodeAt)) (n : ℕ) → nodes_of entries ≡ nodes → IsKept entries → IsLive nodes n
    → path_of nodes n ≡ [] → n ≡ 0
only_root entries nodes n view kept live path =
    let here = some_entry (entry_at entries n) (live_entry entries nodes n view live) in
    let there = has_path entries n here.0 kept here.1 in
    let path_here : there.path ≡ [] = sym (ap path_in there.itself) ∙ ap (λ ns. path_of ns n) view ∙ path in
    let root_up : path_up (length entries) entries 0 ≡ Some [] =
    subst (λ k. path_up k entries 0 ≡ Some []) (sym kept.size) (root_path 1023 entries kept.root.0 kept.root.1) in
    one_node (length entries) (length entries) entries n 0 [] kept (there.up ∙ ap (λ (q : List (List ℕ)). Some q) path_here) root_up
