-- What each change of the tree leaves, as contracts say it.
use Rattle.std.proofs.Common.{◌≡◌, ◌≢◌, inl, inr, ℕ, suc, ◌+◌, ◌<◌, ◌≤◌, true, false, cond, List, [], ◌∷◌, ◌++◌, length, set, get_or, Option, Some}
use Rattle.std.proofs.Common.{None, option_map, refl, sym, ap, ◌∙◌, arith, subst}
use Rattle.std.specs.Prelude.{IsSome, IsTrue, is_some, is_none, position, count_by, sum_by}
use Rattle.std.proofs.lemmas.List.{get_or-set_same, get_or-set_other}
use Rattle.std.proofs.lemmas.List.Quantifiers.{position-Some}
use Rattle.std.proofs.lemmas.List.Sums.{sum_by-set, sum_by-cons}
use Rattle.acl_core.specs.declared.entry.Entry.{Entry as ListEntry}
use Rattle.access_rule.specs.declared.Attrs.{Attrs}
use Rattle.tree_model.specs.Tree.{NodeRecord, is_dir, is_dir_record}
use Rattle.vnode_tree.specs.declared.entry.Entry.{Entry}
use Rattle.vnode_tree.specs.Nodes.{NodeAt, IsLive, node_at, path_in, path_of, record_of, tree_of, with_node, with_record, with_attrs, with_default, new_node}
use Rattle.vnode_tree.specs.Nodes.{with_change, is_name, count_of, ChangesAt, IsRemovable}
use Rattle.vnode_tree.specs.Links.{entry_at, path_up, record_in, nodes_of, with_entry, entry_with_attrs, entry_with_default}
use Rattle.vnode_tree.specs.Kept.{IsKept, IsDirAt, IsProper, size_in}
use Rattle.sys_types.specs.declared.limits.TheConstants.{NAME_BYTES}
use Rattle.vnode_tree.specs.Contents.{size_of, space_of}
use Rattle.vnode_tree.specs.Standard.{Keeps}
use Rattle.vnode_tree.proofs.Paths.{path_is as step_of, root_path, same_node_path}
use Rattle.vnode_tree.proofs.Counts.{live_within, count_with_free}
use Rattle.vnode_tree.proofs.Trees.{Owns, changes_at, at_its_path}
use Rattle.vnode_tree.proofs.Tables.{length-nodes, has_path, listed, paths_apart}
use Rattle.vnode_tree.proofs.Positions.{all_fail}
use Rattle.vnode_tree.proofs.Changes.{IsLike, changed_entry, made_entry, removed_entry}
use Rattle.vnode_tree.proofs.Looks.{live_entry, record_is}

-- where each place has a node, there are as many nodes as places
pub count_all : {X : Type 0} (xs : List (Option X)) → ((k : ℕ) → k < length xs → IsSome (get_or xs k None)) → count_by is_some xs ≡ length xs
count_all [] all = refl
count_all {X} (x ∷ xs) all =
    let one : ◌≡◌ {A = ℕ} (cond (is_some {T = X} x) 1 0) 1 = ap (λ b. cond b 1 0) (all 0 (omega arith)) in
    omega (arith, sum_by-cons (λ o. cond (is_some {T = X} o) 1 0) x xs, one, count_all xs (λ k below. all (suc k) (omega arith)))

none_is : {X : Type 0} (x : Option X) → is_none x ≡ false → IsSome x
none_is None e = absurd cc
none_is (Some x) e = refl

is_nothing : {X : Type 0} (x : Option X) → is_none x ≡ true → x ≡ None
is_nothing None e = refl
is_nothing (Some x) e = absurd cc

-- a table without a free place is full
pub full_table : (entries : List (Option Entry)) (nodes : List (Option NodeAt)) → nodes_of entries ≡ nodes → IsKept entries → position is_none entries ≡ None
    → count_of nodes ≡ 1024
full_table entries nodes view kept none =
    let all : (k : ℕ) → k < length nodes → IsSome (node_at nodes k) = λ k below.
    let inside : k < length entries = omega (arith, length-nodes entries, ap (λ (ns : List (Option NodeAt)). length ns) view) in
    let some : IsSome (entry_at entries k) = none_is (entry_at entries k) (all_fail is_none entries k None none inside) in
    elim (entry_at entries k) as (λ o. entry_at entries k ≡ o → IsSome o → IsSome (node_at nodes k)) [
      | None ↦ λ at live. absurd (let no : false ≡ true = live in cc)
      | Some entry ↦
          λ at live. subst (λ o. IsSome o) (sym (ap (λ (ns : List (Option NodeAt)). node_at ns k) (sym view) ∙ (has_path entries k entry kept at).itself)) refl
    ] refl some in
    omega (arith, count_all nodes all, length-nodes entries, ap (λ (ns : List (Option NodeAt)). length ns) view, kept.size)

-- a change of one node, as contracts say it
pub record Recorded (change : NodeRecord → NodeRecord) (nodes : List (Option NodeAt)) (n : ℕ) (others : List (Option Entry)) : Type 0 where
  pub kept : IsKept others
  pub set : nodes_of others ≡ with_record change nodes n
  pub changes : ChangesAt (path_of nodes n) (option_map change (record_of nodes n)) nodes (nodes_of others)

owns_its_path : (entries : List (Option Entry)) (n : ℕ) (node : NodeAt) → IsKept entries → node_at (nodes_of entries) n ≡ Some node
    → Owns (nodes_of entries) n node.path
owns_its_path entries n node kept at = record {
  here = λ a there. let same : a ≡ node = let both : Some a ≡ Some node = sym there ∙ at in cc in ap (λ (x : NodeAt). x.path) same;
  others = λ m b there same. (paths_apart entries kept).apart m n b node there at same;
}

recorded_here : (change : NodeRecord → NodeRecord) (entries : List (Option Entry)) (n : ℕ) (entry like : Entry) → IsKept entries
    → entry_at entries n ≡ Some entry → IsLike entry like → record_in like ≡ change (record_in entry) → sum_by size_in (set entries n (Some like)) ≤ 4194304
    → Recorded change (nodes_of entries) n (set entries n (Some like))
recorded_here change entries n entry like kept at is changes fits =
    let there = has_path entries n entry kept at in
    let done = changed_entry entries n entry like there.path kept at there.up is fits in
    let value : Option NodeRecord = Some (record_in like) in
    let slot_is : ◌≡◌ {A = Option NodeAt} (Some (record { path = there.path; node = record_in like }))
    (option_map (with_change change) (node_at (nodes_of entries) n)) =
    ap (λ (r : NodeRecord). Some (record { path = there.path; node = r })) changes ∙ sym (ap (option_map (with_change change)) there.itself) in
    let whole : ChangesAt there.path (Some (record_in like)) (nodes_of entries)
    (set (nodes_of entries) n (Some (record { path = there.path; node = record_in like }))) =
    changes_at (nodes_of entries) n there.path (Some (record_in like))
    (live_within (nodes_of entries) n (record { path = there.path; node = record_in entry }) there.itself)
    (owns_its_path entries n (record { path = there.path; node = record_in entry }) kept there.itself) in
    let path_is : path_of (nodes_of entries) n ≡ there.path = ap (λ (o : Option NodeAt). path_in o) there.itself in
    let now_is : option_map change (record_of (nodes_of entries) n) ≡ Some (record_in like) =
    ap (λ (o : Option NodeAt). option_map change (option_map (λ (x : NodeAt). x.node) o)) there.itself ∙ ap (λ (r : NodeRecord). Some r) (sym changes) in
    let same_nodes : set (nodes_of entries) n (Some (record { path = there.path; node = record_in like })) ≡ nodes_of (set entries n (Some like)) =
    sym done.nodes in
    record {
      kept = done.kept;
      set = done.nodes ∙ ap (set (nodes_of entries) n) slot_is;
      changes = rw (path_is, now_is) (subst (ChangesAt there.path (Some (record_in like)) (nodes_of entries)) same_nodes whole);
    }

pub recorded : (change : NodeRecord → NodeRecord) (entries : List (Option Entry)) (nodes : List (Option NodeAt)) (n : ℕ) (entry like : Entry)
    → nodes_of entries ≡ nodes → IsKept entries → entry_at entries n ≡ Some entry → IsLike entry like → record_in like ≡ change (record_in entry)
    → sum_by size_in (set entries n (Some like)) ≤ 4194304 → Recorded change nodes n (set entries n (Some like))
recorded change entries nodes n entry like view kept at is changes fits =
    subst (λ ns. Recorded change ns n (set entries n (Some like))) view (recorded_here change entries n entry like kept at is changes fits)

-- a node of the same size needs no more room
pub same_size : (entries : List (Option Entry)) (n : ℕ) (entry like : Entry) → IsKept entries → entry_at entries n ≡ Some entry → like.contents ≡ entry.contents
    → sum_by size_in (set entries n (Some like)) ≤ 4194304
same_size entries n entry like kept at same =
    let sums : sum_by size_in (set entries n (Some like)) + size_in (get_or entries n None) ≡ sum_by size_in entries + size_in (Some like) =
    sum_by-set size_in entries n (Some like) None (live_within entries n entry at) in
    omega (arith, sums, kept.space, ap size_in at, ap (λ (xs : List ℕ). length xs) same)

pub some_entry : {X : Type 0} (x : Option X) → IsSome x → (y : X) × (x ≡ Some y)
some_entry None some = absurd (let no : false ≡ true = some in cc)
some_entry (Some y) some = (y, refl)

-- a change of an entry that keeps its place, its kind and its size
pub recorded_entry : (change : NodeRecord → NodeRecord) (f : Entry → Entry) (entries : List (Option Entry)) (nodes : List (Option NodeAt)) (n : ℕ)
    → nodes_of entries ≡ nodes → IsKept entries → IsLive nodes n
    → ((entry : Entry) → entry_at entries n ≡ Some entry
    → IsLike entry (f entry) × (record_in (f entry) ≡ change (record_in entry)) × ((f entry).contents ≡ entry.contents))
    → Recorded change nodes n (with_entry f entries n)
recorded_entry change f entries nodes n view kept live fits =
    let there = some_entry (entry_at entries n) (live_entry entries nodes n view live) in
    let is = fits there.0 there.1 in
    let done = recorded change entries nodes n there.0 (f there.0) view kept there.1 is.0 is.1 (same_size entries n there.0 (f there.0) kept there.1 is.2) in
    subst (λ (x : Option Entry). Recorded change nodes n (set entries n x)) (sym (ap (option_map f) there.1)) done

pub attrs_set : (attrs : Attrs) (entries : List (Option Entry)) (nodes : List (Option NodeAt)) (n : ℕ) → nodes_of entries ≡ nodes → IsKept entries
    → IsLive nodes n → attrs.is_dir ≡ is_dir_record (record_of nodes n) → Recorded (with_attrs attrs) nodes n (with_entry (entry_with_attrs attrs) entries n)
attrs_set attrs entries nodes n view kept live kind = recorded_entry (with_attrs attrs) (entry_with_attrs attrs) entries nodes n view kept live (λ entry at.
    let like : IsLike entry (entry_with_attrs attrs entry) =
    record { dir = refl; name = refl; kind = refl; is_dir = kind ∙ ap is_dir_record (record_is entries nodes n entry view kept at) } in
    (like, refl, refl))

pub default_set : (list : Option (List ListEntry)) (entries : List (Option Entry)) (nodes : List (Option NodeAt)) (n : ℕ) → nodes_of entries ≡ nodes
    → IsKept entries → IsLive nodes n → Recorded (with_default list) nodes n (with_entry (entry_with_default list) entries n)
default_set list entries nodes n view kept live = recorded_entry (with_default list) (entry_with_default list) entries nodes n view kept live (λ entry at.
    let like : IsLike entry (entry_with_default list entry) = record { dir = refl; name = refl; kind = refl; is_dir = kept.kinds n entry at } in
    (like, refl, refl))

-- a node that is taken away, as contracts say it
pub record Removed (nodes : List (Option NodeAt)) (n : ℕ) (others : List (Option Entry)) : Type 0 where
  pub kept : IsKept others
  pub gone : nodes_of others ≡ with_node nodes n None
  pub changes : ChangesAt (path_of nodes n) None nodes (nodes_of others)

removed_here : (entries : List (Option Entry)) (n : ℕ) → IsKept entries → IsLive (nodes_of entries) n
    → (IsTrue (is_dir_record (record_of (nodes_of entries) n)) → IsRemovable (nodes_of entries) n) → Removed (nodes_of entries) n (set entries n None)
removed_here entries n kept live removable =
    let here = some_entry (entry_at entries n) (live_entry entries (nodes_of entries) n refl live) in
    let there = has_path entries n here.0 kept here.1 in
    let path_is : path_of (nodes_of entries) n ≡ there.path = ap (λ (o : Option NodeAt). path_in o) there.itself in
    let of_dir : is_dir (here.0).kind ≡ true → IsRemovable (nodes_of entries) n =
    λ is. removable (ap (λ (o : Option NodeAt). is_dir_record (option_map (λ (x : NodeAt). x.node) o)) there.itself ∙ is) in
    let other : n ≢ 0 = λ same.
    let root_is : here.0 ≡ (kept.root).0 = let both : Some here.0 ≡ Some (kept.root).0 = sym here.1 ∙ ap (entry_at entries) same ∙ (kept.root).1 in cc in
    let root : path_up (suc 1023) entries n ≡ Some [] =
    subst (λ i. path_up (suc 1023) entries i ≡ Some []) (sym same)
    (root_path 1023 entries here.0 (subst (λ i. entry_at entries i ≡ Some here.0) same here.1)) in
    (of_dir (ap (λ (x : Entry). is_dir x.kind) root_is ∙ ap is_dir (kept.root).3)).below
    (path_is ∙ same_node_path (length entries) (suc 1023) entries n there.path [] there.up root) in
    let alone : (m : ℕ) (e : Entry) → entry_at entries m ≡ Some e → m ≢ 0 → e.dir ≢ n = λ m e at apart same.
    let is = has_path entries m e kept at in
    let in_dir = kept.above m e at apart in
    let dir_is : in_dir.entry ≡ here.0 = let both : Some in_dir.entry ≡ Some here.0 = sym in_dir.here ∙ ap (entry_at entries) same ∙ here.1 in cc in
    let leaf = (of_dir (ap (λ (x : Entry). is_dir x.kind) (sym dir_is) ∙ in_dir.directory)).leaf in
    elim (step_of (length entries) entries m is.path is.up) [
      | inl root ↦ apart root.here
      | inr down ↦
          let one : down.entry ≡ e = let both : Some down.entry ≡ Some e = sym down.at ∙ at in cc in
          let dir_up : path_up down.more entries n ≡ Some down.above =
          subst (λ (d : ℕ). path_up down.more entries d ≡ Some down.above) (ap (λ (x : Entry). x.dir) one ∙ same) down.up in
          let above_is : down.above ≡ path_of (nodes_of entries) n =
          same_node_path down.more (length entries) entries n down.above there.path dir_up there.up ∙ sym path_is in
          let some : tree_of (nodes_of entries) is.path ≡ Some (record_in e) =
          at_its_path (nodes_of entries) m (record { path = is.path; node = record_in e }) (paths_apart entries kept) is.itself in
          let none : tree_of (nodes_of entries) is.path ≡ None =
          ap (tree_of (nodes_of entries)) (down.whole ∙ ap (λ (q : List (List ℕ)). q ++ (down.entry).name ∷ []) above_is) ∙ leaf (down.entry).name in
          let no : Some (record_in e) ≡ None = sym some ∙ none in
          cc
    ] in
    let done = removed_entry entries n here.0 kept here.1 other alone in
    let whole : ChangesAt there.path None (nodes_of entries) (set (nodes_of entries) n None) =
    changes_at (nodes_of entries) n there.path None (live_within (nodes_of entries) n (record { path = there.path; node = record_in here.0 }) there.itself)
    (owns_its_path entries n (record { path = there.path; node = record_in here.0 }) kept there.itself) in
    let same_nodes : set (nodes_of entries) n None ≡ nodes_of (set entries n None) = sym done.nodes in
    record {
      kept = done.kept;
      gone = done.nodes;
      changes = rw path_is (subst (ChangesAt there.path None (nodes_of entries)) same_nodes whole);
    }

pub removed : (entries : List (Option Entry)) (nodes : List (Option NodeAt)) (n : ℕ) → nodes_of entries ≡ nodes → IsKept entries → IsLive nodes n
    → (IsTrue (is_dir_record (record_of nodes n)) → IsRemovable nodes n) → Removed nodes n (set entries n None)
removed entries nodes n view kept live removable =
    subst (λ (ns : List (Option NodeAt)). IsLive ns n → (IsTrue (is_dir_record (record_of ns n)) → IsRemovable ns n) → Removed ns n (set entries n None)) view
    (removed_here entries n kept) live removable

-- a node that is made, as contracts say it
pub record Made (nodes : List (Option NodeAt)) (n : ℕ) (path : List (List ℕ)) (node : NodeRecord) (others : List (Option Entry)) : Type 0 where
  pub kept : IsKept others
  pub free : node_at nodes n ≡ None
  pub made : nodes_of others ≡ with_node nodes n (Some (record { path = path; node = node }))
  pub live : IsLive (nodes_of others) n
  pub changes : ChangesAt path (Some node) nodes (nodes_of others)
  pub room : count_of nodes < 1024
  pub count : count_of (nodes_of others) ≡ count_of nodes + 1
  pub space : space_of (nodes_of others) ≡ space_of nodes + length node.contents
  pub keeps : Keeps nodes (nodes_of others)

free_named : (entries : List (Option Entry)) (n : ℕ) → entry_at entries n ≡ None → node_at (nodes_of entries) n ≡ None
free_named entries n free =
    elim (node_at (nodes_of entries) n) as (λ o. node_at (nodes_of entries) n ≡ o → o ≡ None) [
      | None ↦ λ e. refl
      | Some node ↦ λ e. let is = listed entries n node e in let no : None ≡ Some is.entry = sym free ∙ is.at in cc
    ] refl

dir_is_live : (o : Option NodeAt) → IsTrue (is_dir_record (option_map (λ (x : NodeAt). x.node) o)) → IsSome o
dir_is_live None e = absurd (let no : false ≡ true = e in cc)
dir_is_live (Some node) e = refl

count_put : (nodes : List (Option NodeAt)) (n : ℕ) (node : NodeAt) → n < length nodes → node_at nodes n ≡ None
    → count_of (set nodes n (Some node)) ≡ count_of nodes + 1
count_put nodes n node inside free =
    let f : Option NodeAt → ℕ = λ o. cond (is_some o) 1 0 in
    let all : sum_by f (set nodes n (Some node)) + f (get_or nodes n None) ≡ sum_by f nodes + f (Some node) = sum_by-set f nodes n (Some node) None inside in
    let none : f (get_or nodes n None) ≡ 0 = ap f free in
    omega (arith, all, none)

space_put : (nodes : List (Option NodeAt)) (n : ℕ) (node : NodeAt) → n < length nodes → node_at nodes n ≡ None
    → space_of (set nodes n (Some node)) ≡ space_of nodes + length node.node.contents
space_put nodes n node inside free =
    let all : sum_by size_of (set nodes n (Some node)) + size_of (get_or nodes n None) ≡ sum_by size_of nodes + size_of (Some node) =
    sum_by-set size_of nodes n (Some node) None inside in
    omega (arith, all, ap size_of free)

is_dead : (o : Option NodeAt) → o ≡ None → IsSome o → ⊥
is_dead None e live = let wrong : false ≡ true = live in cc
is_dead (Some node) e live = cc

made_here : (entries : List (Option Entry)) (n : ℕ) (entry : Entry) → IsKept entries → position is_none entries ≡ Some n
    → IsTrue (is_dir_record (record_of (nodes_of entries) entry.dir)) → IsProper entry.name → entry.attrs.is_dir ≡ is_dir entry.kind
    → sum_by size_in entries + length entry.contents ≤ 4194304 → tree_of (nodes_of entries) (path_of (nodes_of entries) entry.dir ++ entry.name ∷ []) ≡ None
    → Made (nodes_of entries) n (path_of (nodes_of entries) entry.dir ++ entry.name ∷ []) (record_in entry) (set entries n (Some entry))
made_here entries n entry kept found dir node dirs empty none =
    let at = position-Some is_none entries n None found in
    let free : entry_at entries n ≡ None = is_nothing (entry_at entries n) at.1 in
    let dir_live : IsLive (nodes_of entries) entry.dir = dir_is_live (node_at (nodes_of entries) entry.dir) dir in
    let above = some_entry (entry_at entries entry.dir) (live_entry entries (nodes_of entries) entry.dir refl dir_live) in
    let there = has_path entries entry.dir above.0 kept above.1 in
    let path_is : path_of (nodes_of entries) entry.dir ≡ there.path = ap (λ (o : Option NodeAt). path_in o) there.itself in
    let path : List (List ℕ) = there.path ++ entry.name ∷ [] in
    let absent : tree_of (nodes_of entries) (there.path ++ entry.name ∷ []) ≡ None =
    subst (λ (q : List (List ℕ)). tree_of (nodes_of entries) (q ++ entry.name ∷ []) ≡ None) path_is none in
    let is_a_dir : is_dir (above.0).kind ≡ true = sym (ap (λ (o : Option NodeAt). is_dir_record (option_map (λ (x : NodeAt). x.node) o)) there.itself) ∙ dir in
    let into : IsDirAt entries entry.dir = record { entry = above.0; here = above.1; directory = is_a_dir } in
    let done = made_entry entries n entry there.path kept at.0 free there.up into node dirs empty absent in
    let free_node : node_at (nodes_of entries) n ≡ None = free_named entries n free in
    let inside : n < length (nodes_of entries) = omega (arith, length-nodes entries, at.0) in
    let owns : Owns (nodes_of entries) n (there.path ++ entry.name ∷ []) = record {
      here = λ a is. absurd (let no : None ≡ Some a = sym free_node ∙ is in cc);
      others = λ m b is same. absurd (
          let some : tree_of (nodes_of entries) b.path ≡ Some b.node = at_its_path (nodes_of entries) m b (paths_apart entries kept) is in
          let no : None ≡ Some b.node = sym absent ∙ ap (tree_of (nodes_of entries)) (sym same) ∙ some in
          cc);
    } in
    let whole : ChangesAt (there.path ++ entry.name ∷ []) (Some (record_in entry)) (nodes_of entries)
    (set (nodes_of entries) n (Some (record { path = there.path ++ entry.name ∷ []; node = record_in entry }))) =
    changes_at (nodes_of entries) n (there.path ++ entry.name ∷ []) (Some (record_in entry)) inside owns in
    let same_nodes : set (nodes_of entries) n (Some (record { path = there.path ++ entry.name ∷ []; node = record_in entry })) ≡ nodes_of
    (set entries n (Some entry)) =
    sym done.nodes in
    let put : node_at (nodes_of (set entries n (Some entry))) n ≡ Some (record { path = there.path ++ entry.name ∷ []; node = record_in entry }) =
    ap (λ (ns : List (Option NodeAt)). node_at ns n) done.nodes
    ∙ get_or-set_same (nodes_of entries) n (Some (record { path = there.path ++ entry.name ∷ []; node = record_in entry })) None inside in
    record {
      kept = done.kept;
      free = free_node;
      made = rw path_is done.nodes;
      live = subst (λ o. IsSome o) (sym put) refl;
      changes = rw path_is (subst (ChangesAt (there.path ++ entry.name ∷ []) (Some (record_in entry)) (nodes_of entries)) same_nodes whole);
      room = omega (arith, count_with_free (nodes_of entries) n inside free_node, length-nodes entries, kept.size);
      count =
          ap count_of done.nodes ∙ count_put (nodes_of entries) n (record { path = there.path ++ entry.name ∷ []; node = record_in entry }) inside free_node;
      space =
          ap space_of done.nodes ∙ space_put (nodes_of entries) n (record { path = there.path ++ entry.name ∷ []; node = record_in entry }) inside free_node;
      keeps =
          λ m live. ap (λ (ns : List (Option NodeAt)). node_at ns m) done.nodes
          ∙ get_or-set_other (nodes_of entries) n m (Some (record { path = there.path ++ entry.name ∷ []; node = record_in entry })) None
          (λ same. is_dead (node_at (nodes_of entries) m) (ap (node_at (nodes_of entries)) same ∙ free_node) live);
    }

pub made : (entries : List (Option Entry)) (nodes : List (Option NodeAt)) (n : ℕ) (entry : Entry) → nodes_of entries ≡ nodes → IsKept entries
    → position is_none entries ≡ Some n → IsTrue (is_dir_record (record_of nodes entry.dir)) → IsProper entry.name → entry.attrs.is_dir ≡ is_dir entry.kind
    → sum_by size_in entries + length entry.contents ≤ 4194304 → tree_of nodes (path_of nodes entry.dir ++ entry.name ∷ []) ≡ None
    → Made nodes n (path_of nodes entry.dir ++ entry.name ∷ []) (record_in entry) (set entries n (Some entry))
made entries nodes n entry view kept found dir node dirs empty none =
    subst
    (λ (ns : List (Option NodeAt)). IsTrue (is_dir_record (record_of ns entry.dir)) → tree_of ns (path_of ns entry.dir ++ entry.name ∷ []) ≡ None
    → Made ns n (path_of ns entry.dir ++ entry.name ∷ []) (record_in entry) (set entries n (Some entry)))
    view
    (λ d m. made_here entries n entry kept found d node dirs empty m) dir none

-- a node that is live stands within the table
pub live_inside : (entries : List (Option Entry)) (nodes : List (Option NodeAt)) (n : ℕ) → nodes_of entries ≡ nodes → IsLive nodes n → n < length entries
live_inside entries nodes n view live =
    let there = some_entry (entry_at entries n) (live_entry entries nodes n view live) in live_within entries n there.0 there.1

-- a node is made in the first free place
pub made_call : (entries : List (Option Entry)) (nodes : List (Option NodeAt)) (n : ℕ) (entry : Entry) (dir : ℕ) (name : List ℕ)
    → nodes_of entries ≡ nodes → IsKept entries → Some n ≡ position is_none entries → entry.dir ≡ dir → entry.name ≡ name
    → length entry.name ≤ NAME_BYTES → IsTrue (is_dir_record (record_of nodes dir)) → IsTrue (is_name name) → entry.attrs.is_dir ≡ is_dir entry.kind
    → sum_by size_in entries + length entry.contents ≤ 4194304 → tree_of nodes (path_of nodes dir ++ name ∷ []) ≡ None
    → Made nodes n (path_of nodes dir ++ name ∷ []) (new_node entry.kind entry.attrs entry.default entry.contents) (set entries n (Some entry))
made_call entries nodes n entry dir name view kept found dir_is name_is short is_a_dir node dirs empty none =
    let done =
    made entries nodes n entry view kept (sym found) (rw dir_is is_a_dir) ((rw name_is node), short) dirs empty
    (rw (dir_is, name_is) none) in
    rw (← dir_is, ← name_is) done
