-- The nodes of a table as a finite map, from paths in their order to what is there.
use Rattle.std.proofs.Common.{◌≡◌, ◌≢◌, inl, inr, ℕ, suc, ◌+◌, ◌<◌, Bool, true, false, cond, ◌&&◌, not, T, List, [], ◌∷◌, ◌++◌, length, map, set, Option, Some}
use Rattle.std.proofs.Common.{None, option_map, refl, sym, ap, ◌∙◌, arith, subst}
use Rattle.std.proofs.Math.Path.{fun_ext}
use Rattle.std.specs.Prelude.{IsSome, is_some, sum_by, ◌==◌}
use Rattle.std.specs.Str.{bytes_eq}
use Rattle.std.specs.List.{AllByRecursion, cons_option}
use Rattle.std.specs.List.Sorted.{IsStrictlySortedBy}
use Rattle.std.specs.declared.cmp.Ordering.{Ordering}
use Rattle.std.specs.declared.cmp.Ordering.TheVariants.{Less, Equal, Greater}
use Rattle.std.specs.Ordering.{nat_cmp, eq_by_cmp, is_eq, is_lt, ordering_then}
use Rattle.std.specs.Cmp.{IsTotalOrder, both_tied}
use Rattle.std.specs.Cmp.Lexicographic.{slice_cmp}
use Rattle.std.specs.FinMap.{nat_cmp-IsAntisymmetric, slice_cmp-IsAntisymmetric}
use Rattle.std.specs.FinMap.Entries.{by_order, find, put, below_all, is_sorted, is_sorted-put, is_sorted-where_key, find-put, find-where_key, same_entries}
use Rattle.std.proofs.lemmas.Bool.{cases_eq, cases_lt, ne_eqb}
use Rattle.std.proofs.lemmas.Cmp.{nat_list_cmp_total, lists_total, alike_right, eq_by_cmp_equiv, tied_itself}
use Rattle.std.proofs.lemmas.Map.Text.{is_eq-slice_cmp}
use Rattle.std.proofs.lemmas.List.{get_or-set_same, get_or-set_other, get_or_past, length-set}
use Rattle.std.proofs.lemmas.List.Sums.{sum_by-cons}
use Rattle.tree_model.specs.Tree.{NodeRecord, Tree, Nodes, path_cmp, at_path, with_node_at, nodes_from, bytes_in}
use Rattle.tree_model.specs.Listing.{name_after, names_below, names_under, is_empty_dir}
use Rattle.tree_model.specs.Standard.{standard, standard_tree}
use Rattle.user_db.specs.declared.boot.Boot.{Boot}
use Rattle.vnode_tree.specs.declared.entry.Entry.{Entry}
use Rattle.vnode_tree.specs.Nodes.{NodeAt, IsLive, node_at, path_in, path_of, record_of, same_path, tree_of, with_node, with_record, with_change, count_of}
use Rattle.vnode_tree.specs.Nodes.{ChangesAt, IsLeaf, HasChild}
use Rattle.vnode_tree.specs.Links.{entry_at, record_in, nodes_of}
use Rattle.vnode_tree.specs.Kept.{IsKept}
use Rattle.vnode_tree.specs.Contents.{size_of, space_of}
use Rattle.vnode_tree.specs.Standard.{IsMapOf}
use Rattle.vnode_tree.specs.Names.{names_in, AreBelow, Rise}
use Rattle.vnode_tree.proofs.Trees.{ArePathsApart, Owns, none_there, tail_apart, changes_at}
use Rattle.vnode_tree.proofs.Counts.{live_within}
use Rattle.vnode_tree.proofs.Tables.{paths_apart}
use Rattle.vnode_tree.proofs.Calls.{some_entry}
use Rattle.vnode_tree.proofs.Children.{what_is_there}
use Rattle.vnode_tree.proofs.NamesBelow.{after_of, after_is}
use Rattle.vnode_tree.proofs.NamesLaws.{In, in_from_contains, contains_from_in, in_rest, only_names}

-- ---- the order of paths

pub path_total : IsTotalOrder path_cmp
path_total = lists_total nat_list_cmp_total

-- only a path itself ties with it
pub one_path : (p q : List (List ℕ)) → path_cmp p q ≡ Equal → p ≡ q
one_path = slice_cmp-IsAntisymmetric (slice_cmp-IsAntisymmetric nat_cmp-IsAntisymmetric)

pub same_path_tied : (p q : List (List ℕ)) → same_path p q ≡ eq_by_cmp path_cmp p q
same_path_tied [] [] = refl
same_path_tied [] (y ∷ ys) = refl
same_path_tied (x ∷ xs) [] = refl
same_path_tied (x ∷ xs) (y ∷ ys) =
    both_tied (bytes_eq x y) (same_path xs ys) (slice_cmp nat_cmp x y) (path_cmp xs ys) (sym (is_eq-slice_cmp x y)) (same_path_tied xs ys)

-- ---- what is at a path

turned : {A : Type 0} (b : Bool) (x y : A) → cond (not b) x y ≡ cond b y x
turned true x y = refl
turned false x y = refl

pub at_placed : (nodes : Nodes) (path other : List (List ℕ)) (now : Option NodeRecord)
    → at_path (with_node_at nodes path now) other ≡ cond (same_path other path) now (at_path nodes other)
unfolding at_path with_node_at
at_placed nodes path other (Some node) =
    find-put path_cmp path_total other path node nodes ∙ ap (λ b. cond b (Some node) (find path_cmp other nodes)) (sym (same_path_tied other path))
at_placed nodes path other None =
    find-where_key path_cmp (λ p. not (eq_by_cmp path_cmp path p)) other (λ p tied. ap (λ r. not (is_eq r)) (sym (alike_right path_total other p path tied)))
    nodes
    ∙ turned (eq_by_cmp path_cmp path other) (find path_cmp other nodes) None
    ∙ ap (λ b. cond b None (find path_cmp other nodes)) ((eq_by_cmp_equiv path_total).symm path other ∙ sym (same_path_tied other path))

-- a map of nodes is in the order of paths
abbrev pub IsInOrder : Nodes → Type 0
IsInOrder nodes = T (is_sorted path_cmp nodes)

pub placed_in_order : (nodes : Nodes) (path : List (List ℕ)) (now : Option NodeRecord) → IsInOrder nodes → IsInOrder (with_node_at nodes path now)
unfolding with_node_at
placed_in_order nodes path None up = is_sorted-where_key path_cmp (λ p. not (eq_by_cmp path_cmp path p)) nodes up
placed_in_order nodes path (Some node) up = is_sorted-put path_cmp path_total path node nodes up

pub nodes_in_order : (table : List (Option NodeAt)) → IsInOrder (nodes_from table)
unfolding nodes_from
nodes_in_order [] = tt
nodes_in_order (None ∷ table) = nodes_in_order table
nodes_in_order (Some node ∷ table) = placed_in_order (nodes_from table) node.path (Some node.node) (nodes_in_order table)

-- the map of a table has, at each path, what the table has there
pub at_path_is : (table : List (Option NodeAt)) (path : List (List ℕ)) → at_path (nodes_from table) path ≡ tree_of table path
unfolding nodes_from tree_of at_path
at_path_is [] path = refl
at_path_is (None ∷ table) path = at_path_is table path
at_path_is (Some node ∷ table) path =
    at_placed (nodes_from table) node.path path (Some node.node) ∙ ap (cond (same_path path node.path) (Some node.node)) (at_path_is table path)

pub tree_is : (table : List (Option NodeAt)) → at_path (nodes_from table) ≡ tree_of table
tree_is table = fun_ext (at_path_is table)

-- two maps that have the same at each path are one
pub same_nodes : (nodes others : Nodes) → IsInOrder nodes → IsInOrder others → ((path : List (List ℕ)) → at_path nodes path ≡ at_path others path)
    → nodes ≡ others
unfolding at_path
same_nodes nodes others up up_too same = same_entries path_cmp path_total one_path nodes others up up_too same

-- the map after a change of what is at one path
pub nodes_changed : (path : List (List ℕ)) (now : Option NodeRecord) (old new : List (Option NodeAt)) → ChangesAt path now old new
    → nodes_from new ≡ with_node_at (nodes_from old) path now
nodes_changed path now old new changes =
    same_nodes (nodes_from new) (with_node_at (nodes_from old) path now) (nodes_in_order new) (placed_in_order (nodes_from old) path now (nodes_in_order old))
    (λ other.
    at_path_is new other ∙ changes.only other ∙ ap (cond (same_path other path) now) (sym (at_path_is old other))
    ∙ sym (at_placed (nodes_from old) path other now))

-- ---- how many nodes and bytes there are

-- a node more, at a path that was free
sum_put : (f : List (List ℕ) × NodeRecord → ℕ) (path : List (List ℕ)) (node : NodeRecord) (nodes : Nodes) → at_path nodes path ≡ None
    → sum_by f (put path_cmp path node nodes) ≡ f (path, node) + sum_by f nodes
unfolding at_path
sum_put f path node [] free = sum_by-cons f (path, node) []
sum_put f path node (n ∷ nodes) free =
    elim (path_cmp path n.0) as
    (λ r. path_cmp path n.0 ≡ r → cond (is_eq r) (Some n.1) (find path_cmp path nodes) ≡ None
    → sum_by f (by_order r ((path, node) ∷ n ∷ nodes) ((n.0, node) ∷ nodes) (n ∷ put path_cmp path node nodes)) ≡ f (path, node) + sum_by f (n ∷ nodes)) [
      | Less ↦ λ r e. sum_by-cons f (path, node) (n ∷ nodes)
      | Equal ↦ λ r e. absurd cc
      | Greater ↦ λ r e. omega (arith, sum_by-cons f n (put path_cmp path node nodes), sum_by-cons f n nodes, sum_put f path node nodes e)
    ] refl free

-- a node of a table in which no other has its path
first_free : (node : NodeAt) (table : List (Option NodeAt)) → ArePathsApart (Some node ∷ table) → at_path (nodes_from table) node.path ≡ None
first_free node table all =
    at_path_is table node.path
    ∙ none_there table node.path (λ m other at same. let one : suc m ≡ 0 = all.apart (suc m) 0 other node at refl same in omega arith)

-- the sum over the map is that over the table
sum_is : (f : List (List ℕ) × NodeRecord → ℕ) (g : Option NodeAt → ℕ) (table : List (Option NodeAt)) → g None ≡ 0
    → ((node : NodeAt) → g (Some node) ≡ f (node.path, node.node)) → ArePathsApart table → sum_by f (nodes_from table) ≡ sum_by g table
unfolding nodes_from with_node_at
sum_is f g [] none some all = refl
sum_is f g (None ∷ table) none some all = omega (arith, sum_by-cons g None table, none, sum_is f g table none some (tail_apart None table all))
sum_is f g (Some node ∷ table) none some all =
    omega (
      arith,
      sum_by-cons g (Some node) table,
      some node,
      sum_put f node.path node.node (nodes_from table) (first_free node table all),
      sum_is f g table none some (tail_apart (Some node) table all),
    )

length_is : {X : Type 0} (xs : List X) → length xs ≡ sum_by (λ x. 1) xs
length_is [] = refl
length_is (x ∷ xs) = omega (arith, sum_by-cons (λ y. 1) x xs, length_is xs)

pub nodes_counted : (table : List (Option NodeAt)) → ArePathsApart table → length (nodes_from table) ≡ count_of table
nodes_counted table all = length_is (nodes_from table) ∙ sum_is (λ n. 1) (λ o. cond (is_some o) 1 0) table refl (λ node. refl) all

pub bytes_counted : (table : List (Option NodeAt)) → ArePathsApart table → bytes_in (nodes_from table) ≡ space_of table
unfolding bytes_in
bytes_counted table all = sum_is (λ n. length n.1.contents) size_of table refl (λ node. refl) all

-- ---- the names of a directory

both : (a b : Bool) → T (a && b) → T a × T b
both true b t = (tt, t)
both false b t = absurd t

less : (o : Ordering) → T (is_lt o) → o ≡ Less
less Less t = refl
less Equal t = absurd t
less Greater t = absurd t

only_last : (o : Ordering) → ordering_then o Equal ≡ Less → o ≡ Less
only_last Less e = refl
only_last Equal e = absurd cc
only_last Greater e = absurd cc

-- names of one directory have the order of their paths
names_ordered : (dir : List (List ℕ)) (name other : List ℕ) → path_cmp (dir ++ name ∷ []) (dir ++ other ∷ []) ≡ Less → slice_cmp nat_cmp name other ≡ Less
names_ordered [] name other e = only_last (slice_cmp nat_cmp name other) e
names_ordered (x ∷ dir) name other e =
    names_ordered dir name other (ap (λ r. ordering_then r (path_cmp (dir ++ name ∷ []) (dir ++ other ∷ []))) (sym (tied_itself nat_list_cmp_total x)) ∙ e)

names_above : (dir : List (List ℕ)) (path : List (List ℕ)) (name : List ℕ) (nodes : Nodes) → name_after dir path ≡ Some name → T (below_all path_cmp path nodes)
    → AllByRecursion (λ other. slice_cmp nat_cmp name other ≡ Less) (names_below (map (λ n. n.0) nodes) dir)
names_above dir path name [] is below = tt
names_above dir path name (n ∷ nodes) is below =
    let parts = both (is_lt (path_cmp path n.0)) (below_all path_cmp path nodes) below in
    elim (name_after dir n.0) as
    (λ o. name_after dir n.0 ≡ o → AllByRecursion (λ other. slice_cmp nat_cmp name other ≡ Less) (cons_option o (names_below (map (λ m. m.0) nodes) dir))) [
      | None ↦ λ e. names_above dir path name nodes is parts.1
      | Some other ↦ λ e.
          let order : path_cmp (dir ++ name ∷ []) (dir ++ other ∷ []) ≡ Less =
          rw (← after_is dir path name is, ← after_is dir n.0 other e) (less (path_cmp path n.0) parts.0) in
          (names_ordered dir name other order, names_above dir path name nodes is parts.1)
    ] refl

-- the names in a map in order are in order
names_rise : (nodes : Nodes) (dir : List (List ℕ)) → IsInOrder nodes → Rise (names_below (map (λ n. n.0) nodes) dir)
unfolding IsStrictlySortedBy
names_rise [] dir up = tt
names_rise (n ∷ nodes) dir up =
    let parts = both (below_all path_cmp n.0 nodes) (is_sorted path_cmp nodes) up in
    elim (name_after dir n.0) as (λ o. name_after dir n.0 ≡ o → Rise (cons_option o (names_below (map (λ m. m.0) nodes) dir))) [
      | None ↦ λ e. names_rise nodes dir parts.1
      | Some name ↦ λ e. (names_above dir n.0 name nodes e parts.0, names_rise nodes dir parts.1)
    ] refl

name_there : (nodes : Nodes) (dir : List (List ℕ)) (name : List ℕ) → In name (names_below (map (λ n. n.0) nodes) dir)
    → IsSome (at_path nodes (dir ++ name ∷ []))
unfolding at_path
name_there [] dir name i = absurd i
name_there (n ∷ nodes) dir name i =
    elim (eq_by_cmp path_cmp (dir ++ name ∷ []) n.0) as
    (λ t. eq_by_cmp path_cmp (dir ++ name ∷ []) n.0 ≡ t → IsSome (cond t (Some n.1) (find path_cmp (dir ++ name ∷ []) nodes))) [
      | true ↦ λ t. refl
      | false ↦ λ t. name_there nodes dir name (
          elim (name_after dir n.0) as
          (λ o. name_after dir n.0 ≡ o → In name (cons_option o (names_below (map (λ m. m.0) nodes) dir))
          → In name (names_below (map (λ m. m.0) nodes) dir)) [
            | None ↦ λ e i. i
            | Some x ↦ λ e i. elim i [
              | inl here ↦
                  let whole : n.0 ≡ dir ++ name ∷ [] = after_is dir n.0 name (e ∙ ap (λ (y : List ℕ). Some y) here) in
                  absurd
                  (let no : true ≡ false =
                  sym (ap is_eq (tied_itself path_total (dir ++ name ∷ []))) ∙ ap (eq_by_cmp path_cmp (dir ++ name ∷ [])) (sym whole) ∙ t in
                  cc)
              | inr rest ↦ rest
            ]
          ] refl i)
    ] refl

name_in_from_there : (nodes : Nodes) (dir : List (List ℕ)) (name : List ℕ) → IsSome (at_path nodes (dir ++ name ∷ []))
    → In name (names_below (map (λ n. n.0) nodes) dir)
unfolding at_path
name_in_from_there [] dir name some = absurd (let no : false ≡ true = some in cc)
name_in_from_there (n ∷ nodes) dir name some =
    elim (path_cmp (dir ++ name ∷ []) n.0) as
    (λ r. path_cmp (dir ++ name ∷ []) n.0 ≡ r → IsSome (cond (is_eq r) (Some n.1) (find path_cmp (dir ++ name ∷ []) nodes))
    → In name (cons_option (name_after dir n.0) (names_below (map (λ m. m.0) nodes) dir))) [
      | Less ↦ λ r some. in_rest name (name_after dir n.0) (names_below (map (λ m. m.0) nodes) dir) (name_in_from_there nodes dir name some)
      | Equal ↦ λ r some.
          let is : name_after dir n.0 ≡ Some name = ap (name_after dir) (sym (one_path (dir ++ name ∷ []) n.0 r)) ∙ after_of dir name in
          rw is (inl refl)
      | Greater ↦ λ r some. in_rest name (name_after dir n.0) (names_below (map (λ m. m.0) nodes) dir) (name_in_from_there nodes dir name some)
    ] refl some

-- they are those of the nodes that are there
pub names_are_under : (table : List (Option NodeAt)) (dir : List (List ℕ)) → AreBelow table dir (names_under (nodes_from table) dir)
unfolding names_under
names_are_under table dir name =
    let names : List (List ℕ) = names_below (map (λ n. n.0) (nodes_from table)) dir in
    let same : is_some (at_path (nodes_from table) (dir ++ name ∷ [])) ≡ is_some (tree_of table (dir ++ name ∷ [])) =
    ap (λ (o : Option NodeRecord). is_some o) (at_path_is table (dir ++ name ∷ [])) in (
      λ has. sym same ∙ name_there (nodes_from table) dir name (in_from_contains name names has.0 has.1 has.2),
      λ some. contains_from_in name names (name_in_from_there (nodes_from table) dir name (same ∙ some)),
    )

pub names_under_rise : (nodes : Nodes) (dir : List (List ℕ)) → IsInOrder nodes → Rise (names_under nodes dir)
unfolding names_under
names_under_rise nodes dir up = names_rise nodes dir up

pub names_found : (table : List (Option NodeAt)) (dir : ℕ) → ArePathsApart table → names_under (nodes_from table) (path_of table dir) ≡ names_in table dir
names_found table dir all =
    only_names table dir (names_under (nodes_from table) (path_of table dir)) all (names_are_under table (path_of table dir))
    (names_under_rise (nodes_from table) (path_of table dir) (nodes_in_order table))

-- ---- the standard tree

pub standard_nodes : (table : List (Option NodeAt)) (boot : Boot) → IsMapOf table (standard boot) → nodes_from table ≡ standard_tree boot
unfolding standard_tree
standard_nodes table boot m =
    let all : List (Option NodeAt) = map (λ n. Some n) (standard boot) in
    same_nodes (nodes_from table) (nodes_from all) (nodes_in_order table) (nodes_in_order all)
    (λ path. at_path_is table path ∙ ap (λ (t : Tree). t path) m.there ∙ sym (at_path_is all path))

-- ---- nodes that are held while others change

pub named_other : (table : List (Option NodeAt)) (n other : ℕ) (x : Option NodeAt) → other ≢ n → node_at (with_node table n x) other ≡ node_at table other
named_other table n other x apart = get_or-set_other table n other x None apart

pub path_other : (table : List (Option NodeAt)) (n other : ℕ) (x : Option NodeAt) → other ≢ n → path_of (with_node table n x) other ≡ path_of table other
path_other table n other x apart = ap path_in (named_other table n other x apart)

pub record_other : (table : List (Option NodeAt)) (n other : ℕ) (x : Option NodeAt) → other ≢ n → record_of (with_node table n x) other ≡ record_of table other
record_other table n other x apart = ap (option_map (λ (node : NodeAt). node.node)) (named_other table n other x apart)

pub live_other : (table : List (Option NodeAt)) (n other : ℕ) (x : Option NodeAt) → other ≢ n → IsLive table other → IsLive (with_node table n x) other
live_other table n other x apart live = subst (λ (o : Option NodeAt). IsSome o) (sym (named_other table n other x apart)) live

-- the node that was put in a place of the table, or none
pub named_same : (table : List (Option NodeAt)) (n : ℕ) (x : Option NodeAt) → n < length table → node_at (with_node table n x) n ≡ x
named_same table n x inside = get_or-set_same table n x None inside

-- a change of what a node is, by the node of any number
pub named_changed : (change : NodeRecord → NodeRecord) (table : List (Option NodeAt)) (n : ℕ)
    → node_at (with_record change table n) n ≡ option_map (with_change change) (node_at table n)
named_changed change table n = elim (cases_lt n (length table)) [
  | inl inside ↦ get_or-set_same table n (option_map (with_change change) (node_at table n)) None inside
  | inr past ↦
      let none : node_at table n ≡ None = get_or_past table n None past in
      get_or_past (with_record change table n) n None (omega (arith, length-set table n (option_map (with_change change) (node_at table n)), past))
      ∙ sym (ap (option_map (with_change change)) none)
]

changed_path : (change : NodeRecord → NodeRecord) (o : Option NodeAt) → path_in (option_map (with_change change) o) ≡ path_in o
changed_path change None = refl
changed_path change (Some node) = refl

changed_some : (change : NodeRecord → NodeRecord) (o : Option NodeAt) → is_some (option_map (with_change change) o) ≡ is_some o
changed_some change None = refl
changed_some change (Some node) = refl

changed_record : (change : NodeRecord → NodeRecord) (o : Option NodeAt)
    → option_map (λ (node : NodeAt). node.node) (option_map (with_change change) o) ≡ option_map change (option_map (λ (node : NodeAt). node.node) o)
changed_record change None = refl
changed_record change (Some node) = refl

pub path_kept : (change : NodeRecord → NodeRecord) (table : List (Option NodeAt)) (n other : ℕ)
    → path_of (with_record change table n) other ≡ path_of table other
path_kept change table n other = elim (cases_eq other n) [
  | inl same ↦ rw same (ap path_in (named_changed change table n) ∙ changed_path change (node_at table n))
  | inr apart ↦ path_other table n other (option_map (with_change change) (node_at table n)) apart
]

pub live_kept : (change : NodeRecord → NodeRecord) (table : List (Option NodeAt)) (n other : ℕ)
    → is_some (node_at (with_record change table n) other) ≡ is_some (node_at table other)
live_kept change table n other = elim (cases_eq other n) [
  | inl same ↦ rw same (ap (λ (o : Option NodeAt). is_some o) (named_changed change table n) ∙ changed_some change (node_at table n))
  | inr apart ↦ ap (λ (o : Option NodeAt). is_some o) (named_other table n other (option_map (with_change change) (node_at table n)) apart)
]

pub record_changed : (change : NodeRecord → NodeRecord) (table : List (Option NodeAt)) (n : ℕ)
    → record_of (with_record change table n) n ≡ option_map change (record_of table n)
record_changed change table n = ap (option_map (λ (node : NodeAt). node.node)) (named_changed change table n) ∙ changed_record change (node_at table n)

pub record_kept : (change : NodeRecord → NodeRecord) (table : List (Option NodeAt)) (n other : ℕ) → other ≢ n
    → record_of (with_record change table n) other ≡ record_of table other
record_kept change table n other apart = record_other table n other (option_map (with_change change) (node_at table n)) apart

-- the paths stay apart
pub apart_kept : (change : NodeRecord → NodeRecord) (table : List (Option NodeAt)) (n : ℕ) → ArePathsApart table → ArePathsApart (with_record change table n)
apart_kept change table n all = record {
  apart = λ m other a b at there same.
      let one = was change table n m a at in
      let two = was change table n other b there in
      all.apart m other one.0 two.0 one.1 two.1 (one.2 ∙ same ∙ sym two.2);
}
  where
    was : (change : NodeRecord → NodeRecord) (table : List (Option NodeAt)) (n m : ℕ) (a : NodeAt) → node_at (with_record change table n) m ≡ Some a
        → (b : NodeAt) × (node_at table m ≡ Some b) × (b.path ≡ a.path)
    was change table n m a at =
        let some : is_some (node_at table m) ≡ true = sym (live_kept change table n m) ∙ ap (λ (o : Option NodeAt). is_some o) at in
        let path : path_of table m ≡ a.path = sym (path_kept change table n m) ∙ ap path_in at in
        elim (node_at table m) as (λ o. is_some o ≡ true → path_in o ≡ a.path → (b : NodeAt) × (o ≡ Some b) × (b.path ≡ a.path)) [
          | None ↦ λ some path. absurd (let no : false ≡ true = some in cc)
          | Some b ↦ λ some path. (b, refl, path)
        ] some path

-- what is at the path of a live node is changed, and all else is as it was
pub record_changes : (change : NodeRecord → NodeRecord) (table : List (Option NodeAt)) (n : ℕ) → ArePathsApart table → IsLive table n
    → ChangesAt (path_of table n) (option_map change (record_of table n)) table (with_record change table n)
record_changes change table n all live =
    let here = some_entry (node_at table n) live in
    let owns : Owns table n here.0.path = record {
      here = λ a at. let one : Some a ≡ Some here.0 = sym at ∙ here.1 in let same : a ≡ here.0 = cc in ap (λ (x : NodeAt). x.path) same;
      others = λ m b at same. all.apart m n b here.0 at here.1 same;
    } in
    let whole : ChangesAt here.0.path (Some (change here.0.node)) table (set table n (Some (with_change change here.0))) =
    changes_at table n here.0.path (Some (change here.0.node)) (live_within table n here.0 here.1) owns in
    subst
    (λ (o : Option NodeAt). ChangesAt (path_in o) (option_map change (option_map (λ (node : NodeAt). node.node) o)) table
    (set table n (option_map (with_change change) o)))
    (sym here.1) whole

-- how many bytes there are after a change of a live node
pub bytes_after : (change : NodeRecord → NodeRecord) (table : List (Option NodeAt)) (n : ℕ) → ArePathsApart table → IsLive table n
    → bytes_in (with_node_at (nodes_from table) (path_of table n) (option_map change (record_of table n))) ≡ space_of (with_record change table n)
bytes_after change table n all live =
    ap bytes_in
    (sym
    (nodes_changed (path_of table n) (option_map change (record_of table n)) table (with_record change table n)
    (record_changes change table n all live)))
    ∙ bytes_counted (with_record change table n) (apart_kept change table n all)

-- ---- a directory with nodes, and one without

pub some_names : (table : List (Option NodeAt)) (path : List (List ℕ)) → HasChild table path → true ≡ not (is_empty_dir (nodes_from table) path)
some_names table path child =
    let has = (names_are_under table path child.0).1 child.1 in
    let other : ◌≢◌ {A = ℕ} (length (names_under (nodes_from table) path)) 0 = λ e. omega (arith, e, has.1) in
    rw (ne_eqb (length (names_under (nodes_from table) path)) 0 other) refl

pub no_names : (table : List (Option NodeAt)) (path : List (List ℕ)) → IsLeaf table path → false ≡ not (is_empty_dir (nodes_from table) path)
no_names table path leaf = none (names_under (nodes_from table) path) (names_are_under table path)
  where
    none : (names : List (List ℕ)) → AreBelow table path names → false ≡ not (length names == 0)
    none [] below = refl
    none (name ∷ names) below =
        let some : is_some (tree_of table (path ++ name ∷ [])) ≡ true = (below name).0 (0, omega arith, refl) in
        absurd (let no : false ≡ true = sym (ap (λ (o : Option NodeRecord). is_some o) (leaf name)) ∙ some in cc)

-- ---- a table that is kept

-- no two nodes of it have one path
pub apart_table : (entries : List (Option Entry)) (nodes : List (Option NodeAt)) → nodes_of entries ≡ nodes → IsKept entries → ArePathsApart nodes
apart_table entries nodes view kept = subst ArePathsApart view (paths_apart entries kept)

-- a node is what the map has at its path
pub what_is_at : (entries : List (Option Entry)) (nodes : List (Option NodeAt)) (n : ℕ) (entry : Entry) → nodes_of entries ≡ nodes → IsKept entries
    → entry_at entries n ≡ Some entry → at_path (nodes_from nodes) (path_of nodes n) ≡ Some (record_in entry)
what_is_at entries nodes n entry view kept at = at_path_is nodes (path_of nodes n) ∙ what_is_there entries nodes n entry view kept at
