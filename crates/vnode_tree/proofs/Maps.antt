-- Tables that have, at each path, what a list of nodes has.
use Rattle.std.proofs.Common.{◌≡◌, ℕ, ◌+◌, ◌<◌, ◌≤◌, Bool, true, false, cond, List, [], ◌∷◌, ◌++◌, length, map, Option, Some, None, refl, sym, ap, ◌∙◌, arith}
use Rattle.std.proofs.Common.{subst, length-append, leb-true, ltb-true}
use Rattle.std.proofs.Math.Path.{fun_ext}
use Rattle.std.specs.Prelude.{IsSome, IsTrue, is_none, nat_le, nat_lt, ◌&&◌}
use Rattle.std.proofs.lemmas.List.Sums.{sum_by-cons}
use Rattle.tree_model.specs.Tree.{Tree, is_dir, is_dir_record}
use Rattle.vnode_tree.specs.Nodes.{NodeAt, node_at, path_of, record_of, same_path, tree_of, count_of, is_name, ChangesAt}
use Rattle.vnode_tree.specs.Contents.{size_of, space_of}
use Rattle.vnode_tree.specs.Standard.{IsMapOf, Keeps, can_add, root_node}
use Rattle.vnode_tree.proofs.Trees.{path_true}

abbrev pub all_some : List NodeAt → List (Option NodeAt)
all_some nodes = map (λ n. Some n) nodes

rest_free : (n : NodeAt) (nodes : List NodeAt) (path : List (List ℕ)) → tree_of (all_some (n ∷ nodes)) path ≡ None → tree_of (all_some nodes) path ≡ None
unfolding tree_of
rest_free n nodes path free =
    elim (same_path path n.path) as (λ t. cond t (Some n.node) (tree_of (all_some nodes) path) ≡ None → tree_of (all_some nodes) path ≡ None) [
      | true ↦ λ e. absurd cc
      | false ↦ λ e. e
    ] free

-- one node more, at a path that was free
more_there : (nodes : List NodeAt) (x : NodeAt) (other : List (List ℕ)) → tree_of (all_some nodes) x.path ≡ None
    → tree_of (all_some (nodes ++ x ∷ [])) other ≡ cond (same_path other x.path) (Some x.node) (tree_of (all_some nodes) other)
unfolding tree_of
more_there [] x other free = refl
more_there (n ∷ nodes) x other free =
    elim (same_path other n.path) as
    (λ t. same_path other n.path ≡ t
    → cond t (Some n.node) (tree_of (all_some (nodes ++ x ∷ [])) other)
    ≡ cond (same_path other x.path) (Some x.node) (cond t (Some n.node) (tree_of (all_some nodes) other))) [
      | true ↦ λ t. elim (same_path other x.path) as (λ u. same_path other x.path ≡ u → Some n.node ≡ cond u (Some x.node) (Some n.node)) [
        | true ↦ λ u.
            let same : x.path ≡ n.path = sym (path_true other x.path u) ∙ path_true other n.path t in
            let here : same_path x.path n.path ≡ true = ap (λ p. same_path p n.path) (sym (path_true other x.path u)) ∙ t in
            let some : Some n.node ≡ None = sym (ap (λ b. cond b (Some n.node) (tree_of (all_some nodes) x.path)) here) ∙ free in
            absurd cc
        | false ↦ λ u. refl
      ] refl
      | false ↦ λ t. more_there nodes x other (rest_free n nodes x.path free)
    ] refl

space_more : (nodes : List NodeAt) (x : NodeAt) → space_of (all_some (nodes ++ x ∷ [])) ≡ space_of (all_some nodes) + length x.node.contents
space_more [] x = omega (arith, sum_by-cons size_of (Some x) [])
space_more (n ∷ nodes) x =
    omega (arith, sum_by-cons size_of (Some n) (all_some (nodes ++ x ∷ [])), sum_by-cons size_of (Some n) (all_some nodes), space_more nodes x)

-- a table with one node more
pub map_grows : (old new : List (Option NodeAt)) (nodes : List NodeAt) (x : NodeAt) → IsMapOf old nodes → tree_of old x.path ≡ None
    → ChangesAt x.path (Some x.node) old new → count_of new ≡ count_of old + 1 → space_of new ≡ space_of old + length x.node.contents
    → IsMapOf new (nodes ++ x ∷ [])
map_grows old new nodes x m free changes count space =
    let free_there : tree_of (all_some nodes) x.path ≡ None = ap (λ (t : Tree). t x.path) (sym m.there) ∙ free in
    record {
      there =
          fun_ext
          (λ other. changes.only other ∙ ap (λ (t : Tree). cond (same_path other x.path) (Some x.node) (t other)) m.there
          ∙ sym (more_there nodes x other free_there));
      count = omega (arith, count, m.count, length-append nodes (x ∷ []));
      space = omega (arith, space, m.space, space_more nodes x);
    }

pub both_true : (a b : Bool) → (a && b) ≡ true → (a ≡ true) × (b ≡ true)
both_true true b e = (refl, e)
both_true false b e = absurd cc

is_nothing : {X : Type 0} (x : Option X) → is_none x ≡ true → x ≡ None
is_nothing None e = refl
is_nothing (Some x) e = absurd cc

can_add_parts : (nodes : List (Option NodeAt)) (dir : ℕ) (name : List ℕ) (size : ℕ) → IsTrue (can_add nodes dir name size)
    → (is_dir_record (record_of nodes dir) ≡ true) × (is_none (tree_of nodes (path_of nodes dir ++ name ∷ [])) ≡ true) × (is_name name ≡ true)
    × (nat_le (length name) 255 ≡ true) × (nat_lt (count_of nodes) 1024 ≡ true) × (nat_le (space_of nodes + size) 4194304 ≡ true)
can_add_parts nodes dir name size e =
    let one = both_true _ (nat_le (space_of nodes + size) 4194304) e in
    let two = both_true _ (nat_lt (count_of nodes) 1024) one.0 in
    let three = both_true _ (nat_le (length name) 255) two.0 in
    let four = both_true _ (is_name name) three.0 in
    let five = both_true (is_dir_record (record_of nodes dir)) (is_none (tree_of nodes (path_of nodes dir ++ name ∷ []))) four.0 in
    (five.0, five.1, four.1, three.1, two.1, one.1)

pub can_add_dir : (nodes : List (Option NodeAt)) (dir : ℕ) (name : List ℕ) (size : ℕ) → IsTrue (can_add nodes dir name size)
    → is_dir_record (record_of nodes dir) ≡ true
can_add_dir nodes dir name size e = (can_add_parts nodes dir name size e).0

pub can_add_absent : (nodes : List (Option NodeAt)) (dir : ℕ) (name : List ℕ) (size : ℕ) → IsTrue (can_add nodes dir name size)
    → tree_of nodes (path_of nodes dir ++ name ∷ []) ≡ None
can_add_absent nodes dir name size e = is_nothing (tree_of nodes (path_of nodes dir ++ name ∷ [])) (can_add_parts nodes dir name size e).1

pub can_add_named : (nodes : List (Option NodeAt)) (dir : ℕ) (name : List ℕ) (size : ℕ) → IsTrue (can_add nodes dir name size) → is_name name ≡ true
can_add_named nodes dir name size e = (can_add_parts nodes dir name size e).2

pub can_add_short : (nodes : List (Option NodeAt)) (dir : ℕ) (name : List ℕ) (size : ℕ) → IsTrue (can_add nodes dir name size) → length name ≤ 255
can_add_short nodes dir name size e = leb-true (length name) 255 (can_add_parts nodes dir name size e).3

pub can_add_few : (nodes : List (Option NodeAt)) (dir : ℕ) (name : List ℕ) (size : ℕ) → IsTrue (can_add nodes dir name size) → count_of nodes < 1024
can_add_few nodes dir name size e = ltb-true (count_of nodes) 1024 (can_add_parts nodes dir name size e).4

pub can_add_room : (nodes : List (Option NodeAt)) (dir : ℕ) (name : List ℕ) (size : ℕ) → IsTrue (can_add nodes dir name size) → space_of nodes + size ≤ 4194304
can_add_room nodes dir name size e = leb-true (space_of nodes + size) 4194304 (can_add_parts nodes dir name size e).5

-- the same over a list of nodes and the directory's node
abbrev pub can_join : List NodeAt → NodeAt → List ℕ → ℕ → Bool
can_join nodes parent name size =
    is_dir parent.node.kind
    && is_none (tree_of (all_some nodes) (parent.path ++ name ∷ []))
    && is_name name && nat_le (length name) 255
    && nat_lt (length nodes) 1024
    && nat_le (space_of (all_some nodes) + size) 4194304

pub can_add_is : (table : List (Option NodeAt)) (nodes : List NodeAt) (parent : NodeAt) (dir : ℕ) (name : List ℕ) (size : ℕ) → IsMapOf table nodes
    → node_at table dir ≡ Some parent → can_join nodes parent name size ≡ true → IsTrue (can_add table dir name size)
can_add_is table nodes parent dir name size m at e = rw (at, m.there, m.count, m.space) e

-- a node that was live stays as it was
pub held : (old new : List (Option NodeAt)) (n : ℕ) (node : NodeAt) → Keeps old new → node_at old n ≡ Some node → node_at new n ≡ Some node
held old new n node keeps at = keeps n (subst (λ (o : Option NodeAt). IsSome o) (sym at) refl) ∙ at

-- a table of these nodes, with the root where it was
pub record Stage (table : List (Option NodeAt)) (nodes : List NodeAt) : Type 0 where
  pub map : IsMapOf table nodes
  pub root : node_at table 0 ≡ Some root_node

pub next_stage : (old new : List (Option NodeAt)) (nodes : List NodeAt) (x : NodeAt) → Stage old nodes
    → ((ns : List NodeAt) → IsMapOf old ns → IsMapOf new (ns ++ x ∷ [])) → Keeps old new → Stage new (nodes ++ x ∷ [])
next_stage old new nodes x s grows keeps = record { map = grows nodes s.map; root = held old new 0 root_node keeps s.root }

-- a directory may be added to the root of such a table
pub dir_fits : (table : List (Option NodeAt)) (nodes : List NodeAt) (name : List ℕ) → Stage table nodes → can_join nodes root_node name 0 ≡ true
    → IsTrue (can_add table 0 name 0)
dir_fits table nodes name s e = can_add_is table nodes root_node 0 name 0 s.map s.root e

pub keeps_on : (old mid new : List (Option NodeAt)) → Keeps old mid → Keeps mid new → Keeps old new
keeps_on old mid new k l n live = l n (subst (λ (o : Option NodeAt). IsSome o) (sym (k n live)) live) ∙ k n live
