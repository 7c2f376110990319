-- A tree of a root alone.
use Rattle.std.proofs.Common.{◌≡◌, ◌≢◌, inl, inr, ℕ, zero, suc, ◌+◌, true, false, cond, List, [], ◌∷◌, length, set, get_or, replicate, Option, Some, None}
use Rattle.std.proofs.Common.{refl, sym, ap, ◌∙◌, arith, subst}
use Rattle.std.proofs.Math.Path.{fun_ext}
use Rattle.std.specs.Prelude.{IsSome, is_some, sum_by}
use Rattle.std.proofs.lemmas.List.{get_or-set_same, get_or-set_other, length-set, length-replicate}
use Rattle.std.proofs.lemmas.List.Sums.{sum_by-cons}
use Rattle.std.proofs.lemmas.Bool.{cases_eq}
use Rattle.tree_model.specs.Tree.{is_dir}
use Rattle.sys_types.specs.declared.node.Kind.TheVariants as kind
use Rattle.vnode_tree.specs.declared.entry.Entry.{Entry}
use Rattle.vnode_tree.specs.Nodes.{NodeAt, node_at, same_path, tree_of}
use Rattle.vnode_tree.specs.Links.{entry_at, path_up, record_in, nodes_of}
use Rattle.vnode_tree.specs.Kept.{IsKept, size_in}
use Rattle.vnode_tree.specs.Standard.{IsMapOf}
use Rattle.vnode_tree.proofs.Paths.{root_path}
use Rattle.vnode_tree.proofs.Counts.{live_within, count_without}
use Rattle.vnode_tree.proofs.Trees.{path_true, at_its_path, none_there}
use Rattle.vnode_tree.proofs.Tables.{has_path, listed, paths_apart}
use Rattle.vnode_tree.proofs.Files.{space_is}

-- a table with a root and nothing else
pub record IsRootTable (entries : List (Option Entry)) (root : Entry) : Type 0 where
  pub first : entry_at entries 0 ≡ Some root
  pub others : (n : ℕ) → n ≢ 0 → entry_at entries n ≡ None

sum_zero : {X : Type 0} (f : Option X → ℕ) (xs : List (Option X)) → ((k : ℕ) → f (get_or xs k None) ≡ 0) → sum_by f xs ≡ 0
sum_zero f [] all = refl
sum_zero f (x ∷ xs) all = omega (arith, sum_by-cons f x xs, all 0, sum_zero f xs (λ k. all (suc k)))

-- what a root has
pub record IsRoot (root : Entry) : Type 0 where
  pub name : root.name ≡ []
  pub kind : root.kind ≡ kind.Dir
  pub is_dir : root.attrs.is_dir ≡ true
  pub empty : root.contents ≡ []

only_root : (entries : List (Option Entry)) (root : Entry) (n : ℕ) (e : Entry) → IsRootTable entries root → entry_at entries n ≡ Some e → (n ≡ 0) × (root ≡ e)
only_root entries root n e t at = elim (cases_eq n 0) [
  | inl here ↦
      let both : Some root ≡ Some e = sym t.first ∙ ap (entry_at entries) (sym here) ∙ at in
      let same : root ≡ e = cc in
      (here, same)
  | inr other ↦ absurd (let no : None ≡ Some e = sym (t.others n other) ∙ at in cc)
]

pub root_kept : (entries : List (Option Entry)) (root : Entry) → length entries ≡ 1024 → IsRootTable entries root → IsRoot root → IsKept entries
root_kept entries root size t is = record {
  size = size;
  root = (root, t.first, is.name, is.kind);
  names = λ n e at other. absurd (other (only_root entries root n e t at).0);
  above = λ n e at other. absurd (other (only_root entries root n e t at).0);
  paths = λ n live. elim (cases_eq n 0) [
    | inl here ↦
        subst (λ o. IsSome o)
        (sym (ap (path_up (length entries) entries) here ∙ subst (λ k. path_up k entries 0 ≡ Some []) (sym size) (root_path 1023 entries root t.first))) refl
    | inr other ↦ absurd (let no : is_some (entry_at entries n) ≡ false = ap is_some (t.others n other) in cc)
  ];
  apart = λ n m e f at there dir name. (only_root entries root n e t at).0 ∙ sym (only_root entries root m f t there).0;
  kinds =
      λ n e at. let one = (only_root entries root n e t at).1 in subst (λ (x : Entry). x.attrs.is_dir ≡ is_dir x.kind) one (is.is_dir
      ∙ sym (ap is_dir is.kind));
  space = omega (
    arith,
    sum_zero size_in entries (λ k. elim (cases_eq k 0) [
      | inl here ↦ ap (λ i. size_in (entry_at entries i)) here ∙ ap size_in t.first ∙ ap (λ (xs : List ℕ). length xs) is.empty
      | inr other ↦ ap size_in (t.others k other)
    ]),
  );
}

-- the node of the root
pub root_named : (entries : List (Option Entry)) (root : Entry) → length entries ≡ 1024 → IsRootTable entries root → IsRoot root
    → node_at (nodes_of entries) 0 ≡ Some (record { path = []; node = record_in root })
root_named entries root size t is =
    let kept = root_kept entries root size t is in
    let there = has_path entries 0 root kept t.first in
    let up : path_up (length entries) entries 0 ≡ Some [] = subst (λ k. path_up k entries 0 ≡ Some []) (sym size) (root_path 1023 entries root t.first) in
    let same : there.path ≡ [] = let both : Some there.path ≡ Some [] = sym there.up ∙ up in cc in
    there.itself ∙ ap (λ (p : List (List ℕ)). Some (record { path = p; node = record_in root })) same

nothing_else : (entries : List (Option Entry)) (root : Entry) (n : ℕ) (node : NodeAt) → length entries ≡ 1024 → IsRootTable entries root → IsRoot root
    → node_at (nodes_of entries) n ≡ Some node → (n ≡ 0) × (node.path ≡ [])
nothing_else entries root n node size t is at =
    let found = listed entries n node at in
    let here = (only_root entries root n found.entry t found.at).0 in
    let both : Some node ≡ Some (record { path = []; node = record_in root }) =
    sym at ∙ ap (node_at (nodes_of entries)) here ∙ root_named entries root size t is in
    let same : node ≡ record { path = []; node = record_in root } = cc in
    (here, ap (λ (x : NodeAt). x.path) same)

dead : (entries : List (Option Entry)) (root : Entry) (k : ℕ) → length entries ≡ 1024 → IsRootTable entries root → IsRoot root → k ≢ 0
    → node_at (nodes_of entries) k ≡ None
dead entries root k size t is other = elim (node_at (nodes_of entries) k) as (λ o. node_at (nodes_of entries) k ≡ o → o ≡ None) [
  | None ↦ λ e. refl
  | Some node ↦ λ e. absurd (other (nothing_else entries root k node size t is e).0)
] refl

sizes_zero : (entries : List (Option Entry)) (root : Entry) → IsRootTable entries root → IsRoot root → sum_by size_in entries ≡ 0
sizes_zero entries root t is = sum_zero size_in entries (λ k. elim (cases_eq k 0) [
  | inl here ↦ ap (λ i. size_in (entry_at entries i)) here ∙ ap size_in t.first ∙ ap (λ (xs : List ℕ). length xs) is.empty
  | inr other ↦ ap size_in (t.others k other)
])

-- a tree of a root alone is the map of the root
pub root_map : (entries : List (Option Entry)) (root : Entry) → length entries ≡ 1024 → IsRootTable entries root → IsRoot root
    → IsMapOf (nodes_of entries) (record { path = []; node = record_in root } ∷ [])
unfolding tree_of
root_map entries root size t is =
    let kept = root_kept entries root size t is in
    let node = root_named entries root size t is in
    let none : (k : ℕ) → cond (is_some (get_or (set (nodes_of entries) 0 None) k None)) 1 0 ≡ 0 = λ k. elim (cases_eq k 0) [
      | inl here ↦
          ap (λ i. cond (is_some (get_or (set (nodes_of entries) 0 None) i None)) 1 0) here
          ∙ ap (λ (o : Option NodeAt). cond (is_some o) 1 0)
          (get_or-set_same (nodes_of entries) 0 None None (live_within (nodes_of entries) 0 (record { path = []; node = record_in root }) node))
      | inr other ↦
          ap (λ (o : Option NodeAt). cond (is_some o) 1 0) (get_or-set_other (nodes_of entries) 0 k None None other ∙ dead entries root k size t is other)
    ] in
    record {
      there = fun_ext (λ p. elim (same_path p []) as (λ b. same_path p [] ≡ b → tree_of (nodes_of entries) p ≡ cond b (Some (record_in root)) None) [
        | true ↦
            λ e. ap (tree_of (nodes_of entries)) (path_true p [] e)
            ∙ at_its_path (nodes_of entries) 0 (record { path = []; node = record_in root }) (paths_apart entries kept) node
        | false ↦ λ e. none_there (nodes_of entries) p (λ m b at same.
            let path = (nothing_else entries root m b size t is at).1 in
            let yes : same_path p [] ≡ true = ap (λ q. same_path q []) (sym same ∙ path) in
            let wrong : true ≡ false = sym yes ∙ e in
            cc)
      ] refl);
      count =
          omega (
            arith,
            count_without (nodes_of entries) 0 (record { path = []; node = record_in root }) node,
            sum_zero (λ (o : Option NodeAt). cond (is_some o) 1 0) (set (nodes_of entries) 0 None) none,
          );
      space = space_is entries (nodes_of entries) refl kept ∙ sizes_zero entries root t is ∙ sym (ap (λ (xs : List ℕ). 0 + length xs) is.empty);
    }

-- places without a node
all_free : (size n : ℕ) → entry_at (replicate size None) n ≡ None
all_free zero n = refl
all_free (suc size) zero = refl
all_free (suc size) (suc n) = all_free size n

pub free_size : length (replicate {A = Option Entry} 1024 None) ≡ 1024
free_size = length-replicate {A = Option Entry} 1024 None

-- a table without a node that is given a root
pub first_put : (root : Entry) → IsRootTable (set (replicate 1024 None) 0 (Some root)) root
first_put root = record {
  first = get_or-set_same (replicate 1024 None) 0 (Some root) None (omega (arith, free_size));
  others = λ n other. get_or-set_other (replicate 1024 None) 0 n (Some root) None other ∙ all_free 1024 n;
}

pub root_size : (root : Entry) → length (set (replicate 1024 None) 0 (Some root)) ≡ 1024
root_size root = length-set (replicate 1024 None) 0 (Some root) ∙ free_size
