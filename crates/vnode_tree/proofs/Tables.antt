-- Nodes with their paths, through a change of one place of the table.
use Rattle.std.proofs.Common.{◌≡◌, ◌≢◌, ◌⊎◌, inl, inr, ℕ, zero, suc, ◌<◌, ◌≤◌, true, false, List, [], ◌∷◌, ◌++◌, length, set, get_or, map, Option, Some, None}
use Rattle.std.proofs.Common.{refl, sym, ap, ◌∙◌, arith, subst, length-append}
use Rattle.std.specs.Prelude.{IsSome}
use Rattle.std.specs.List.{range_with_len}
use Rattle.std.proofs.lemmas.List.{get_or-set_same, get_or-set_other, ext_get_or, get_or_past, length-set}
use Rattle.std.proofs.lemmas.List.FromFn.{get_or-map-range_with_len, length-map-range_with_len}
use Rattle.std.proofs.lemmas.Bool.{cases_eq, cases_lt}
use Rattle.vnode_tree.specs.declared.entry.Entry.{Entry}
use Rattle.vnode_tree.specs.Nodes.{NodeAt, node_at}
use Rattle.vnode_tree.specs.Links.{entry_at, path_up, record_in, node_from, node_of, nodes_of}
use Rattle.vnode_tree.specs.Kept.{IsKept}
use Rattle.vnode_tree.proofs.Paths.{path_is, Has, kept_path}
use Rattle.vnode_tree.proofs.Trees.{ArePathsApart}

-- there are as many places
pub length-nodes : (entries : List (Option Entry)) → length (nodes_of entries) ≡ length entries
unfolding nodes_of
length-nodes entries = length-map-range_with_len (node_of entries) 0 (length entries)

nothing_past : (entries : List (Option Entry)) (n : ℕ) → length entries ≤ n → node_of entries n ≡ None
unfolding node_of
nothing_past entries n past = rw (get_or_past entries n None past) refl

-- a place has its node
pub named_is : (entries : List (Option Entry)) (n : ℕ) → node_at (nodes_of entries) n ≡ node_of entries n
unfolding nodes_of
named_is entries n = elim (cases_lt n (length entries)) [
  | inl below ↦ get_or-map-range_with_len (node_of entries) 0 (length entries) n n None below (omega arith)
  | inr past ↦
      get_or_past (map (node_of entries) (range_with_len 0 (length entries))) n None
      (omega (arith, length-map-range_with_len (node_of entries) 0 (length entries), past))
      ∙ sym (nothing_past entries n past)
]

-- an entry with its path
pub record HasPath (entries : List (Option Entry)) (n : ℕ) (entry : Entry) : Type 0 where
  pub path : List (List ℕ)
  pub up : path_up (length entries) entries n ≡ Some path
  pub itself : node_at (nodes_of entries) n ≡ Some (record { path = path; node = record_in entry })

pub has_path : (entries : List (Option Entry)) (n : ℕ) (entry : Entry) → IsKept entries → entry_at entries n ≡ Some entry → HasPath entries n entry
unfolding node_of
has_path entries n entry kept at =
    let live : IsSome (entry_at entries n) = subst (λ o. IsSome o) (sym at) refl in
    elim (path_up (length entries) entries n) as (λ o. path_up (length entries) entries n ≡ o → IsSome o → HasPath entries n entry) [
      | None ↦ λ up some. absurd (let no : false ≡ true = some in cc)
      | Some path ↦ λ up some.
          let whole : node_of entries n ≡ Some (record { path = path; node = record_in entry }) = rw (at, up) refl in
          record { path = path; up = up; itself = named_is entries n ∙ whole }
    ] refl (kept.paths n live)

-- a node of a number is an entry
pub record EntryOf (entries : List (Option Entry)) (n : ℕ) (node : NodeAt) : Type 0 where
  pub entry : Entry
  pub at : entry_at entries n ≡ Some entry
  pub up : path_up (length entries) entries n ≡ Some node.path
  pub record_is : record_in entry ≡ node.node

pub listed : (entries : List (Option Entry)) (n : ℕ) (node : NodeAt) → node_at (nodes_of entries) n ≡ Some node → EntryOf entries n node
unfolding node_of
listed entries n node at =
    elim (entry_at entries n) as (λ o. entry_at entries n ≡ o → node_from o (path_up (length entries) entries n) ≡ Some node → EntryOf entries n node) [
      | None ↦ λ is e. absurd cc
      | Some entry ↦ λ is e.
          elim (path_up (length entries) entries n) as
          (λ o. path_up (length entries) entries n ≡ o → node_from (Some entry) o ≡ Some node → EntryOf entries n node) [
            | None ↦ λ up e. absurd cc
            | Some path ↦ λ up e.
                let same : record { path = path; node = record_in entry } ≡ node = cc in
                record { entry = entry; at = is; up = up ∙ ap (λ (x : NodeAt). Some x.path) same; record_is = ap (λ (x : NodeAt). x.node) same }
          ] refl e
    ] refl (sym (named_is entries n) ∙ at)

pub snoc_same : (p q : List (List ℕ)) (x y : List ℕ) → p ++ x ∷ [] ≡ q ++ y ∷ [] → (p ≡ q) × (x ≡ y)
snoc_same [] [] x y e = let both : x ≡ y = cc in (refl, both)
snoc_same [] (b ∷ q) x y e = let tail : [] ≡ q ++ y ∷ [] = cc in absurd (omega (arith, ap length tail, length-append q (y ∷ [])))
snoc_same (a ∷ p) [] x y e = let tail : p ++ x ∷ [] ≡ [] = cc in absurd (omega (arith, ap length tail, length-append p (x ∷ [])))
snoc_same (a ∷ p) (b ∷ q) x y e =
    let head : a ≡ b = cc in
    let tail : p ++ x ∷ [] ≡ q ++ y ∷ [] = cc in
    let rest = snoc_same p q x y tail in
    let front : a ∷ p ≡ b ∷ q = cc (head, rest.0) in
    (front, rest.1)

-- two nodes of one path are one
pub one_node : (k j : ℕ) (entries : List (Option Entry)) (n m : ℕ) (p : List (List ℕ)) → IsKept entries → path_up k entries n ≡ Some p
    → path_up j entries m ≡ Some p → n ≡ m
unfolding path_up
one_node zero j entries n m p kept e f = absurd cc
one_node (suc k) j entries n m p kept e f = elim (path_is (suc k) entries n p e) [
  | inl root ↦ elim (path_is j entries m p f) [
    | inl other ↦ root.here ∙ sym other.here
    | inr below ↦ absurd (omega (arith, ap length (sym root.whole ∙ below.whole), length-append below.above ((below.entry).name ∷ [])))
  ]
  | inr below ↦ elim (path_is j entries m p f) [
    | inl other ↦ absurd (omega (arith, ap length (sym other.whole ∙ below.whole), length-append below.above ((below.entry).name ∷ [])))
    | inr other ↦
        let same = snoc_same below.above other.above (below.entry).name (other.entry).name (sym below.whole ∙ other.whole) in
        let up : path_up k entries (below.entry).dir ≡ Some below.above =
        subst (λ i. path_up i entries (below.entry).dir ≡ Some below.above) (omega (arith, below.enough)) below.up in
        let there : path_up other.more entries (other.entry).dir ≡ Some below.above = other.up ∙ ap (λ (q : List (List ℕ)). Some q) (sym same.0) in
        kept.apart n m below.entry other.entry below.at other.at (one_node k other.more entries (below.entry).dir (other.entry).dir below.above kept up there)
        same.1
  ]
]

pub paths_apart : (entries : List (Option Entry)) → IsKept entries → ArePathsApart (nodes_of entries)
paths_apart entries kept = record {
  apart = λ n m a b at there same.
      let one = listed entries n a at in
      let two = listed entries m b there in
      one_node (length entries) (length entries) entries n m a.path kept one.up (two.up ∙ ap (λ (q : List (List ℕ)). Some q) (sym same));
}

-- nodes after a change of one place
pub nodes_after : (entries others : List (Option Entry)) (n : ℕ) (x : Option NodeAt) → length others ≡ length entries → n < length entries
    → node_of others n ≡ x → ((m : ℕ) → m ≢ n → node_of others m ≡ node_of entries m) → nodes_of others ≡ set (nodes_of entries) n x
nodes_after entries others n x size below here same =
    ext_get_or None (nodes_of others) (set (nodes_of entries) n x) (length-nodes others ∙ size ∙ sym (length-set (nodes_of entries) n x ∙ length-nodes entries))
    (λ m inside.
    elim (cases_eq m n) [
      | inl is ↦
          ap (node_at (nodes_of others)) is ∙ named_is others n ∙ here
          ∙ sym (ap (λ i. get_or (set (nodes_of entries) n x) i None) is ∙ get_or-set_same (nodes_of entries) n x None (omega (arith, length-nodes entries)))
      | inr other ↦ named_is others m ∙ same m other ∙ sym (named_is entries m) ∙ sym (get_or-set_other (nodes_of entries) n m x None other)
    ])

-- a place that has not changed keeps its node
pub named_stays : (P : ℕ → Type 0) (entries others : List (Option Entry)) (m : ℕ) → IsKept entries → length others ≡ length entries → Has P entries others
    → ((entry : Entry) → entry_at entries m ≡ Some entry → P m) → entry_at others m ≡ entry_at entries m → node_of others m ≡ node_of entries m
unfolding node_of
named_stays P entries others m kept size has in_p same =
    elim (entry_at entries m) as (λ o. entry_at entries m ≡ o → node_of others m ≡ node_of entries m) [
      | None ↦ λ at. let there : entry_at others m ≡ None = same ∙ at in rw (at, there) refl
      | Some entry ↦ λ at.
          let there : entry_at others m ≡ Some entry = same ∙ at in
          let is = has_path entries m entry kept at in
          let up : path_up (length others) others m ≡ Some is.path =
          subst (λ k. path_up k others m ≡ Some is.path) (sym size) (kept_path P (length entries) entries others m is.path has (in_p entry at) is.up) in
          rw (at, there, up, is.up) refl
    ] refl

-- what stands in a place after a change
pub after_set : {X : Type 0} (xs : List (Option X)) (n i : ℕ) (x : Option X) (y : X) → n < length xs → get_or (set xs n x) i None ≡ Some y
    → ((i ≡ n) × (x ≡ Some y)) ⊎ ((i ≢ n) × (get_or xs i None ≡ Some y))
after_set xs n i x y below at = elim (cases_eq i n) [
  | inl same ↦ inl (same, sym (get_or-set_same xs n x None below) ∙ ap (λ j. get_or (set xs n x) j None) (sym same) ∙ at)
  | inr other ↦ inr (other, sym (get_or-set_other xs n i x None other) ∙ at)
]
