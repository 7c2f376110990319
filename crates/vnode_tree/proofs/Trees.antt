-- What is at a path, and how it changes.
use Rattle.std.proofs.Common.{◌≡◌, ◌≢◌, ℕ, zero, suc, ◌<◌, Bool, true, false, cond, ◌&&◌, List, [], ◌∷◌, length, set, Option, Some, None, option_map, refl, sym}
use Rattle.std.proofs.Common.{ap, ◌∙◌, arith, subst}
use Rattle.std.specs.Str.{bytes_eq}
use Rattle.std.proofs.lemmas.Slice.Eq.{bytes_eq-Decides}
use Rattle.tree_model.specs.Tree.{NodeRecord}
use Rattle.vnode_tree.specs.Nodes.{NodeAt, node_at, same_path, tree_of, ChangesAt}

both_true : (a b : Bool) → (a && b) ≡ true → (a ≡ true) × (b ≡ true)
both_true true b e = (refl, e)
both_true false b e = absurd cc

pub path_true : (p q : List (List ℕ)) → same_path p q ≡ true → p ≡ q
path_true [] [] e = refl
path_true [] (y ∷ ys) e = absurd cc
path_true (x ∷ xs) [] e = absurd cc
path_true (x ∷ xs) (y ∷ ys) e =
    let both = both_true (bytes_eq x y) (same_path xs ys) e in
    let head : x ≡ y = (bytes_eq-Decides x y).0 both.0 in
    let tail : xs ≡ ys = path_true xs ys both.1 in
    cc

pub path_refl : (p : List (List ℕ)) → same_path p p ≡ true
path_refl [] = refl
path_refl (x ∷ xs) = rw ((bytes_eq-Decides x x).1 refl, path_refl xs) refl

pub path_false : (p q : List (List ℕ)) → p ≢ q → same_path p q ≡ false
path_false p q apart = elim (same_path p q) as (λ b. same_path p q ≡ b → b ≡ false) [
  | true ↦ λ e. absurd (apart (path_true p q e))
  | false ↦ λ e. refl
] refl

-- no two nodes have one path
pub record ArePathsApart (nodes : List (Option NodeAt)) : Type 0 where
  pub apart : (n m : ℕ) (a b : NodeAt) → node_at nodes n ≡ Some a → node_at nodes m ≡ Some b → a.path ≡ b.path → n ≡ m

pub tail_apart : (x : Option NodeAt) (nodes : List (Option NodeAt)) → ArePathsApart (x ∷ nodes) → ArePathsApart nodes
tail_apart x nodes all = record { apart = λ n m a b at there same. let one : suc n ≡ suc m = all.apart (suc n) (suc m) a b at there same in omega arith }

-- a place may have a path: it has it or is free, and no other place has it
pub record Owns (nodes : List (Option NodeAt)) (n : ℕ) (path : List (List ℕ)) : Type 0 where
  pub here : (a : NodeAt) → node_at nodes n ≡ Some a → a.path ≡ path
  pub others : (m : ℕ) (b : NodeAt) → node_at nodes m ≡ Some b → b.path ≡ path → m ≡ n

pub none_there : (nodes : List (Option NodeAt)) (path : List (List ℕ)) → ((m : ℕ) (b : NodeAt) → node_at nodes m ≡ Some b → b.path ≢ path)
    → tree_of nodes path ≡ None
unfolding tree_of
none_there [] path none = refl
none_there (None ∷ nodes) path none = none_there nodes path (λ m. none (suc m))
none_there (Some b ∷ nodes) path none = rw (path_false path b.path (λ e. none 0 b refl (sym e))) (none_there nodes path (λ m. none (suc m)))

-- what is there is at a place
pub record FoundAt (nodes : List (Option NodeAt)) (path : List (List ℕ)) (node : NodeRecord) : Type 0 where
  pub place : ℕ
  pub itself : NodeAt
  pub at : node_at nodes place ≡ Some itself
  pub path_is : itself.path ≡ path
  pub node_is : itself.node ≡ node

pub found_at : (nodes : List (Option NodeAt)) (path : List (List ℕ)) (node : NodeRecord) → tree_of nodes path ≡ Some node → FoundAt nodes path node
unfolding tree_of
found_at [] path node e = absurd cc
found_at (None ∷ nodes) path node e =
    let rest = found_at nodes path node e in
    record { place = suc rest.place; itself = rest.itself; at = rest.at; path_is = rest.path_is; node_is = rest.node_is }
found_at (Some b ∷ nodes) path node e =
    elim (same_path path b.path) as
    (λ t. same_path path b.path ≡ t → cond t (Some b.node) (tree_of nodes path) ≡ Some node → FoundAt (Some b ∷ nodes) path node) [
      | true ↦ λ t e. record { place = 0; itself = b; at = refl; path_is = sym (path_true path b.path t); node_is = cc }
      | false ↦ λ t e.
          let rest = found_at nodes path node e in
          record { place = suc rest.place; itself = rest.itself; at = rest.at; path_is = rest.path_is; node_is = rest.node_is }
    ] refl e

some_there : (nodes : List (Option NodeAt)) (n : ℕ) (a : NodeAt) → node_at nodes n ≡ Some a → tree_of nodes a.path ≡ None → ⊥
unfolding tree_of
some_there [] n a at e = cc
some_there (None ∷ nodes) zero a at e = cc
some_there (None ∷ nodes) (suc n) a at e = some_there nodes n a at e
some_there (Some b ∷ nodes) zero a at e =
    let same : b ≡ a = cc in
    let here : cond (same_path a.path a.path) (Some b.node) (tree_of nodes a.path) ≡ None =
    subst (λ (x : NodeAt). cond (same_path a.path x.path) (Some b.node) (tree_of nodes a.path) ≡ None) same e in
    let some : Some b.node ≡ None = subst (λ t. cond t (Some b.node) (tree_of nodes a.path) ≡ None) (path_refl a.path) here in
    cc
some_there (Some b ∷ nodes) (suc n) a at e =
    elim (same_path a.path b.path) as (λ t. cond t (Some b.node) (tree_of nodes a.path) ≡ None → ⊥) [
      | true ↦ λ e. cc
      | false ↦ λ e. some_there nodes n a at e
    ] e

-- a node is what is at its path
pub at_its_path : (nodes : List (Option NodeAt)) (n : ℕ) (a : NodeAt) → ArePathsApart nodes → node_at nodes n ≡ Some a → tree_of nodes a.path ≡ Some a.node
at_its_path nodes n a apart at =
    elim (tree_of nodes a.path) as (λ o. tree_of nodes a.path ≡ o → o ≡ Some a.node) [
      | None ↦ λ e. absurd (some_there nodes n a at e)
      | Some node ↦ λ e.
          let found = found_at nodes a.path node e in
          let same : found.place ≡ n = apart.apart found.place n found.itself a found.at at found.path_is in
          let there : node_at nodes n ≡ Some found.itself = subst (λ i. node_at nodes i ≡ Some found.itself) same found.at in
          let one : found.itself ≡ a = cc in
          ap (λ (x : NodeRecord). Some x) (sym found.node_is ∙ ap (λ (x : NodeAt). x.node) one)
    ] refl

-- a path, and what is there, if anything
abbrev pub slot : List (List ℕ) → Option NodeRecord → Option NodeAt
slot path value = option_map (λ node. record { path = path; node = node }) value

tail_owns : (x : Option NodeAt) (nodes : List (Option NodeAt)) (n : ℕ) (path : List (List ℕ)) → Owns (x ∷ nodes) (suc n) path → Owns nodes n path
tail_owns x nodes n path owns = record { here = owns.here; others = λ m b at is. let same : suc m ≡ suc n = owns.others (suc m) b at is in omega arith }

swapped : {X : Type 0} (a b : Bool) (x y z : X) → (a ≡ true → b ≡ true → ⊥) → cond a x (cond b y z) ≡ cond b y (cond a x z)
swapped true true x y z apart = absurd (apart refl refl)
swapped true false x y z apart = refl
swapped false b x y z apart = refl

head_owns : (x : Option NodeAt) (nodes : List (Option NodeAt)) (path other : List (List ℕ)) → Owns (x ∷ nodes) 0 path → tree_of nodes path ≡ None
    → (value : Option NodeRecord) → cond (same_path other path) value (tree_of nodes other) ≡ cond (same_path other path) value (tree_of (x ∷ nodes) other)
unfolding tree_of
head_owns None nodes path other owns none value = refl
head_owns (Some a) nodes path other owns none value =
    let is : a.path ≡ path = owns.here a refl in
    elim (same_path other path) as
    (λ t. same_path other path ≡ t → cond t value (tree_of nodes other) ≡ cond t value (cond (same_path other a.path) (Some a.node) (tree_of nodes other))) [
      | true ↦ λ t. refl
      | false ↦ λ t. rw (is, t) refl
    ] refl

head_put : (x : Option NodeAt) (nodes : List (Option NodeAt)) (path other : List (List ℕ)) (value : Option NodeRecord) → tree_of nodes path ≡ None
    → tree_of (slot path value ∷ nodes) other ≡ cond (same_path other path) value (tree_of nodes other)
unfolding tree_of
head_put x nodes path other None none =
    elim (same_path other path) as (λ t. same_path other path ≡ t → tree_of nodes other ≡ cond t None (tree_of nodes other)) [
      | true ↦ λ t. rw (path_true other path t) none
      | false ↦ λ t. refl
    ] refl
head_put x nodes path other (Some node) none = refl

put_at : (nodes : List (Option NodeAt)) (n : ℕ) (path other : List (List ℕ)) (value : Option NodeRecord) → n < length nodes → Owns nodes n path
    → tree_of (set nodes n (slot path value)) other ≡ cond (same_path other path) value (tree_of nodes other)
unfolding tree_of
put_at [] n path other value below owns = absurd (omega arith)
put_at (x ∷ nodes) zero path other value below owns =
    let none : tree_of nodes path ≡ None = none_there nodes path (λ m b at is. let same : suc m ≡ 0 = owns.others (suc m) b at is in omega arith) in
    head_put x nodes path other value none ∙ head_owns x nodes path other owns none value
put_at (None ∷ nodes) (suc n) path other value below owns = put_at nodes n path other value (omega arith) (tail_owns None nodes n path owns)
put_at (Some a ∷ nodes) (suc n) path other value below owns =
    ap (cond (same_path other a.path) (Some a.node)) (put_at nodes n path other value (omega arith) (tail_owns (Some a) nodes n path owns))
    ∙ swapped (same_path other a.path) (same_path other path) (Some a.node) value (tree_of nodes other) (λ s t.
    let is : a.path ≡ path = sym (path_true other a.path s) ∙ path_true other path t in
    let same : 0 ≡ suc n = owns.others 0 a refl is in
    omega arith)

-- a change of a place changes what is at its path alone
pub changes_at : (nodes : List (Option NodeAt)) (n : ℕ) (path : List (List ℕ)) (value : Option NodeRecord) → n < length nodes → Owns nodes n path
    → ChangesAt path value nodes (set nodes n (slot path value))
changes_at nodes n path value below owns = record { only = λ other. put_at nodes n path other value below owns }
