-- Paths, found from directory to directory.
use Rattle.std.proofs.Common.{◌≡◌, ◌≢◌, ◌⊎◌, inl, inr, ℕ, zero, suc, ◌+◌, ◌≤◌, List, [], ◌∷◌, ◌++◌, length, Option, Some, None, option_map, refl, sym, arith}
use Rattle.std.proofs.Common.{subst, length-append}
use Rattle.std.proofs.lemmas.Bool.{cases_eq}
use Rattle.vnode_tree.specs.declared.entry.Entry.{Entry}
use Rattle.vnode_tree.specs.Links.{entry_at, path_above, dir_in, path_up}

-- a path that ends at the root
pub record AtRoot (entries : List (Option Entry)) (number : ℕ) (path : List (List ℕ)) : Type 0 where
  pub entry : Entry
  pub at : entry_at entries number ≡ Some entry
  pub here : number ≡ 0
  pub whole : path ≡ []

-- a path that goes on at the directory
pub record Below (fuel : ℕ) (entries : List (Option Entry)) (number : ℕ) (path : List (List ℕ)) : Type 0 where
  pub entry : Entry
  pub more : ℕ
  pub above : List (List ℕ)
  pub at : entry_at entries number ≡ Some entry
  pub other : number ≢ 0
  pub enough : fuel ≡ suc more
  pub up : path_up more entries entry.dir ≡ Some above
  pub whole : path ≡ above ++ entry.name ∷ []

map_is : (name : List ℕ) (a : Option (List (List ℕ))) (p : List (List ℕ)) → option_map (λ path. path ++ name ∷ []) a ≡ Some p
    → (q : List (List ℕ)) × (a ≡ Some q) × (p ≡ q ++ name ∷ [])
map_is name None p e = absurd cc
map_is name (Some q) p e = let same : q ++ name ∷ [] ≡ p = cc in (q, refl, sym same)

above_is : (k : ℕ) (entries : List (Option Entry)) (n : ℕ) (p : List (List ℕ)) (entry : Entry) → entry_at entries n ≡ Some entry
    → path_above (Some entry) n (path_up k entries entry.dir) ≡ Some p → AtRoot entries n p ⊎ Below (suc k) entries n p
above_is k entries n p entry at e = elim (cases_eq n 0) [
  | inl here ↦
      inl
      (record {
        entry = entry;
        at = at;
        here = here;
        whole =
            (let root : path_above (Some entry) 0 (path_up k entries entry.dir) ≡ Some p =
            subst (λ i. path_above (Some entry) i (path_up k entries entry.dir) ≡ Some p) here e in
            cc);
      })
  | inr other ↦
      let found = map_is entry.name (path_up k entries entry.dir) p (grind (arith, e, other)) in
      inr (record { entry = entry; more = k; above = found.0; at = at; other = other; enough = refl; up = found.1; whole = found.2 })
]

pub path_is : (k : ℕ) (entries : List (Option Entry)) (n : ℕ) (p : List (List ℕ)) → path_up k entries n ≡ Some p → AtRoot entries n p ⊎ Below k entries n p
unfolding path_up
path_is zero entries n p e = absurd cc
path_is (suc k) entries n p e =
    elim (entry_at entries n) as
    (λ o. entry_at entries n ≡ o → path_above o n (path_up k entries (dir_in o)) ≡ Some p → AtRoot entries n p ⊎ Below (suc k) entries n p) [
      | None ↦ λ at e. absurd cc
      | Some entry ↦ λ at e. above_is k entries n p entry at e
    ] refl e

pub root_path : (k : ℕ) (entries : List (Option Entry)) (entry : Entry) → entry_at entries 0 ≡ Some entry → path_up (suc k) entries 0 ≡ Some []
unfolding path_up
root_path k entries entry at = rw at refl

pub below_path : (k : ℕ) (entries : List (Option Entry)) (n : ℕ) (entry : Entry) (above : List (List ℕ)) → n ≢ 0 → entry_at entries n ≡ Some entry
    → path_up k entries entry.dir ≡ Some above → path_up (suc k) entries n ≡ Some (above ++ entry.name ∷ [])
unfolding path_up
below_path k entries n entry above other at up = rw (at, up) (grind (arith, other))

pub more_fuel : (k : ℕ) (entries : List (Option Entry)) (n : ℕ) (p : List (List ℕ)) → path_up k entries n ≡ Some p → path_up (suc k) entries n ≡ Some p
unfolding path_up
more_fuel zero entries n p e = absurd cc
more_fuel (suc k) entries n p e = elim (path_is (suc k) entries n p e) [
  | inl root ↦ rw (root.here, root.whole) (root_path (suc k) entries root.entry (subst (λ i. entry_at entries i ≡ Some root.entry) root.here root.at))
  | inr below ↦
      let up : path_up k entries (below.entry).dir ≡ Some below.above =
      subst (λ j. path_up j entries (below.entry).dir ≡ Some below.above) (omega (arith, below.enough)) below.up in
      rw below.whole (below_path (suc k) entries n below.entry below.above below.other below.at (more_fuel k entries (below.entry).dir below.above up))
]

pub enough_fuel : (m k : ℕ) (entries : List (Option Entry)) (n : ℕ) (p : List (List ℕ)) → k ≤ m → path_up k entries n ≡ Some p → path_up m entries n ≡ Some p
enough_fuel zero k entries n p below e = subst (λ j. path_up j entries n ≡ Some p) (omega arith) e
enough_fuel (suc m) k entries n p below e = elim (cases_eq k (suc m)) [
  | inl same ↦ subst (λ j. path_up j entries n ≡ Some p) same e
  | inr other ↦ more_fuel m entries n p (enough_fuel m k entries n p (omega (arith, other)) e)
]

-- a node has one path
pub same_node_path : (k m : ℕ) (entries : List (Option Entry)) (n : ℕ) (p q : List (List ℕ)) → path_up k entries n ≡ Some p → path_up m entries n ≡ Some q
    → p ≡ q
same_node_path k m entries n p q e f =
    let one = enough_fuel (k + m) k entries n p (omega arith) e in
    let two = enough_fuel (k + m) m entries n q (omega arith) f in
    cc

-- the length of the path is fuel enough
pub exact_fuel : (k : ℕ) (entries : List (Option Entry)) (n : ℕ) (p : List (List ℕ)) → path_up k entries n ≡ Some p
    → path_up (suc (length p)) entries n ≡ Some p
unfolding path_up
exact_fuel zero entries n p e = absurd cc
exact_fuel (suc k) entries n p e = elim (path_is (suc k) entries n p e) [
  | inl root ↦ rw (root.here, root.whole) (root_path 0 entries root.entry (subst (λ i. entry_at entries i ≡ Some root.entry) root.here root.at))
  | inr below ↦
      let up : path_up k entries (below.entry).dir ≡ Some below.above =
      subst (λ j. path_up j entries (below.entry).dir ≡ Some below.above) (omega (arith, below.enough)) below.up in
      let rest = exact_fuel k entries (below.entry).dir below.above up in
      let all = below_path (suc (length below.above)) entries n below.entry below.above below.other below.at rest in
      let long : suc (suc (length below.above)) ≡ suc (length (below.above ++ (below.entry).name ∷ [])) =
      omega (arith, length-append below.above ((below.entry).name ∷ [])) in
      let whole : path_up (suc (length (below.above ++ (below.entry).name ∷ []))) entries n ≡ Some (below.above ++ (below.entry).name ∷ []) =
      subst (λ j. path_up j entries n ≡ Some (below.above ++ (below.entry).name ∷ [])) long all in
      subst (λ q. path_up (suc (length q)) entries n ≡ Some q) (sym below.whole) whole
]

-- among the nodes of P, the other table has each that this one has, in the same place
pub record Has (P : ℕ → Type 0) (entries others : List (Option Entry)) : Type 0 where
  pub links : (n : ℕ) (entry : Entry) → P n → entry_at entries n ≡ Some entry
      → (like : Entry) × (entry_at others n ≡ Some like) × (like.dir ≡ entry.dir) × (like.name ≡ entry.name)
  pub up : (n : ℕ) (entry : Entry) → P n → entry_at entries n ≡ Some entry → n ≢ 0 → P entry.dir

pub kept_path : (P : ℕ → Type 0) (k : ℕ) (entries others : List (Option Entry)) (n : ℕ) (p : List (List ℕ)) → Has P entries others → P n
    → path_up k entries n ≡ Some p → path_up k others n ≡ Some p
unfolding path_up
kept_path P zero entries others n p has in_p e = absurd cc
kept_path P (suc k) entries others n p has in_p e = elim (path_is (suc k) entries n p e) [
  | inl root ↦
      let like = has.links n root.entry in_p root.at in
      rw (root.here, root.whole) (root_path k others like.0 (subst (λ i. entry_at others i ≡ Some like.0) root.here like.1))
  | inr below ↦
      let like = has.links n below.entry in_p below.at in
      let up : path_up k entries (below.entry).dir ≡ Some below.above =
      subst (λ j. path_up j entries (below.entry).dir ≡ Some below.above) (omega (arith, below.enough)) below.up in
      let rest = kept_path P k entries others (below.entry).dir below.above has (has.up n below.entry in_p below.at below.other) up in
      let there : path_up k others (like.0).dir ≡ Some below.above = subst (λ d. path_up k others d ≡ Some below.above) (sym like.2) rest in
      rw (below.whole, ← like.3) (below_path k others n like.0 below.above below.other like.1 there)
]
