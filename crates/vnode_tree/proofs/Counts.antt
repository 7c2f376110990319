-- A path is shorter than the number of nodes.
use Rattle.std.proofs.Common.{◌≡◌, ◌≢◌, inl, inr, ℕ, zero, suc, ◌+◌, ◌<◌, ◌≤◌, List, [], ◌∷◌, length, set, get_or, cond, Option, Some, None, refl, sym, ap, ◌∙◌}
use Rattle.std.proofs.Common.{arith, subst, length-append}
use Rattle.std.specs.Prelude.{is_some, count_by, sum_by}
use Rattle.std.proofs.lemmas.List.{get_or-set_other}
use Rattle.std.proofs.lemmas.List.Sums.{sum_by-set, sum_by-cons, count_by-le-length}
use Rattle.vnode_tree.specs.declared.entry.Entry.{Entry}
use Rattle.vnode_tree.specs.Links.{path_up}
use Rattle.vnode_tree.proofs.Paths.{path_is, Has, kept_path, same_node_path}

-- a node stands within the table
pub live_within : {X : Type 0} (xs : List (Option X)) (n : ℕ) (x : X) → get_or xs n None ≡ Some x → n < length xs
live_within [] n x at = absurd cc
live_within (y ∷ xs) zero x at = omega arith
live_within (y ∷ xs) (suc n) x at = omega (arith, live_within xs n x at)

-- a table without one of its nodes has one node less
pub count_without : {X : Type 0} (xs : List (Option X)) (n : ℕ) (x : X) → get_or xs n None ≡ Some x → count_by is_some (set xs n None) + 1 ≡ count_by is_some xs
count_without {X} xs n x at =
    let f : Option X → ℕ = λ o. cond (is_some o) 1 0 in
    let all : sum_by f (set xs n None) + f (get_or xs n None) ≡ sum_by f xs + f None = sum_by-set f xs n None None (live_within xs n x at) in
    let one : f (get_or xs n None) ≡ 1 = ap f at in
    omega (arith, all, one)

pub at_most_one : {X : Type 0} (x : Option X) → cond (is_some x) 1 0 ≤ 1
at_most_one None = omega arith
at_most_one (Some x) = omega arith

-- with one free place there are fewer nodes than places
pub count_with_free : {X : Type 0} (xs : List (Option X)) (n : ℕ) → n < length xs → get_or xs n None ≡ None → count_by is_some xs < length xs
count_with_free [] n below free = omega arith
count_with_free {X} (x ∷ xs) zero below free =
    let one : ◌≡◌ {A = ℕ} (cond (is_some {T = X} x) 1 0) 0 = ap (λ o. cond (is_some {T = X} o) 1 0) free in
    omega (arith, sum_by-cons (λ o. cond (is_some {T = X} o) 1 0) x xs, one, count_by-le-length (is_some {T = X}) xs)
count_with_free {X} (x ∷ xs) (suc n) below free =
    omega (arith, sum_by-cons (λ o. cond (is_some {T = X} o) 1 0) x xs, at_most_one x, count_with_free xs n (omega arith) free)

-- the node has a path no longer than this
record Within (entries : List (Option Entry)) (most : ℕ) (n : ℕ) : Type 0 where
  fuel : ℕ
  whole : List (List ℕ)
  up : path_up fuel entries n ≡ Some whole
  short : length whole ≤ most

-- without a node the shorter paths stay
has_without : (entries : List (Option Entry)) (n most : ℕ) → ((w : Within entries most n) → ⊥) → Has (Within entries most) entries (set entries n None)
has_without entries n most long = record {
  links = λ i entry w at.
      let other : i ≢ n = λ same. long (subst (Within entries most) same w) in
      (entry, get_or-set_other entries n i None None other ∙ at, refl, refl);
  up = λ i entry w at other. elim (path_is w.fuel entries i w.whole w.up) [
    | inl root ↦ absurd (other root.here)
    | inr below ↦
        let same : below.entry ≡ entry = let both : Some below.entry ≡ Some entry = sym below.at ∙ at in cc in
        record {
          fuel = below.more;
          whole = below.above;
          up = subst (λ (e : Entry). path_up below.more entries e.dir ≡ Some below.above) same below.up;
          short = omega (arith, w.short, ap length below.whole, length-append below.above ((below.entry).name ∷ []));
        }
  ];
}

-- a path of a node is shorter than the number of nodes
pub path_counts : (deep : ℕ) (entries : List (Option Entry)) (k n : ℕ) (p : List (List ℕ)) → length p ≡ deep → path_up k entries n ≡ Some p
    → length p < count_by is_some entries
path_counts zero entries k n p deep e = elim (path_is k entries n p e) [
  | inl root ↦ omega (arith, count_without entries n root.entry root.at, deep)
  | inr below ↦ omega (arith, count_without entries n below.entry below.at, deep)
]
path_counts (suc deep) entries k n p is e = elim (path_is k entries n p e) [
  | inl root ↦ absurd (omega (arith, ap length root.whole, is))
  | inr below ↦
      let size : length below.above ≡ deep = omega (arith, ap length below.whole, length-append below.above ((below.entry).name ∷ []), is) in
      let long : (w : Within entries deep n) → ⊥ =
      λ w. let same : w.whole ≡ p = same_node_path w.fuel k entries n w.whole p w.up e in omega (arith, w.short, ap length same, is) in
      let here : Within entries deep (below.entry).dir = record { fuel = below.more; whole = below.above; up = below.up; short = omega (arith, size) } in
      let up : path_up below.more (set entries n None) (below.entry).dir ≡ Some below.above =
      kept_path (Within entries deep) below.more entries (set entries n None) (below.entry).dir below.above (has_without entries n deep long) here below.up
      in
      omega (
        arith,
        path_counts deep (set entries n None) below.more (below.entry).dir below.above size up,
        count_without entries n below.entry below.at,
        size,
        is,
      )
]
