-- What the names of a directory are, and what their text holds.
use Rattle.std.proofs.Common.{◌≡◌, ◌⊎◌, inl, inr, ℕ, zero, suc, ◌+◌, ◌<◌, ◌≤◌, true, false, cond, List, [], ◌∷◌, ◌++◌, length, take, drop, get_or, Option, Some}
use Rattle.std.proofs.Common.{None, refl, sym, ap, ◌∙◌, arith, subst, add-one}
use Rattle.std.specs.Prelude.{IsSome, nat_lt}
use Rattle.std.specs.Str.{bytes_eq}
use Rattle.std.specs.List.{Contains, cons_option}
use Rattle.std.specs.List.Sorted.{IsPermutation}
use Rattle.std.proofs.lemmas.Bool.{cases_Bool, cases_lt, ltb-true, ltb-false, not-true, not-false}
use Rattle.std.proofs.lemmas.Slice.Eq.{bytes_eq-Decides}
use Rattle.std.proofs.lemmas.List.{drop_all}
use Rattle.std.proofs.lemmas.List.Sorted.{Contains-permutation, IsPermutation-sym}
use Rattle.std.proofs.Math.Seq.{take-suc}
use Rattle.vnode_tree.specs.Nodes.{NodeAt, path_of, same_path, tree_of}
use Rattle.vnode_tree.specs.Names.{name_after, names_below, paths_of, in_order, names_in, join_names, fits, most_that_fit, names_text, AreBelow, Rise, IsMostOf}
use Rattle.vnode_tree.proofs.Trees.{path_true, path_refl, ArePathsApart, tail_apart, found_at}
use Rattle.vnode_tree.proofs.NamesOrder.{times, times_permutation, in_order_permutes, in_order_ascends, ascends_rises, ascends_same, rises_ascend, rises_once}
use Rattle.vnode_tree.proofs.NamesBelow.{after_of, after_is}
use Rattle.vnode_tree.proofs.NamesText.{next_is}

-- ---- a name in a list

abbrev pub In : List ℕ → List (List ℕ) → Type 0
In z [] = ⊥
In z (x ∷ xs) = (x ≡ z) ⊎ In z xs

pub in_from_contains : (z : List ℕ) (xs : List (List ℕ)) (k : ℕ) → k < length xs → get_or xs k z ≡ z → In z xs
in_from_contains z [] k below here = absurd (omega arith)
in_from_contains z (x ∷ xs) zero below here = inl here
in_from_contains z (x ∷ xs) (suc k) below here = inr (in_from_contains z xs k (omega arith) here)

pub contains_from_in : (z : List ℕ) (xs : List (List ℕ)) → In z xs → Contains xs z
contains_from_in z [] i = absurd i
contains_from_in z (x ∷ xs) i = elim i [
  | inl here ↦ (0, omega arith, here)
  | inr there ↦ let c = contains_from_in z xs there in (suc c.0, omega (arith, c.1), c.2)
]

in_from_times : (z : List ℕ) (xs : List (List ℕ)) → 0 < times z xs → In z xs
in_from_times z [] some = absurd (omega arith)
in_from_times z (x ∷ xs) some = elim (cases_Bool (bytes_eq z x)) [
  | inl same ↦ inl (sym ((bytes_eq-Decides z x).0 same))
  | inr other ↦ let rest : 0 < 0 + times z xs = rw other at some in inr (in_from_times z xs (omega arith))
]

pub in_rest : (z : List ℕ) (o : Option (List ℕ)) (xs : List (List ℕ)) → In z xs → In z (cons_option o xs)
in_rest z None xs i = i
in_rest z (Some x) xs i = inr i

-- ---- the names below a path lead to nodes

there_from_in : (nodes : List (Option NodeAt)) (dir : List (List ℕ)) (name : List ℕ) → In name (names_below (paths_of nodes) dir)
    → IsSome (tree_of nodes (dir ++ name ∷ []))
unfolding tree_of
there_from_in [] dir name i = absurd i
there_from_in (None ∷ nodes) dir name i = there_from_in nodes dir name i
there_from_in (Some a ∷ nodes) dir name i =
    elim (same_path (dir ++ name ∷ []) a.path) as
    (λ t. same_path (dir ++ name ∷ []) a.path ≡ t → IsSome (cond t (Some a.node) (tree_of nodes (dir ++ name ∷ [])))) [
      | true ↦ λ t. refl
      | false ↦ λ t. there_from_in nodes dir name (
          elim (name_after dir a.path) as
          (λ o. name_after dir a.path ≡ o → In name (cons_option o (names_below (paths_of nodes) dir)) → In name (names_below (paths_of nodes) dir)) [
            | None ↦ λ e i. i
            | Some x ↦ λ e i. elim i [
              | inl here ↦
                  let whole : a.path ≡ dir ++ name ∷ [] = after_is dir a.path name (e ∙ ap (λ (y : List ℕ). Some y) here) in
                  absurd (let no : true ≡ false = sym (path_refl (dir ++ name ∷ [])) ∙ ap (same_path (dir ++ name ∷ [])) (sym whole) ∙ t in cc)
              | inr rest ↦ rest
            ]
          ] refl i)
    ] refl

in_from_there : (nodes : List (Option NodeAt)) (dir : List (List ℕ)) (name : List ℕ) → IsSome (tree_of nodes (dir ++ name ∷ []))
    → In name (names_below (paths_of nodes) dir)
unfolding tree_of
in_from_there [] dir name some = absurd (let no : false ≡ true = some in cc)
in_from_there (None ∷ nodes) dir name some = in_from_there nodes dir name some
in_from_there (Some a ∷ nodes) dir name some =
    elim (same_path (dir ++ name ∷ []) a.path) as
    (λ t. same_path (dir ++ name ∷ []) a.path ≡ t → IsSome (cond t (Some a.node) (tree_of nodes (dir ++ name ∷ [])))
    → In name (cons_option (name_after dir a.path) (names_below (paths_of nodes) dir))) [
      | true ↦ λ t some.
          let is : name_after dir a.path ≡ Some name = ap (name_after dir) (sym (path_true (dir ++ name ∷ []) a.path t)) ∙ after_of dir name in
          rw is (inl refl)
      | false ↦ λ t some. in_rest name (name_after dir a.path) (names_below (paths_of nodes) dir) (in_from_there nodes dir name some)
    ] refl some

pub are_below : (nodes : List (Option NodeAt)) (dir : ℕ) → AreBelow nodes (path_of nodes dir) (names_in nodes dir)
unfolding names_in
are_below nodes dir name =
    let names : List (List ℕ) = names_below (paths_of nodes) (path_of nodes dir) in
    let moved : IsPermutation names (in_order names) = in_order_permutes names in (
      λ has. let c =
          Contains-permutation (in_order names) names name (IsPermutation-sym names (in_order names) moved) has in there_from_in nodes (path_of nodes dir) name
          (in_from_contains name names c.0 c.1 c.2),
      λ some. Contains-permutation names (in_order names) name moved (contains_from_in name names (in_from_there nodes (path_of nodes dir) name some)),
    )

-- ---- no name stands twice

once_below : (nodes : List (Option NodeAt)) (dir : List (List ℕ)) (z : List ℕ) → ArePathsApart nodes → times z (names_below (paths_of nodes) dir) ≤ 1
once_below [] dir z all = omega arith
once_below (None ∷ nodes) dir z all = once_below nodes dir z (tail_apart None nodes all)
once_below (Some a ∷ nodes) dir z all =
    elim (name_after dir a.path) as (λ o. name_after dir a.path ≡ o → times z (cons_option o (names_below (paths_of nodes) dir)) ≤ 1) [
      | None ↦ λ e. once_below nodes dir z (tail_apart (Some a) nodes all)
      | Some x ↦ λ e. once_with nodes dir z a x all e (once_below nodes dir z (tail_apart (Some a) nodes all))
    ] refl
  where
    found_twice : (nodes : List (Option NodeAt)) (dir : List (List ℕ)) (z : List ℕ) (a : NodeAt) → ArePathsApart (Some a ∷ nodes) → a.path ≡ dir ++ z ∷ []
        → IsSome (tree_of nodes (dir ++ z ∷ [])) → ⊥
    found_twice nodes dir z a all whole some =
        elim (tree_of nodes (dir ++ z ∷ [])) as (λ o. tree_of nodes (dir ++ z ∷ []) ≡ o → IsSome o → ⊥) [
          | None ↦ λ e some. absurd (let no : false ≡ true = some in cc)
          | Some node ↦ λ e some.
              let other = found_at nodes (dir ++ z ∷ []) node e in
              let one : suc other.place ≡ 0 = all.apart (suc other.place) 0 other.itself a other.at refl (other.path_is ∙ sym whole) in
              absurd (omega arith)
        ] refl some

    once_with : (nodes : List (Option NodeAt)) (dir : List (List ℕ)) (z : List ℕ) (a : NodeAt) (x : List ℕ) → ArePathsApart (Some a ∷ nodes)
        → name_after dir a.path ≡ Some x → times z (names_below (paths_of nodes) dir) ≤ 1 → times z (x ∷ names_below (paths_of nodes) dir) ≤ 1
    once_with nodes dir z a x all e rest = elim (cases_Bool (bytes_eq z x)) [
      | inl same ↦ elim (cases_lt 0 (times z (names_below (paths_of nodes) dir))) [
        | inl more ↦
            let whole : a.path ≡ dir ++ z ∷ [] = after_is dir a.path z (e ∙ ap (λ (y : List ℕ). Some y) (sym ((bytes_eq-Decides z x).0 same))) in
            absurd (found_twice nodes dir z a all whole (there_from_in nodes dir z (in_from_times z (names_below (paths_of nodes) dir) more)))
        | inr none ↦ rw same (omega arith)
      ]
      | inr other ↦ rw other (omega arith)
    ]

pub they_rise : (nodes : List (Option NodeAt)) (dir : ℕ) → ArePathsApart nodes → Rise (names_in nodes dir)
unfolding names_in
they_rise nodes dir all =
    let names : List (List ℕ) = names_below (paths_of nodes) (path_of nodes dir) in
    ascends_rises (in_order names) (in_order_ascends names)
    (λ z. omega (arith, times_permutation z names (in_order names) (in_order_permutes names), once_below nodes (path_of nodes dir) z all))

-- ---- and no other list does both

times_from_in : (z : List ℕ) (xs : List (List ℕ)) → In z xs → 0 < times z xs
times_from_in z [] i = absurd i
times_from_in z (x ∷ xs) i = elim i [
  | inl here ↦ rw ((bytes_eq-Decides z x).1 (sym here)) (omega arith)
  | inr there ↦ omega (arith, times_from_in z xs there)
]

at_least : (z : List ℕ) (xs ys : List (List ℕ)) → (Contains xs z → Contains ys z) → times z xs ≤ 1 → times z xs ≤ times z ys
at_least z xs ys has once = elim (cases_lt 0 (times z xs)) [
  | inl some ↦
      let c = has (contains_from_in z xs (in_from_times z xs some)) in
      omega (arith, once, times_from_in z ys (in_from_contains z ys c.0 c.1 c.2))
  | inr none ↦ omega arith
]

pub only_names : (nodes : List (Option NodeAt)) (dir : ℕ) (names : List (List ℕ)) → ArePathsApart nodes → AreBelow nodes (path_of nodes dir) names → Rise names
    → names ≡ names_in nodes dir
only_names nodes dir names all below up =
    let theirs = they_rise nodes dir all in
    let whole : AreBelow nodes (path_of nodes dir) (names_in nodes dir) = are_below nodes dir in
    ascends_same names (names_in nodes dir) (rises_ascend names up) (rises_ascend (names_in nodes dir) theirs) (λ z. omega (
      arith,
      at_least z names (names_in nodes dir) (λ c. (whole z).1 ((below z).0 c)) (rises_once names up z),
      at_least z (names_in nodes dir) names (λ c. (below z).1 ((whole z).0 c)) (rises_once (names_in nodes dir) theirs z),
    ))

-- ---- a text holds the most names that fit

it_fits : (names : List (List ℕ)) → fits names ≡ true → length (join_names names) ≤ 4096
it_fits names e = ltb-false 4096 (length (join_names names)) (not-true (nat_lt 4096 (length (join_names names))) e)

too_long : (names : List (List ℕ)) → fits names ≡ false → 4096 < length (join_names names)
too_long names e = ltb-true 4096 (length (join_names names)) (not-false (nat_lt 4096 (length (join_names names))) e)

most_from : (names : List (List ℕ)) (left count : ℕ) → count + left ≡ length names → fits (take count names) ≡ true
    → IsMostOf names (join_names (most_that_fit (take count names) (drop count names)))
unfolding most_that_fit
most_from names zero count all fit =
    rw (drop_all count names (omega (arith, all)))
    (record { count = count; within = omega (arith, all); whole = refl; fit = it_fits (take count names) fit; most = λ below. absurd (omega (arith, all)) })
most_from names (suc left) count all fit =
    let below : count < length names = omega (arith, all) in
    let more : take (suc count) names ≡ take count names ++ get_or names count [] ∷ [] = take-suc names count [] below in
    elim (cases_Bool (fits (take count names ++ get_or names count [] ∷ []))) [
      | inl fit_too ↦
          let step : most_that_fit (take count names) (drop count names) ≡ most_that_fit (take (suc count) names) (drop (suc count) names) =
          next_is names count below
          ∙ ap (λ b. cond b (most_that_fit (take count names ++ get_or names count [] ∷ []) (drop (suc count) names)) (take count names)) fit_too
          ∙ ap (λ l. most_that_fit l (drop (suc count) names)) (sym more) in
          subst (λ l. IsMostOf names (join_names l)) (sym step) (most_from names left (suc count) (omega (arith, all)) (ap fits more ∙ fit_too))
      | inr full ↦
          let step : most_that_fit (take count names) (drop count names) ≡ take count names =
          next_is names count below
          ∙ ap (λ b. cond b (most_that_fit (take count names ++ get_or names count [] ∷ []) (drop (suc count) names)) (take count names)) full in
          let over : 4096 < length (join_names (take (count + 1) names)) =
          rw (add-one, more) (too_long (take count names ++ get_or names count [] ∷ []) full) in
          subst (λ l. IsMostOf names (join_names l)) (sym step)
          (record { count = count; within = omega arith; whole = refl; fit = it_fits (take count names) fit; most = λ below. over })
    ]

pub most_of : (names : List (List ℕ)) (from : ℕ) → IsMostOf (drop from names) (names_text names from)
unfolding names_text
most_of names from = most_from (drop from names) (length (drop from names)) 0 (omega arith) refl
