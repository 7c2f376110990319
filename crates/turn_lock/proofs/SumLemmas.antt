-- Sums over the views of all seats, and how often a number stands in a range.
use Rattle.std.proofs.Common.{◌≡◌, ◌≢◌, ℕ, zero, suc, ◌+◌, ◌<◌, ◌≤◌, List, [], ◌∷◌, map, length, set, cond, eqb, refl, sym, ap, ◌∙◌, arith, eq-eqb, ne_eqb}
use Rattle.std.specs.List.{sum_by, range_with_len}
use Rattle.std.proofs.lemmas.List.Sums.{sum_by-cons}
use mathlib.Core.Logic.{dite}
use native.Mathlib.Decide.{ℕ_discrete}
use mathlib.Core.Option.{some, some-injective, some-ne-none}
use lib.ListN.{get_elem?}

module _ {V : Type 0} (f : V → ℕ) where
  -- the sum after a change of one view
  pub sum-set : (views : List V) (i : ℕ) (v w : V) → get_elem? views i ≡ some v → sum_by f (set views i w) + f v ≡ sum_by f views + f w
  sum-set [] i v w at = absurd (some-ne-none v (sym at))
  sum-set (x ∷ xs) zero v w at =
      let same = ap f (some-injective x v at) in
      let old = sum_by-cons f x xs in
      let new = sum_by-cons f w xs in omega arith
  sum-set (x ∷ xs) (suc i) v w at =
      let rest = sum-set xs i v w at in
      let old = sum_by-cons f x xs in
      let new = sum_by-cons f x (set xs i w) in omega arith

  pub sum-same : (views : List V) (i : ℕ) (v w : V) → get_elem? views i ≡ some v → f w ≡ f v → sum_by f (set views i w) ≡ sum_by f views
  sum-same views i v w at same = let s = sum-set views i v w at in omega arith

  pub sum-one : (views : List V) (i : ℕ) (v : V) → get_elem? views i ≡ some v → f v ≤ sum_by f views
  sum-one [] i v at = absurd (some-ne-none v (sym at))
  sum-one (x ∷ xs) zero v at =
      let same = ap f (some-injective x v at) in
      let all = sum_by-cons f x xs in omega arith
  sum-one (x ∷ xs) (suc i) v at =
      let rest = sum-one xs i v at in
      let all = sum_by-cons f x xs in omega arith

  pub sum-two : (views : List V) (i j : ℕ) (v w : V) → i ≢ j → get_elem? views i ≡ some v → get_elem? views j ≡ some w
      → f v + f w ≤ sum_by f views
  sum-two [] i j v w apart at to = absurd (some-ne-none v (sym at))
  sum-two (x ∷ xs) zero zero v w apart at to = absurd (apart refl)
  sum-two (x ∷ xs) zero (suc j) v w apart at to =
      let same = ap f (some-injective x v at) in
      let rest = sum-one xs j w to in
      let all = sum_by-cons f x xs in omega arith
  sum-two (x ∷ xs) (suc i) zero v w apart at to =
      let same = ap f (some-injective x w to) in
      let rest = sum-one xs i v at in
      let all = sum_by-cons f x xs in omega arith
  sum-two (x ∷ xs) (suc i) (suc j) v w apart at to =
      let rest = sum-two xs i j v w (λ e. apart (ap suc e)) at to in
      let all = sum_by-cons f x xs in omega arith

pub sum-le : {V : Type 0} (f g : V → ℕ) (views : List V) → ((j : ℕ) (v : V) → get_elem? views j ≡ some v → f v ≤ g v)
    → sum_by f views ≤ sum_by g views
sum-le f g [] each = omega arith
sum-le f g (x ∷ xs) each =
    let first = each zero x refl in
    let rest = sum-le f g xs (λ j v at. each (suc j) v at) in
    let left = sum_by-cons f x xs in
    let right = sum_by-cons g x xs in omega arith

-- 1 at one number alone
abbrev pub at_only : ℕ → ℕ → ℕ
at_only x y = cond (eqb x y) 1 0

-- 1 at each number
abbrev pub once : ℕ → ℕ
once _ = 1

pub at_only-here : (x : ℕ) → at_only x x ≡ 1
at_only-here x = ap (λ b. cond b 1 0) (eq-eqb x x refl)

pub at_only-else : (x y : ℕ) → y ≢ x → at_only x y ≡ 0
at_only-else x y apart = ap (λ b. cond b 1 0) (ne_eqb x y (λ e. apart (sym e)))

pub sum-once : (xs : List ℕ) → sum_by once xs ≡ length xs
sum-once [] = refl
sum-once (x ∷ xs) = let rest = sum-once xs in let all = sum_by-cons once x xs in omega arith

pub sum-once-range : (first count : ℕ) → sum_by once (range_with_len first count) ≡ count
sum-once-range first zero = refl
sum-once-range first (suc count) =
    let rest = sum-once-range (first + 1) count in
    let all = sum_by-cons once first (range_with_len (first + 1) count) in omega arith

pub sum-range-more : (h : ℕ → ℕ) (first count : ℕ)
    → sum_by h (range_with_len first (suc count)) ≡ sum_by h (range_with_len first count) + h (first + count)
sum-range-more h first zero = let same : h first ≡ h (first + 0) = ap h (omega arith) in omega arith
sum-range-more h first (suc count) =
    let rest = sum-range-more h (first + 1) count in
    let same : h (first + 1 + count) ≡ h (first + suc count) = ap h (omega arith) in
    let left = sum_by-cons h first (range_with_len (first + 1) (suc count)) in
    let right = sum_by-cons h first (range_with_len (first + 1) count) in omega arith

none_below : (x first count : ℕ) → x < first → sum_by (at_only x) (range_with_len first count) ≡ 0
none_below x first zero below = refl
none_below x first (suc count) below =
    let here = at_only-else x first (λ e. omega arith) in
    let rest = none_below x (first + 1) count (omega arith) in
    let all = sum_by-cons (at_only x) first (range_with_len (first + 1) count) in omega arith

-- of the numbers of a range, x is one at most
pub one_at_most : (x first count : ℕ) → sum_by (at_only x) (range_with_len first count) ≤ 1
one_at_most x first zero = omega arith
one_at_most x first (suc count) =
    let all = sum_by-cons (at_only x) first (range_with_len (first + 1) count) in
    dite (ℕ_discrete first x)
    (λ e. let here = ap (λ y. at_only x y) e ∙ at_only-here x in let rest = none_below x (first + 1) count (omega arith) in omega arith)
    (λ apart. let here = at_only-else x first apart in let rest = one_at_most x (first + 1) count in omega arith)

-- and it is one of them where it lies between their ends
pub just_one : (x first count : ℕ) → first ≤ x → x < first + count → sum_by (at_only x) (range_with_len first count) ≡ 1
just_one x first zero from below = absurd (omega arith)
just_one x first (suc count) from below =
    let all = sum_by-cons (at_only x) first (range_with_len (first + 1) count) in
    dite (ℕ_discrete first x)
    (λ e. let here = ap (λ y. at_only x y) e ∙ at_only-here x in let rest = none_below x (first + 1) count (omega arith) in omega arith)
    (λ apart.
    let here = at_only-else x first apart in
    let rest = just_one x (first + 1) count (omega arith) (omega arith) in omega arith)

-- where x is one of them, it lies between their ends
pub in_range : (x first count : ℕ) → 0 < sum_by (at_only x) (range_with_len first count) → (first ≤ x) × (x < first + count)
in_range x first zero some_there = absurd (omega arith)
in_range x first (suc count) some_there =
    let all = sum_by-cons (at_only x) first (range_with_len (first + 1) count) in
    dite (ℕ_discrete first x)
    (λ e. (omega arith, omega arith))
    (λ apart.
    let here = at_only-else x first apart in
    let rest = in_range x (first + 1) count (omega arith) in (omega arith, omega arith))

pub sum-zero : {X : Type 0} (xs : List X) → sum_by (λ _. 0) xs ≡ 0
sum-zero [] = refl
sum-zero (x ∷ xs) = let rest = sum-zero xs in let all = sum_by-cons (λ _. 0) x xs in omega arith

pub sum-both : (f g : ℕ → ℕ) (xs : List ℕ) → sum_by (λ x. f x + g x) xs ≡ sum_by f xs + sum_by g xs
sum-both f g [] = refl
sum-both f g (x ∷ xs) =
    let rest = sum-both f g xs in
    let all = sum_by-cons (λ y. f y + g y) x xs in
    let left = sum_by-cons f x xs in
    let right = sum_by-cons g x xs in omega arith

pub sum-of-map : {X : Type 0} (f : ℕ → ℕ) (g : X → ℕ) (xs : List X) → sum_by (λ x. f (g x)) xs ≡ sum_by f (map g xs)
sum-of-map f g [] = refl
sum-of-map f g (x ∷ xs) =
    let rest = sum-of-map f g xs in
    let left = sum_by-cons (λ y. f (g y)) x xs in
    let right = sum_by-cons f (g x) (map g xs) in omega arith
