-- Sets of numbers in rising order.
use Rattle.std.proofs.Common.{◌≡◌, ℕ, ◌<◌, ◌≤◌, true, false, ◌&&◌, ◌||◌, eqb, List, [], ◌∷◌, refl, sym, ap, ◌∙◌, arith, inl, inr}
use Rattle.std.specs.Prelude.{bytes_eq}
use Rattle.std.proofs.lemmas.Bool.{cases_order, and_parts, and_from, or_cases, or_right, eqb-true, true≢false}
use Rattle.std.proofs.lemmas.Bool.Decides.{nat_tests, same_from_decides}
use Rattle.std.specs.Cmp.Lexicographic.{bytes_decides}
use Rattle.label_core.specs.CompSet.{RisesFrom, IsCompSet, has_number, is_subset, with_number}

-- a number that is not above low is in no set that rises from low
pub has_number-RisesFrom : (low n : ℕ) (set : List ℕ) → RisesFrom low set → n ≤ low → has_number n set ≡ false
has_number-RisesFrom low n [] rises below = refl
has_number-RisesFrom low n (m ∷ ms) rises below = grind (arith, nat_tests, has_number-RisesFrom m n ms rises.2)

-- a number below a whole set can be left out of what holds it
is_subset-tail : (low n : ℕ) (some all : List ℕ) → n ≤ low → RisesFrom low some → is_subset some (n ∷ all) ≡ true → is_subset some all ≡ true
is_subset-tail low n [] all below rises sub = refl
is_subset-tail low n (m ∷ ms) all below rises sub = grind (arith, nat_tests, is_subset-tail m n ms all (omega arith) rises.2)

below_all : (n m : ℕ) (ms : List ℕ) → n < m → RisesFrom m ms → has_number n (m ∷ ms) ≡ false
below_all n m ms less rises = grind (arith, nat_tests, has_number-RisesFrom m n ms rises)

-- two sets that hold each other are one
pub is_subset_both : (low : ℕ) (s t : List ℕ) → RisesFrom low s → RisesFrom low t → is_subset s t ≡ true → is_subset t s ≡ true → s ≡ t
is_subset_both low [] [] s_rises t_rises st ts = refl
is_subset_both low [] (b ∷ t) s_rises t_rises st ts = absurd (true≢false (sym ts))
is_subset_both low (a ∷ s) [] s_rises t_rises st ts = absurd (true≢false (sym st))
is_subset_both low (a ∷ s) (b ∷ t) s_rises t_rises st ts =
    let a_in = and_parts (has_number a (b ∷ t)) (is_subset s (b ∷ t)) st in
    let b_in = and_parts (has_number b (a ∷ s)) (is_subset t (a ∷ s)) ts in
    elim (cases_order a b) [
      | inl same ↦
          let s_in : is_subset s t ≡ true = is_subset-tail a b s t (omega arith) s_rises.2 a_in.1 in
          let t_in : is_subset t s ≡ true = is_subset-tail b a t s (omega arith) t_rises.2 b_in.1 in
          let rest : s ≡ t = is_subset_both a s t s_rises.2 (rw same t_rises.2) s_in t_in in
          rw (same, rest) refl
      | inr (inl less) ↦ absurd (true≢false (sym a_in.0 ∙ below_all a b t less t_rises.2))
      | inr (inr more) ↦ absurd (true≢false (sym b_in.0 ∙ below_all b a s more s_rises.2))
    ]

-- the numbers of a set lie between its low end and 256
pub rises_within : (low n : ℕ) (set : List ℕ) → RisesFrom low set → has_number n set ≡ true → (low < n) × (n ≤ 256)
rises_within low n [] rises is = absurd (true≢false (sym is))
rises_within low n (m ∷ ms) rises is = elim (or_cases (eqb m n) (has_number n ms) is) [
  | inl same ↦ let e = eqb-true m n same in (omega arith, omega arith)
  | inr later ↦ let rest = rises_within m n ms rises.2 later in (omega arith, omega arith)
]

-- a set is in another where each number of it is
pub is_subset_of_each : (some all : List ℕ) → ((n : ℕ) → has_number n some ≡ true → has_number n all ≡ true) → is_subset some all ≡ true
is_subset_of_each [] all each = refl
is_subset_of_each (n ∷ ns) all each =
    let here : has_number n all ≡ true = each n (grind (arith, nat_tests)) in
    let rest : is_subset ns all ≡ true = is_subset_of_each ns all (λ m is. each m (or_right (eqb n m) (has_number m ns) is)) in
    and_from (has_number n all) (is_subset ns all) here rest

pub is_subset_refl : (s : List ℕ) → is_subset s s ≡ true
is_subset_refl s = is_subset_of_each s s (λ n is. is)

pub has_number-subset : (n : ℕ) (some all : List ℕ) → is_subset some all ≡ true → has_number n some ≡ true → has_number n all ≡ true
has_number-subset n [] all sub is = absurd (true≢false (sym is))
has_number-subset n (m ∷ ms) all sub is =
    let parts = and_parts (has_number m all) (is_subset ms all) sub in
    elim (or_cases (eqb m n) (has_number n ms) is) [
      | inl same ↦ rw (← eqb-true m n same) parts.0
      | inr later ↦ has_number-subset n ms all parts.1 later
    ]

pub is_subset_trans : (s t u : List ℕ) → is_subset s t ≡ true → is_subset t u ≡ true → is_subset s u ≡ true
is_subset_trans [] t u st tu = refl
is_subset_trans (n ∷ ns) t u st tu =
    let parts = and_parts (has_number n t) (is_subset ns t) st in
    and_from (has_number n u) (is_subset ns u) (has_number-subset n t u tu parts.0) (is_subset_trans ns t u parts.1 tu)

-- a number of a set with another number
pub has_number-with_number : (n m : ℕ) (set : List ℕ) → has_number n (with_number m set) ≡ (eqb n m || has_number n set)
has_number-with_number n m [] = grind (arith, nat_tests)
has_number-with_number n m (k ∷ ks) = grind (arith, nat_tests, has_number-with_number n m ks)

-- two sets with the same numbers are one
pub same_numbers : (s t : List ℕ) → IsCompSet s → IsCompSet t → ((n : ℕ) → has_number n s ≡ has_number n t) → s ≡ t
same_numbers s t s_set t_set same =
    is_subset_both 0 s t s_set t_set (is_subset_of_each s t (λ n is. sym (same n) ∙ is)) (is_subset_of_each t s (λ n is. same n ∙ is))

-- lists of numbers that are sets are equal exactly where they hold each other
pub bytes_eq-CompSet : (s t : List ℕ) → IsCompSet s → IsCompSet t → bytes_eq s t ≡ (is_subset s t && is_subset t s)
bytes_eq-CompSet s t s_set t_set =
    same_from_decides {P = s ≡ t} (bytes_eq s t) (is_subset s t && is_subset t s) (bytes_decides s t) (
      (λ is. let parts = and_parts (is_subset s t) (is_subset t s) is in is_subset_both 0 s t s_set t_set parts.0 parts.1),
      (λ same. and_from (is_subset s t) (is_subset t s) (ap (is_subset s) (sym same) ∙ is_subset_refl s) (ap (is_subset t) same ∙ is_subset_refl t)),
    )

pub ruleset sets = (bytes_eq-CompSet)
