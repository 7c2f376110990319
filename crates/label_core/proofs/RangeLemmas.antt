-- The numbers of a range that pass a test, as a set of numbers in rising order.
use Rattle.std.proofs.Common.{◌≡◌, ℕ, suc, zero, ◌+◌, ◌<◌, ◌≤◌, Bool, true, false, cond, ◌||◌, eqb, List, ◌∷◌, refl, ap, ◌∙◌, arith, inl, inr}
use Rattle.std.specs.Prelude.{filter}
use Rattle.std.specs.List.{range_with_len}
use Rattle.std.proofs.lemmas.Bool.{cases_eq, ne_eqb}
use Rattle.std.proofs.lemmas.Bool.Decides.{nat_tests}
use Rattle.label_core.specs.CompSet.{RisesFrom, has_number, is_subset, with_number}

-- a number below the range is not in it
pub has_number-filter_above : (p : ℕ → Bool) (a k n : ℕ) → n < a → has_number n (filter p (range_with_len a k)) ≡ false
has_number-filter_above p a zero n below = refl
has_number-filter_above p a (suc k) n below = grind (arith, nat_tests, has_number-filter_above p (a + 1) k n)

-- a number of the range is in it where it passes
pub has_number-filter : (p : ℕ → Bool) (a k n : ℕ) → a ≤ n → n < a + k → has_number n (filter p (range_with_len a k)) ≡ p n
has_number-filter p a zero n low high = absurd (omega arith)
has_number-filter p a (suc k) n low high = grind (arith, nat_tests, has_number-filter p (a + 1) k n, has_number-filter_above p (a + 1) k n)

-- a number above the range is not in it
pub has_number-filter_below : (p : ℕ → Bool) (a k n : ℕ) → a + k ≤ n → has_number n (filter p (range_with_len a k)) ≡ false
has_number-filter_below p a zero n above = refl
has_number-filter_below p a (suc k) n above = grind (arith, nat_tests, has_number-filter_below p (a + 1) k n)

-- the numbers of a range rise
pub RisesFrom-filter : (p : ℕ → Bool) (low a k : ℕ) → low < a → a + k ≤ 257 → RisesFrom low (filter p (range_with_len a k))
RisesFrom-filter p low a zero above within = tt
RisesFrom-filter p low a (suc k) above within =
    elim (p a) as (λ b. RisesFrom low (cond b (a ∷ filter p (range_with_len (a + 1) k)) (filter p (range_with_len (a + 1) k)))) [
      | true ↦ (above, omega arith, RisesFrom-filter p a (a + 1) k (omega arith) (omega arith))
      | false ↦ RisesFrom-filter p low (a + 1) k (omega arith) (omega arith)
    ]

-- tests that agree on a range pass the same numbers of it
pub filter_same : (p q : ℕ → Bool) (a k : ℕ) → ((m : ℕ) → a ≤ m → m < a + k → q m ≡ p m) → filter q (range_with_len a k) ≡ filter p (range_with_len a k)
filter_same p q a zero same = refl
filter_same p q a (suc k) same =
    let rest = filter_same p q (a + 1) k (λ m low high. same m (omega arith) (omega arith)) in
    let here : q a ≡ p a = same a (omega arith) (omega arith) in
    rw (here, rest) refl

-- a number below the range stands first
pub with_number-filter_above : (p : ℕ → Bool) (a k n : ℕ) → n < a → with_number n (filter p (range_with_len a k)) ≡ n ∷ filter p (range_with_len a k)
with_number-filter_above p a zero n below = refl
with_number-filter_above p a (suc k) n below = grind (arith, nat_tests, with_number-filter_above p (a + 1) k n)

-- a number of the range that is put into the set passes from then on
pub with_number-filter : (p q : ℕ → Bool) (a k n : ℕ) → a ≤ n → n < a + k → ((m : ℕ) → a ≤ m → m < a + k → q m ≡ (eqb m n || p m))
    → with_number n (filter p (range_with_len a k)) ≡ filter q (range_with_len a k)
with_number-filter p q a zero n low high more = absurd (omega arith)
with_number-filter p q a (suc k) n low high more =
    let here : q a ≡ (eqb a n || p a) = more a (omega arith) (omega arith) in
    elim (cases_eq a n) [
      | inl e ↦
          let rest : filter q (range_with_len (a + 1) k) ≡ filter p (range_with_len (a + 1) k) =
          filter_same p q (a + 1) k (λ m above below. more m (omega arith) (omega arith) ∙ ap (λ b. b || p m) (ne_eqb m n (omega arith))) in
          grind (arith, nat_tests, with_number-filter_above p (a + 1) k n)
      | inr ne ↦
          let rest = with_number-filter p q (a + 1) k n (omega arith) (omega arith) (λ m above below. more m (omega arith) (omega arith)) in
          grind (arith, nat_tests)
    ]

-- what a subset says of each number of the range
pub is_subset-filter : (p : ℕ → Bool) (set : List ℕ) (a k : ℕ) → is_subset (filter p (range_with_len a k)) set ≡ true → (n : ℕ) → a ≤ n → n < a + k → p n ≡ true
    → has_number n set ≡ true
is_subset-filter p set a zero sub n low high passes = absurd (omega arith)
is_subset-filter p set a (suc k) sub n low high passes = grind (arith, nat_tests, is_subset-filter p set (a + 1) k)

-- and what shows it
pub filter-is_subset : (p : ℕ → Bool) (set : List ℕ) (a k : ℕ) → ((n : ℕ) → a ≤ n → n < a + k → p n ≡ true → has_number n set ≡ true)
    → is_subset (filter p (range_with_len a k)) set ≡ true
filter-is_subset p set a zero each = refl
filter-is_subset p set a (suc k) each =
    let rest = filter-is_subset p set (a + 1) k (λ n low high. each n (omega arith) (omega arith)) in
    let here = each a (omega arith) (omega arith) in
    grind (arith, nat_tests)
