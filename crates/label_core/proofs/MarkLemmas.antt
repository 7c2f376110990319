-- The bits of four words, and the numbers in them.
use Rattle.std.proofs.Common.{◌≡◌, ℕ, ◌+◌, ◌-◌, ◌*◌, ◌/◌, ◌%◌, ◌^◌, ◌<◌, Bool, true, false, ◌||◌, eqb, List, [], ◌∷◌, length, set, get_or, refl, sym, ap, ◌∙◌, arith, inl, inr, get_or-set_same, get_or-set_other}
use Rattle.std.specs.Prelude.{bit_or, bit_and, EachIndex, IsTrue, ◌↔◌}
use Rattle.std.specs.Int.{bit_at, bit_not, w64}
use Rattle.std.proofs.lemmas.Bool.{cases_eq, cases_lt, ne_eqb, eq-eqb, eqb-true}
use Rattle.std.proofs.lemmas.Nat.Bits.{bit_at-zero, bit_at_and, bit_at_not, bit_at-lt, bit_at_above, bit_at_set_same, bit_at_set_other, same_from_bits}
use Rattle.std.proofs.lemmas.Bool.Decides.{same_from_decides}
use Rattle.label_core.specs.CompSet.{IsCompartment, IsCompSet, has_number, is_subset, with_number, is_marked, numbers_in}
use Rattle.label_core.proofs.RangeLemmas.{has_number-filter, has_number-filter_above, has_number-filter_below, RisesFrom-filter, with_number-filter, is_subset-filter, filter-is_subset}

pub numbers_in-empty : numbers_in (0 ∷ 0 ∷ 0 ∷ 0 ∷ []) ≡ []
unfolding numbers_in
numbers_in-empty = refl

pub IsCompSet-numbers_in : (words : List ℕ) → IsCompSet (numbers_in words)
unfolding numbers_in
IsCompSet-numbers_in words = RisesFrom-filter (is_marked words) 0 1 256 (omega arith) (omega arith)

pub has_number-numbers_in : (words : List ℕ) (n : ℕ) → IsCompartment n → has_number n (numbers_in words) ≡ is_marked words n
unfolding numbers_in
has_number-numbers_in words n known = has_number-filter (is_marked words) 1 256 n known.0 (omega arith)

pub has_number-numbers_in_zero : (words : List ℕ) (n : ℕ) → n < 1 → has_number n (numbers_in words) ≡ false
unfolding numbers_in
has_number-numbers_in_zero words n low = has_number-filter_above (is_marked words) 1 256 n low

pub has_number-numbers_in_past : (words : List ℕ) (n : ℕ) → 256 < n → has_number n (numbers_in words) ≡ false
unfolding numbers_in
has_number-numbers_in_past words n high = has_number-filter_below (is_marked words) 1 256 n (omega arith)

-- the words after the bit of n is set
pub mark_sets : (words : List ℕ) (n : ℕ) → IsCompartment n → length words ≡ 4 → (m : ℕ) → IsCompartment m
    → is_marked (set words ((n - 1) / 64) (bit_or (get_or words ((n - 1) / 64) 0) (1 * 2 ^ ((n - 1) % 64) % 2 ^ 64))) m ≡ (eqb m n || is_marked words m)
mark_sets words n known len m other = elim (cases_eq ((m - 1) / 64) ((n - 1) / 64)) [
  | inl same_word ↦ elim (cases_eq ((m - 1) % 64) ((n - 1) % 64)) [
    | inl same_bit ↦
        let at : get_or (set words ((n - 1) / 64) (bit_or (get_or words ((n - 1) / 64) 0) (1 * 2 ^ ((n - 1) % 64) % 2 ^ 64))) ((n - 1) / 64) 0 ≡ bit_or
        (get_or words ((n - 1) / 64) 0) (1 * 2 ^ ((n - 1) % 64) % 2 ^ 64) =
        get_or-set_same words ((n - 1) / 64) _ 0 (omega arith) in
        let equal : eqb m n ≡ true = eq-eqb m n (omega arith) in
        rw (same_word, same_bit, at, bit_at_set_same w64 (get_or words ((n - 1) / 64) 0) ((n - 1) % 64) (omega arith), equal) refl
    | inr other_bit ↦
        let at : get_or (set words ((n - 1) / 64) (bit_or (get_or words ((n - 1) / 64) 0) (1 * 2 ^ ((n - 1) % 64) % 2 ^ 64))) ((n - 1) / 64) 0 ≡ bit_or
        (get_or words ((n - 1) / 64) 0) (1 * 2 ^ ((n - 1) % 64) % 2 ^ 64) =
        get_or-set_same words ((n - 1) / 64) _ 0 (omega arith) in
        let unequal : eqb m n ≡ false = ne_eqb m n (λ e. other_bit (ap (λ k. (k - 1) % 64) e)) in
        rw (same_word, at, bit_at_set_other w64 (get_or words ((n - 1) / 64) 0) ((n - 1) % 64) (omega arith) ((m - 1) % 64) other_bit, unequal) refl
  ]
  | inr other_word ↦
      let unequal : eqb m n ≡ false = ne_eqb m n (λ e. other_word (ap (λ k. (k - 1) / 64) e)) in
      rw (get_or-set_other words ((n - 1) / 64) ((m - 1) / 64) (bit_or (get_or words ((n - 1) / 64) 0) (1 * 2 ^ ((n - 1) % 64) % 2 ^ 64)) 0 other_word, unequal)
      refl
]

-- the set of the words after the bit of n is set
pub with_number-numbers_in : (old new : List ℕ) (n : ℕ) → IsCompartment n → ((m : ℕ) → IsCompartment m → is_marked new m ≡ (eqb m n || is_marked old m))
    → numbers_in new ≡ with_number n (numbers_in old)
unfolding numbers_in
with_number-numbers_in old new n known more =
    sym (with_number-filter (is_marked old) (is_marked new) 1 256 n known.0 (omega arith) (λ m low high. more m (low, omega arith)))

-- The words of a subset have no bit that the other set's words lack.

abbrev pub HasBits : List ℕ → Type 0
HasBits words = (k : ℕ) → get_or words k 0 < 2 ^ 64

-- what no bit outside says of each number
pub covers : (some all : List ℕ) → HasBits all → length some ≡ 4 → EachIndex some (λ k. bit_and (get_or some k 0) (bit_not w64 (get_or all k 0)) ≡ 0)
    → (n : ℕ) → IsCompartment n → is_marked some n ≡ true → is_marked all n ≡ true
covers some all fits len none n known is =
    let k : ℕ = (n - 1) / 64 in
    let i : ℕ = (n - 1) % 64 in
    let x : ℕ = get_or some k 0 in
    let y : ℕ = get_or all k 0 in
    let one : bit_at x i ≡ 1 = eqb-true _ _ is in
    let zero_there : bit_at (bit_and x (bit_not w64 y)) i ≡ 0 = ap (λ z. bit_at z i) (none k (omega arith)) ∙ bit_at-zero i in
    eq-eqb (bit_at y i) 1 (omega (arith, one, zero_there, bit_at_and x (bit_not w64 y) i, bit_at_not w64 y i (fits k) (omega arith), bit_at-lt y i))

-- the bit of a word as the mark of its number
marked_at : (words : List ℕ) (k i : ℕ) → i < 64 → is_marked words (64 * k + i + 1) ≡ eqb (bit_at (get_or words k 0) i) 1
marked_at words k i lt =
    let word : (64 * k + i + 1 - 1) / 64 ≡ k = omega arith in
    let bit : (64 * k + i + 1 - 1) % 64 ≡ i = omega arith in
    rw (word, bit) refl

-- and what shows it
pub each_covered : (some all : List ℕ) → HasBits some → HasBits all → length some ≡ 4
    → ((n : ℕ) → IsCompartment n → is_marked some n ≡ true → is_marked all n ≡ true)
    → EachIndex some (λ k. bit_and (get_or some k 0) (bit_not w64 (get_or all k 0)) ≡ 0)
each_covered some all some_fits all_fits len each k lt =
    let x : ℕ = get_or some k 0 in
    let y : ℕ = get_or all k 0 in
    same_from_bits (bit_and x (bit_not w64 y)) 0 (λ i.
    let both = bit_at_and x (bit_not w64 y) i in
    let none = bit_at-zero i in
    elim (cases_lt i 64) [
      | inl low ↦
          let not-y = bit_at_not w64 y i (all_fits k) low in
          elim (cases_eq (bit_at x i) 1) [
            | inl one ↦
                let mark_sets : is_marked all (64 * k + i + 1) ≡ true =
                each (64 * k + i + 1) (omega arith, omega arith) (marked_at some k i low ∙ eq-eqb (bit_at x i) 1 one) in
                let other : bit_at y i ≡ 1 = eqb-true _ _ (sym (marked_at all k i low) ∙ mark_sets) in
                omega (arith, both, none, not-y, other)
            | inr not_one ↦ let lt_two = bit_at-lt x i in omega (arith, both, none, lt_two, not_one)
          ]
      | inr high ↦ let past = bit_at_above x 64 i (some_fits k) high in omega (arith, both, none, past)
    ])

-- a test that says so of each number is the test of a subset
pub is_subset-numbers_in : (some all : List ℕ) (b : Bool) → IsTrue b ↔ ((n : ℕ) → IsCompartment n → IsTrue (is_marked some n) → IsTrue (is_marked all n))
    → b ≡ is_subset (numbers_in some) (numbers_in all)
unfolding numbers_in
is_subset-numbers_in some all b says =
    let found : (n : ℕ) → IsCompartment n → has_number n (numbers_in all) ≡ is_marked all n = has_number-numbers_in all in
    same_from_decides {P = (n : ℕ) → IsCompartment n → IsTrue (is_marked some n) → IsTrue (is_marked all n)} b (is_subset (numbers_in some) (numbers_in all))
    says (
      λ sub n known is. sym (found n known) ∙ is_subset-filter (is_marked some) (numbers_in all) 1 256 sub n known.0 (omega arith) is,
      λ each. filter-is_subset (is_marked some) (numbers_in all) 1 256 (λ n low high is. found n (low, omega arith) ∙ each n (low, omega arith) is),
    )

pub ruleset numbers =
    (numbers_in-empty, IsCompSet-numbers_in, has_number-numbers_in, has_number-numbers_in_zero, has_number-numbers_in_past, with_number-numbers_in)
