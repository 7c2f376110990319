-- What places hold, in a circle of 1,024 bits.
use Rattle.std.proofs.Common.{◌≡◌, ℕ, zero, suc, ◌+◌, ◌-◌, ◌*◌, ◌/◌, ◌%◌, ◌^◌, ◌<◌, ◌≤◌, ◌≢◌, ◌⊎◌, inl, inr, Bool, true, false, eqb, List, [], ◌∷◌, ◌++◌}
use Rattle.std.proofs.Common.{length, get_or, set, map, sym, refl, ap, ap₂, ◌∙◌, arith, mod-eq_of_lt, get_or-set_same, get_or-set_other}
use Rattle.std.specs.Prelude.{bit_or, bit_and, if◌then◌else◌, ◌==◌}
use Rattle.std.specs.List.{range_with_len}
use Rattle.std.specs.Int.{bit_not, w64}
use Rattle.std.proofs.Math.Nat.{mod-eq-sub-mod, mod-add-mod}
use Rattle.std.proofs.lemmas.Bool.{cases_eq, cases_lt, ne_eqb, eq-eqb}
use Rattle.std.proofs.lemmas.List.{ext_get_or}
use Rattle.std.proofs.lemmas.List.FromFn.{length-map-range_with_len, get_or-map-range_with_len, map-range_with_len_more}
use Rattle.std.proofs.lemmas.Nat.Bits.{bit_at_set_same, bit_at_set_other, bit_at_clear_same, bit_at_clear_other}
use Rattle.line_disc.specs.declared.place.PlaceKind.{PlaceKind}
use Rattle.line_disc.specs.declared.place.PlaceKind.TheVariants.{Byte, LineEnd, FileEnd}
use Rattle.line_disc.specs.Places.{has_bit, kind_of, kinds_in, is_line_end, is_file_end}

-- the words after the bit of a place is set
pub set_bit : (words : List ℕ) (n : ℕ) → n < 1024 → length words ≡ 16 → (m : ℕ) → m < 1024 →
    has_bit (set words (n / 64) (bit_or (get_or words (n / 64) 0) (1 * 2 ^ (n % 64) % 2 ^ 64))) m ≡ (if m == n then true else has_bit words m)
set_bit words n known len m other = elim (cases_eq (m / 64) (n / 64)) [
  | inl same_word ↦
      let at : get_or (set words (n / 64) (bit_or (get_or words (n / 64) 0) (1 * 2 ^ (n % 64) % 2 ^ 64))) (n / 64) 0
      ≡ bit_or (get_or words (n / 64) 0) (1 * 2 ^ (n % 64) % 2 ^ 64) = get_or-set_same words (n / 64) _ 0 (omega arith) in
      elim (cases_eq (m % 64) (n % 64)) [
        | inl same_bit ↦
            let equal : eqb m n ≡ true = eq-eqb m n (omega arith) in
            rw (same_word, same_bit, at, bit_at_set_same w64 (get_or words (n / 64) 0) (n % 64) (omega arith), equal) refl
        | inr other_bit ↦
            let unequal : eqb m n ≡ false = ne_eqb m n (λ e. other_bit (ap (λ k. k % 64) e)) in
            rw (same_word, at, bit_at_set_other w64 (get_or words (n / 64) 0) (n % 64) (omega arith) (m % 64) other_bit, unequal, sym same_word) refl
      ]
  | inr other_word ↦
      let unequal : eqb m n ≡ false = ne_eqb m n (λ e. other_word (ap (λ k. k / 64) e)) in
      rw (get_or-set_other words (n / 64) (m / 64) (bit_or (get_or words (n / 64) 0) (1 * 2 ^ (n % 64) % 2 ^ 64)) 0 other_word, unequal) refl
]

-- the words after it is cleared
pub clear_bit : (words : List ℕ) (n : ℕ) → n < 1024 → length words ≡ 16 → (m : ℕ) → m < 1024 →
    has_bit (set words (n / 64) (bit_and (get_or words (n / 64) 0) (bit_not w64 (1 * 2 ^ (n % 64) % 2 ^ 64)))) m ≡ (if m == n then false else has_bit words m)
clear_bit words n known len m other = elim (cases_eq (m / 64) (n / 64)) [
  | inl same_word ↦
      let at : get_or (set words (n / 64) (bit_and (get_or words (n / 64) 0) (bit_not w64 (1 * 2 ^ (n % 64) % 2 ^ 64)))) (n / 64) 0
      ≡ bit_and (get_or words (n / 64) 0) (bit_not w64 (1 * 2 ^ (n % 64) % 2 ^ 64)) = get_or-set_same words (n / 64) _ 0 (omega arith) in
      elim (cases_eq (m % 64) (n % 64)) [
        | inl same_bit ↦
            let equal : eqb m n ≡ true = eq-eqb m n (omega arith) in
            rw (same_word, same_bit, at, bit_at_clear_same w64 (get_or words (n / 64) 0) (n % 64) (omega arith), equal) refl
        | inr other_bit ↦
            let unequal : eqb m n ≡ false = ne_eqb m n (λ e. other_bit (ap (λ k. k % 64) e)) in
            rw (same_word, at, bit_at_clear_other w64 (get_or words (n / 64) 0) (n % 64) (omega arith) (m % 64) (omega arith) other_bit, unequal, sym same_word)
            refl
      ]
  | inr other_word ↦
      let unequal : eqb m n ≡ false = ne_eqb m n (λ e. other_word (ap (λ k. k / 64) e)) in
      rw (get_or-set_other words (n / 64) (m / 64) (bit_and (get_or words (n / 64) 0) (bit_not w64 (1 * 2 ^ (n % 64) % 2 ^ 64))) 0 other_word, unequal) refl
]

-- a place below twice the size goes round once at most
wraps_once : (size j : ℕ) → j < size + size → ((j < size) × (j % size ≡ j)) ⊎ ((size ≤ j) × (j % size ≡ j - size))
wraps_once size j below = elim (cases_lt j size) [
  | inl low ↦ inl (low, mod-eq_of_lt low)
  | inr high ↦ inr (high, mod-eq-sub-mod high ∙ mod-eq_of_lt (omega arith))
]

-- two places of a circle that are less than its size apart are not the same
mod_apart : (size a d : ℕ) → 0 < d → d < size → a % size ≢ (a + d) % size
mod_apart size a d some less same =
    let r : ℕ = a % size in
    let low : a % size < size = omega arith in
    let moved : (a % size + d) % size ≡ (a + d) % size = mod-add-mod a size d in
    elim (wraps_once size (a % size + d) (omega arith)) [
      | inl w ↦ omega (arith, w.0, w.1, moved, same)
      | inr w ↦ omega (arith, w.0, w.1, moved, same)
    ]

-- two functions that agree at the indices have the same values there
map_agree : (f g : ℕ → PlaceKind) (a b n : ℕ) → ((i : ℕ) → i < n → f (a + i) ≡ g (b + i)) → map f (range_with_len a n) ≡ map g (range_with_len b n)
map_agree f g a b n same =
    ext_get_or Byte _ _ (length-map-range_with_len f a n ∙ sym (length-map-range_with_len g b n)) (λ i h.
    let below : i < n = omega (arith, length-map-range_with_len f a n, h) in
    get_or-map-range_with_len f a n i (a + i) Byte below refl ∙ same i below ∙ sym (get_or-map-range_with_len g b n i (b + i) Byte below refl))

-- as many places are taken as are counted
pub length-kinds_in : (ends marks : List ℕ) (first count : ℕ) → length (kinds_in ends marks first count) ≡ count
unfolding kinds_in
length-kinds_in ends marks first count = length-map-range_with_len _ 0 count

pub kinds_in-none : (ends marks : List ℕ) (first : ℕ) → kinds_in ends marks first 0 ≡ []
unfolding kinds_in
kinds_in-none ends marks first = refl

-- a place behind the last whose bits are put is taken too
pub kinds_in_push : (ends marks new_ends new_marks : List ℕ) (first count place : ℕ) (ends_it marks_it : Bool) → count < 1024 → place ≡ (first + count) % 1024
    → ((m : ℕ) → m < 1024 → has_bit new_ends m ≡ (if m == place then ends_it else has_bit ends m))
    → ((m : ℕ) → m < 1024 → has_bit new_marks m ≡ (if m == place then marks_it else has_bit marks m))
    → kinds_in new_ends new_marks first (count + 1) ≡ kinds_in ends marks first count ++ kind_of ends_it marks_it ∷ []
unfolding kinds_in
kinds_in_push ends marks new_ends new_marks first count place ends_it marks_it room is e m =
    let f : ℕ → PlaceKind = λ i. kind_of (has_bit new_ends ((first + i) % 1024)) (has_bit new_marks ((first + i) % 1024)) in
    let g : ℕ → PlaceKind = λ i. kind_of (has_bit ends ((first + i) % 1024)) (has_bit marks ((first + i) % 1024)) in
    let same : eqb ((first + count) % 1024) place ≡ true = eq-eqb _ _ (sym is) in
    map-range_with_len_more f 0 count count (omega arith)
    ∙ ap₂ (λ (xs : List PlaceKind) (y : PlaceKind). xs ++ y ∷ []) (map_agree f g 0 0 count (λ i h.
    let up_to_count : first + i + (count - i) ≡ first + count = omega arith in
    let apart : (first + (0 + i)) % 1024 ≢ place =
    λ q. mod_apart 1024 (first + i) (count - i) (omega arith) (omega arith) (omega (arith, q, is, up_to_count)) in
    let other : eqb ((first + (0 + i)) % 1024) place ≡ false = ne_eqb _ _ apart in
    rw (e ((first + (0 + i)) % 1024) (omega arith), m ((first + (0 + i)) % 1024) (omega arith), other) refl))
    (rw (e ((first + count) % 1024) (omega arith), m ((first + count) % 1024) (omega arith), same) refl)

-- the first place
pub kinds_in_front : (ends marks : List ℕ) (first count : ℕ) → first < 1024 → 0 < count → kinds_in ends marks first count
    ≡ kind_of (has_bit ends first) (has_bit marks first) ∷ kinds_in ends marks ((first + 1) % 1024) (count - 1)
unfolding kinds_in
kinds_in_front ends marks first zero inside some = elim some [ ]
kinds_in_front ends marks first (suc count) inside some =
    let k : ℕ → PlaceKind = λ p. kind_of (has_bit ends p) (has_bit marks p) in
    let f : ℕ → PlaceKind = λ i. kind_of (has_bit ends ((first + i) % 1024)) (has_bit marks ((first + i) % 1024)) in
    let g : ℕ → PlaceKind = λ i. kind_of (has_bit ends (((first + 1) % 1024 + i) % 1024)) (has_bit marks (((first + 1) % 1024 + i) % 1024)) in
    let at_first : (first + 0) % 1024 ≡ first = omega arith in
    let one_less : suc count - 1 ≡ count = omega arith in
    rw one_less (ap₂ (λ (x : PlaceKind) (xs : List PlaceKind). x ∷ xs) (ap k at_first) (map_agree f g 1 0 count (λ i h.
    let next : (first + (1 + i)) % 1024 ≡ ((first + 1) % 1024 + (0 + i)) % 1024 = omega arith in ap k next)))

-- the last place
pub kinds_in_back : (ends marks : List ℕ) (first count : ℕ) → 0 < count → kinds_in ends marks first count
    ≡ kinds_in ends marks first (count - 1) ++ kind_of (has_bit ends ((first + (count - 1)) % 1024)) (has_bit marks ((first + (count - 1)) % 1024)) ∷ []
unfolding kinds_in
kinds_in_back ends marks first count some =
    let f : ℕ → PlaceKind = λ i. kind_of (has_bit ends ((first + i) % 1024)) (has_bit marks ((first + i) % 1024)) in
    let one_more : count ≡ count - 1 + 1 = omega arith in
    ap (λ n. map f (range_with_len 0 n)) one_more ∙ map-range_with_len_more f 0 (count - 1) (count - 1) (omega arith)

pub ruleset circle = (length-kinds_in, kinds_in-none)

-- the bits that are put say what the place holds
pub kind_of_tests : (kind : PlaceKind) (ends_it marks_it : Bool) → ends_it ≡ is_line_end kind → marks_it ≡ is_file_end kind → kind_of ends_it marks_it ≡ kind
kind_of_tests Byte ends_it marks_it e m = rw (e, m) refl
kind_of_tests LineEnd ends_it marks_it e m = rw (e, m) refl
kind_of_tests FileEnd ends_it marks_it e m = rw (e, m) refl
