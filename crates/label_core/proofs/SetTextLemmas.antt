-- The compartments of a set one after the other, as they are printed.
use Rattle.std.proofs.Common.{◌≡◌, ℕ, zero, suc, ◌+◌, ◌-◌, ◌*◌, ◌<◌, ◌≤◌, min, true, false, List, [], ◌∷◌, ◌++◌, length, refl, sym, ap, ◌∙◌, arith, inl, inr, append_assoc, append-nil, length-append}
use Rattle.std.specs.Prelude.{decimal, filter, flat_map, if◌then◌else◌}
use Rattle.std.specs.List.{range_with_len}
use Rattle.std.proofs.lemmas.Bool.{cases_lt}
use Rattle.std.proofs.lemmas.Fmt.{length-decimal-le}
use Rattle.std.proofs.lemmas.Grind.{flat_map-append}
use Rattle.std.proofs.lemmas.List.Elements.{filter-append}
use Rattle.label_core.specs.CompSet.{IsCompSet, has_number}
use Rattle.label_core.specs.Text.{set_text}
use Rattle.label_core.proofs.RangeLemmas.{has_number-filter, RisesFrom-filter, filter-is_subset}
use Rattle.label_core.proofs.SetLemmas.{is_subset_both, is_subset_of_each, rises_within}

-- the numbers of a set that are at most k
abbrev pub numbers_to : ℕ → List ℕ → List ℕ
numbers_to k set = filter (λ m. has_number m set) (range_with_len 1 k)

-- the mark before the next number
abbrev pub mark_after : List ℕ → ℕ
mark_after [] = 58
mark_after (n ∷ ns) = 43

-- the most bytes of the numbers up to k
abbrev pub room_to : ℕ → ℕ
room_to k = 4 * k - min k 99 - min k 9

range_more : (a k : ℕ) → range_with_len a (suc k) ≡ range_with_len a k ++ (a + k) ∷ []
range_more a zero = grind arith
range_more a (suc k) = grind (arith, range_more (a + 1) k)

set_text-push : (ns : List ℕ) (n : ℕ) → set_text (ns ++ n ∷ []) ≡ set_text ns ++ mark_after ns ∷ decimal n
set_text-push [] n = ap (λ (t : List ℕ). 58 ∷ t) (append-nil (decimal n))
set_text-push (m ∷ ms) n =
    let f : ℕ → List ℕ = λ m. 43 ∷ decimal m in
    let last : flat_map f (ms ++ n ∷ []) ≡ flat_map f ms ++ 43 ∷ decimal n =
    flat_map-append f ms (n ∷ []) ∙ ap (λ (t : List ℕ). flat_map f ms ++ 43 ∷ t) (append-nil (decimal n)) in
    ap (λ (t : List ℕ). 58 ∷ t) (ap (λ (t : List ℕ). decimal m ++ t) last ∙ sym (append_assoc (decimal m) (flat_map f ms) (43 ∷ decimal n)))

numbers_to-more : (k : ℕ) (set : List ℕ) → numbers_to (suc k) set ≡ numbers_to k set ++ (if has_number (1 + k) set then (1 + k) ∷ [] else [])
numbers_to-more k set = ap (filter (λ m. has_number m set)) (range_more 1 k) ∙ filter-append (λ m. has_number m set) (range_with_len 1 k) ((1 + k) ∷ [])

-- all numbers of a set are at most 256
pub numbers_to_all : (set : List ℕ) → IsCompSet set → numbers_to 256 set ≡ set
numbers_to_all set is = is_subset_both 0 (numbers_to 256 set) set (RisesFrom-filter (λ m. has_number m set) 0 1 256 (omega arith) (omega arith)) is
    (filter-is_subset (λ m. has_number m set) set 1 256 (λ n low high passes. passes))
    (is_subset_of_each set (numbers_to 256 set)
    (λ n in_set. let w = rises_within 0 n set is in_set in has_number-filter (λ m. has_number m set) 1 256 n (omega arith) (omega arith) ∙ in_set))

-- what one more number takes
pub room_to-more : (n : ℕ) → 1 ≤ n → n ≤ 256 → room_to (n - 1) + 1 + length (decimal n) ≤ room_to n
room_to-more n low high =
    elim (cases_lt n 10) [
      | inl one ↦ omega (arith, length-decimal-le 1 n (omega arith) (omega arith) (omega arith))
      | inr more ↦ elim (cases_lt n 100) [
        | inl two ↦ omega (arith, length-decimal-le 2 n (omega arith) (omega arith) (omega arith))
        | inr three ↦ omega (arith, length-decimal-le 3 n (omega arith) (omega arith) (omega arith))
      ]
    ]

mark_after-push : (ns : List ℕ) (n : ℕ) → mark_after (ns ++ n ∷ []) ≡ 43
mark_after-push [] n = refl
mark_after-push (m ∷ ms) n = refl

join_assoc : (front text digits : List ℕ) (mark : ℕ) → ((front ++ text) ++ mark ∷ []) ++ digits ≡ front ++ (text ++ mark ∷ digits)
join_assoc front text digits mark = simp append_assoc

-- what a loop over the numbers has printed of a set after front, before it comes to n
pub record IsPrinted (set front out : List ℕ) (mark n : ℕ) : Type 0 where
  pub text : out ≡ front ++ set_text (numbers_to (n - 1) set)
  pub mark_is : mark ≡ mark_after (numbers_to (n - 1) set)
  pub room : length out ≤ length front + room_to (n - 1)
  pub valid : 1 < n → IsCompSet set

pub IsPrinted-more : (set front out new : List ℕ) (mark n : ℕ) → 1 ≤ n → n ≤ 256 → IsCompSet set → has_number n set ≡ true
    → new ≡ (out ++ mark ∷ []) ++ decimal n
    → IsPrinted set front out mark n → IsPrinted set front new 43 (n + 1)
IsPrinted-more set front out new mark n low high is in_set pushed so_far =
    let before : List ℕ = numbers_to (n - 1) set in
    let next : numbers_to (n + 1 - 1) set ≡ before ++ n ∷ [] =
    let step : n + 1 - 1 ≡ suc (n - 1) = omega arith in
    let one : 1 + (n - 1) ≡ n = omega arith in
    ap (λ k. numbers_to k set) step ∙ numbers_to-more (n - 1) set ∙ rw (one, in_set) refl in
    let grown : length new ≡ length out + 1 + length (decimal n) =
    ap length pushed ∙ length-append (out ++ mark ∷ []) (decimal n) ∙ ap (λ k. k + length (decimal n)) (length-append out (mark ∷ [])) in
    record {
      text = pushed ∙ rw (so_far.text, so_far.mark_is, next, set_text-push before n) (join_assoc front (set_text before) (decimal n) (mark_after before));
      mark_is = rw next (sym (mark_after-push before n));
      room = omega (arith, grown, so_far.room, room_to-more n low high);
      valid = λ _. is;
    }

pub IsPrinted-same : (set front out : List ℕ) (mark n : ℕ) → 1 ≤ n → IsCompSet set → has_number n set ≡ false → IsPrinted set front out mark n
    → IsPrinted set front out mark (n + 1)
IsPrinted-same set front out mark n low is absent so_far =
    let next : numbers_to (n + 1 - 1) set ≡ numbers_to (n - 1) set =
    let step : n + 1 - 1 ≡ suc (n - 1) = omega arith in
    let one : 1 + (n - 1) ≡ n = omega arith in
    ap (λ k. numbers_to k set) step ∙ numbers_to-more (n - 1) set ∙ rw (one, absent) (append-nil (numbers_to (n - 1) set)) in
    record { text = rw next so_far.text; mark_is = rw next so_far.mark_is; room = omega (arith, so_far.room); valid = λ _. is }

pub IsPrinted_all : (set front out : List ℕ) (mark n : ℕ) → 256 < n → n ≤ 257 → IsPrinted set front out mark n
    → (out ≡ front ++ set_text set) × (length out ≤ length front + 916) × IsCompSet set
IsPrinted_all set front out mark n past end so_far =
    let last : n - 1 ≡ 256 = omega arith in
    let is : IsCompSet set = so_far.valid (omega arith) in
    let whole : numbers_to (n - 1) set ≡ set = ap (λ k. numbers_to k set) last ∙ numbers_to_all set is in
    (so_far.text ∙ ap (λ ns. front ++ set_text ns) whole, omega (arith, so_far.room), is)
