-- Numbers that are joined by plus signs are parted again.
use Rattle.std.proofs.Common.{◌≡◌, ℕ, zero, suc, ◌^◌, ◌≤◌, ◌<◌, true, false, eqb, List, [], ◌∷◌, length, map, All, slice_index_or, Some, refl, sym, ap, ◌∙◌}
use Rattle.std.proofs.Common.{arith}
use Rattle.std.specs.Prelude.{codes}
use Rattle.std.specs.Fmt.{decimal}
use Rattle.std.specs.List.{list_all, AllByRecursion, join_with_byte}
use Rattle.std.specs.Str.{bytes_eq}
use Rattle.std.proofs.lemmas.Bool.{le-leb, ne_eqb, and_parts, false_from_ne_true}
use Rattle.std.proofs.lemmas.List.Splits.{slice_split_none, slice_split_at}
use Rattle.script_text.specs.Words.{is_digit, parts_of}
use Rattle.call_words.specs.Groups.{groups_word}
use Rattle.script_text.specs.Rights.{ids_of, groups_of}
use Rattle.script_text.specs.Grammar.{IsId}
use Rattle.script_text.proofs.ChoiceLemmas.{same_text}
use Rattle.script_text.proofs.Digits.{digit_range}
use Rattle.script_text.proofs.NumberBack.{digits_of_number, number_back}

-- no digit is a plus sign
no_plus : (ds : List ℕ) → list_all (is_digit 10) ds ≡ true → All (λ b. eqb b 43 ≡ false) ds
no_plus [] h = λ k d within. absurd (omega arith)
no_plus (b ∷ ds) h =
    let parts = and_parts (is_digit 10 b) (list_all (is_digit 10) ds) h in
    let range = digit_range 10 b parts.0 in
    λ k d within. elim k as (λ k. k < length (b ∷ ds) → eqb (slice_index_or (b ∷ ds) k d) 43 ≡ false) [
      | zero ↦ λ w. ne_eqb b 43 (λ e. omega (arith, range, e))
      | suc k ↦ λ w. no_plus ds parts.1 k d (omega arith)
    ] within

-- the parts of a text that joins them
parts_of_join : (ns : List ℕ) (n : ℕ) → AllByRecursion IsId (n ∷ ns) → parts_of 43 (join_with_byte 43 (map decimal (n ∷ ns))) ≡ map decimal (n ∷ ns)
unfolding parts_of
parts_of_join [] n h = slice_split_none (λ b. eqb b 43) (decimal n) (no_plus (decimal n) (digits_of_number n (omega (arith, h.0))))
parts_of_join (m ∷ ns) n h =
    slice_split_at (λ b. eqb b 43) (decimal n) 43 (join_with_byte 43 (map decimal (m ∷ ns))) (no_plus (decimal n) (digits_of_number n (omega (arith, h.0))))
    refl
    ∙ ap (λ (parts : List (List ℕ)). decimal n ∷ parts) (parts_of_join ns m h.1)

-- a dash is no such text
no_dash_joined : (ns : List ℕ) (n : ℕ) → AllByRecursion IsId (n ∷ ns) → join_with_byte 43 (map decimal (n ∷ ns)) ≡ codes "-" → ⊥
unfolding parts_of
no_dash_joined ns n h e =
    let parts : codes "-" ∷ [] ≡ map decimal (n ∷ ns) = ap (parts_of 43) (sym e) ∙ parts_of_join ns n h in
    let dash : codes "-" ≡ decimal n = cc in
    let digits : list_all (is_digit 10) (codes "-") ≡ true = rw (← dash) at (digits_of_number n (omega (arith, h.0))) in
    absurd cc

ids_back : (ns : List ℕ) → AllByRecursion IsId ns → ids_of (map decimal ns) ≡ Some ns
ids_back [] h = refl
ids_back (n ∷ ns) h = rw (number_back (2 ^ 32) n h.0 (omega arith), ids_back ns h.1) refl

pub groups_back : (ns : List ℕ) → length ns ≤ 16 → AllByRecursion IsId ns → groups_of (groups_word ns) ≡ Some ns
unfolding groups_of groups_word
groups_back [] most h = refl
groups_back (n ∷ ns) most h =
    let text = join_with_byte 43 (map decimal (n ∷ ns)) in
    let parts : parts_of 43 text ≡ map decimal (n ∷ ns) = parts_of_join ns n h in
    let no_dash : bytes_eq text (codes "-") ≡ false = false_from_ne_true _ (λ e. no_dash_joined ns n h (same_text text (codes "-") e)) in
    let some : eqb (length (n ∷ ns)) 0 ≡ false = ne_eqb (length (n ∷ ns)) 0 (omega arith) in
    rw (some, no_dash, parts, ids_back (n ∷ ns) h, le-leb (length (n ∷ ns)) 16 most) refl
