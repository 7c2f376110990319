-- The counts of entries, raised number by number.
use Rattle.std.proofs.Common.{◌≡◌, ◌≢◌, inl, inr, ℕ, ◌+◌, ◌<◌, ◌≤◌, List, length, get_or, set, take, Option, None, Some, count_by, slice_index, eqb, arith}
use Rattle.std.proofs.Common.{refl, ap, sym, ◌∙◌, subst}
use Rattle.std.proofs.lemmas.Bool.Decides.{eqb_tells}
use Rattle.std.proofs.lemmas.Bool.{eq-eqb}
use Rattle.std.proofs.lemmas.List.{get_or-set_same, get_or-set_other}
use Rattle.std.proofs.lemmas.List.Sums.{sum_by_more, sum_by_more_le}
use Rattle.fd_table.specs.declared.open.Descriptor.{Descriptor}
use Rattle.fd_table.specs.Shared.{refers}
use Rattle.fd_table.proofs.CountLemmas.{bit}

-- a number of the row that is open is counted in it
pub row-some : (row : List (Option Descriptor)) (i : ℕ) (d : Descriptor) → i < length row → get_or row i None ≡ Some d
    → count_by (refers d.entry) (take i row) + 1 ≤ count_by (refers d.entry) row
row-some row i d within is =
    let part = sum_by_more_le (λ o. bit (refers d.entry o)) row i None within in
    let one : bit (refers d.entry (get_or row i None)) ≡ 1 = ap (λ o. bit (refers d.entry o)) is ∙ ap bit (eq-eqb d.entry d.entry refl) in
    omega (arith, part, one)

-- no entry is counted more for a number that is not open
pub raised-none : (row : List (Option Descriptor)) (i a : ℕ) → i < length row → get_or row i None ≡ None
    → count_by (refers a) (take (i + 1) row) ≡ count_by (refers a) (take i row)
raised-none row i a within is =
    let more = sum_by_more (λ o. bit (refers a o)) row i None within in
    let none : bit (refers a (get_or row i None)) ≡ 0 = ap (λ o. bit (refers a o)) is in
    omega (arith, more, none)

-- the entry of a number that is open is counted once more, and no other
pub raised-some : (old counts : List ℕ) (row : List (Option Descriptor)) (i a : ℕ) (d : Descriptor) → i < length row → get_or row i None ≡ Some d
    → d.entry < length counts → slice_index counts a ≡ slice_index old a + count_by (refers a) (take i row)
    → slice_index (set counts d.entry (slice_index counts d.entry + 1)) a ≡ slice_index old a + count_by (refers a) (take (i + 1) row)
raised-some old counts row i a d within is there each =
    let more = sum_by_more (λ o. bit (refers a o)) row i None within in
    let one : bit (refers a (get_or row i None)) ≡ bit (eqb d.entry a) = ap (λ o. bit (refers a o)) is in
    let new = slice_index counts d.entry + 1 in
    elim (eqb_tells d.entry a) [
      | inl same ↦ (
          let yes : bit (eqb d.entry a) ≡ 1 = ap bit same.0 in
          let here : slice_index (set counts d.entry new) a ≡ new =
          subst (λ (j : ℕ). slice_index (set counts d.entry new) j ≡ new) same.1 (get_or-set_same counts d.entry new 0 there) in
          let old_here : slice_index counts d.entry ≡ slice_index counts a = ap (λ j. slice_index counts j) same.1 in
          omega (arith, more, one, yes, here, old_here, each))
      | inr other ↦ (
          let no : bit (eqb d.entry a) ≡ 0 = ap bit other.0 in
          let apart : a ≢ d.entry = λ e. other.1 (sym e) in
          let there_still : slice_index (set counts d.entry new) a ≡ slice_index counts a = get_or-set_other counts d.entry a new 0 apart in
          omega (arith, more, one, no, there_still, each))
    ]
