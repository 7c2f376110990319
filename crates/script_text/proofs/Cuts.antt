-- The parts of a text, one at a time.
use Rattle.std.proofs.Common.{◌≡◌, ℕ, ◌+◌, ◌-◌, ◌≤◌, false, true, List, [], ◌∷◌, length, take, drop, Some, None, refl, sym, ap, ◌∙◌, arith, eqb, ltb, cond}
use Rattle.std.proofs.Common.{ltb-true, ltb-false, length-drop}
use Rattle.std.proofs.Math.Seq.{take-length}
use Rattle.std.specs.Prelude.{position}
use Rattle.std.specs.List.{slice_split, position_or_len}
use Rattle.std.proofs.lemmas.List.{drop-drop}
use Rattle.std.proofs.lemmas.List.Splits.{slice_split_none, slice_split_first}
use Rattle.std.proofs.lemmas.List.Sums.{fails_before_first}
use Rattle.script_text.specs.Words.{parts_of}

-- a text without the mark is one part
pub one_part : (m : ℕ) (l : List ℕ) → position (λ b. eqb b m) l ≡ None → parts_of m l ≡ l ∷ []
unfolding parts_of
one_part m l h =
    let p = position_or_len (λ b. eqb b m) l in
    elim (ltb p (length l)) as (λ b. ltb p (length l) ≡ b → cond b (Some p) None ≡ None → slice_split (λ b. eqb b m) l ≡ l ∷ []) [
      | true ↦ λ test none. cc
      | false ↦ λ test none.
          let all : length l ≤ p = ltb-false p (length l) test in
          slice_split_none (λ b. eqb b m) l (λ k d below. fails_before_first (λ b. eqb b m) l k d (omega arith))
    ] refl h

-- the first part stands before the first mark
pub first_part : (m : ℕ) (l : List ℕ) (k : ℕ) → position (λ b. eqb b m) l ≡ Some k → parts_of m l ≡ take k l ∷ parts_of m (drop (k + 1) l)
unfolding parts_of
first_part m l k h =
    let p = position_or_len (λ b. eqb b m) l in
    elim (ltb p (length l)) as
    (λ b. ltb p (length l) ≡ b → cond b (Some p) None ≡ Some k → slice_split (λ b. eqb b m) l ≡ take k l ∷ slice_split (λ b. eqb b m) (drop (k + 1) l)) [
      | true ↦ λ test some.
          let here : p ≡ k = cc in
          slice_split_first (λ b. eqb b m) l 0 (ltb-true p (length l) test) ∙ ap (λ at. take at l ∷ slice_split (λ b. eqb b m) (drop (at + 1) l)) here
      | false ↦ λ test some. cc
    ] refl h

-- what follows the mark after the first part
pub cut_first_part : (m : ℕ) (l part others : List ℕ) (k : ℕ) → position (λ b. eqb b m) l ≡ Some k → part ≡ take k l → others ≡ drop k l
    → parts_of m l ≡ part ∷ parts_of m (take (length others - 1) (drop 1 others))
cut_first_part m l part others k h w o =
    let rest : take (length others - 1) (drop 1 others) ≡ drop (k + 1) l =
    ap (λ n. take n (drop 1 others)) (sym (length-drop 1 others)) ∙ take-length (drop 1 others) ∙ ap (drop 1) o ∙ drop-drop 1 k l in
    first_part m l k h ∙ ap (λ w. w ∷ parts_of m (drop (k + 1) l)) (sym w) ∙ ap (λ r. part ∷ parts_of m r) (sym rest)
