-- The lines of a text, one at a time.
use Rattle.std.proofs.Common.{◌≡◌, ℕ, ◌+◌, ◌<◌, ◌≤◌, false, true, List, [], ◌∷◌, length, take, drop, Some, None, refl, ap, ◌∙◌, arith, ltb, cond, ltb-true, ltb-false}
use Rattle.std.specs.Prelude.{position}
use Rattle.std.specs.List.{slice_split, position_or_len}
use Rattle.std.proofs.lemmas.List.Splits.{slice_split_none, slice_split_first, length-slice_split}
use Rattle.std.proofs.lemmas.List.Sums.{fails_before_first}
use Rattle.user_db.specs.Lines.{is_newline, without_empty_last, lines}

-- a text without a byte has no line
pub lines_none : lines [] ≡ []
unfolding lines
lines_none = refl

-- a line that has others behind it stays
kept_before : (l : List ℕ) (parts : List (List ℕ)) → 0 < length parts → without_empty_last (l ∷ parts) ≡ l ∷ without_empty_last parts
kept_before l [] some = absurd (omega arith)
kept_before l (m ∷ parts) some = refl

-- a last line with bytes stays
kept_last : (l : List ℕ) → 0 < length l → without_empty_last (l ∷ []) ≡ l ∷ []
kept_last [] some = absurd (omega arith)
kept_last (b ∷ l) some = grind arith

-- a text with bytes and without a newline is one line
pub lines_one : (t : List ℕ) → 0 < length t → position is_newline t ≡ None → lines t ≡ t ∷ lines []
unfolding lines
lines_one t some h =
    let p = position_or_len is_newline t in
    elim (ltb p (length t)) as (λ b. ltb p (length t) ≡ b → cond b (Some p) None ≡ None → without_empty_last (slice_split is_newline t) ≡ t ∷ []) [
      | true ↦ λ test none. cc
      | false ↦ λ test none.
          let all : length t ≤ p = ltb-false p (length t) test in
          ap without_empty_last (slice_split_none is_newline t (λ k d below. fails_before_first is_newline t k d (omega arith)))
          ∙ kept_last t some
    ] refl h

-- the first line stands before the first newline
pub lines_more : (t : List ℕ) (k : ℕ) → position is_newline t ≡ Some k → lines t ≡ take k t ∷ lines (drop (k + 1) t)
unfolding lines
lines_more t k h =
    let p = position_or_len is_newline t in
    elim (ltb p (length t)) as
    (λ b. ltb p (length t) ≡ b → cond b (Some p) None ≡ Some k
    → without_empty_last (slice_split is_newline t) ≡ take k t ∷ without_empty_last (slice_split is_newline (drop (k + 1) t))) [
      | true ↦ λ test some.
          let here : p ≡ k = cc in
          ap without_empty_last (slice_split_first is_newline t 0 (ltb-true p (length t) test))
          ∙ kept_before _ (slice_split is_newline (drop (p + 1) t)) (omega (arith, length-slice_split is_newline (drop (p + 1) t)))
          ∙ ap (λ at. take at t ∷ without_empty_last (slice_split is_newline (drop (at + 1) t))) here
      | false ↦ λ test some. cc
    ] refl h
