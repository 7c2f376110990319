-- The first line of a text.
use Rattle.std.proofs.Common.{◌≡◌, ℕ, zero, suc, ◌+◌, ◌<◌, ◌≤◌, true, false, List, [], ◌∷◌, ◌++◌, Some}
use Rattle.std.proofs.Common.{length, get_or, take, drop, drop-cons, add-one, length-append, append_assoc, refl, sym, ap, ◌∙◌, arith, eqb-true}
use Rattle.std.specs.Prelude.{position}
use Rattle.std.proofs.lemmas.List.{take-append-drop}
use Rattle.std.proofs.lemmas.List.Quantifiers.{position-Some}
use Rattle.user_db.specs.Lines.{is_newline}
use Rattle.tty_host.specs.OneLine.{is_one_line, IsCutLine}

-- bytes before the first newline are of one line
before-newline : (xs : List ℕ) (k : ℕ) → k ≤ length xs → ((i : ℕ) → i < k → is_newline (get_or xs i 0) ≡ false) → is_one_line (take k xs) ≡ true
before-newline xs zero few h = refl
before-newline [] (suc k) few h = absurd (omega (arith, few))
before-newline (b ∷ xs) (suc k) few h =
    rw (h 0 (omega arith)) (before-newline xs k (omega (arith, few)) (λ i within. h (suc i) (omega (arith, within))))

pub cut-parts : (text line more : List ℕ) (at : ℕ) → position is_newline text ≡ Some at → line ≡ take at text → more ≡ drop (at + 1) text
    → IsCutLine text line more
cut-parts text line more at h line-is more-is =
    let first = position-Some is_newline text at 0 h in
    let newline : get_or text at 0 ≡ 10 = eqb-true _ _ first.1 in
    let step : drop at text ≡ 10 ∷ drop (at + 1) text = rw (drop-cons text at 0 first.0, newline, add-one at) refl in
    record {
      parts = rw (line-is, more-is) (sym (take-append-drop at text) ∙ ap (λ others. take at text ++ others) step);
      one_line = rw line-is (before-newline text at (omega (arith, first.0)) first.2);
    }

-- what follows the text follows what is behind its first line
pub cut-text : (text line more others : List ℕ) → IsCutLine text line more → text ++ others ≡ line ++ 10 ∷ (more ++ others)
cut-text text line more others cut = ap (λ t. t ++ others) cut.parts ∙ append_assoc line (10 ∷ more) others

pub cut-length : (text line more : List ℕ) → IsCutLine text line more → length text ≡ length line + (1 + length more)
cut-length text line more cut = ap length cut.parts ∙ length-append line (10 ∷ more) ∙ omega arith
