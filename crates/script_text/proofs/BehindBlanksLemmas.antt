-- Words that are pushed one after the other, each behind a blank, stand as one text.
use Rattle.std.proofs.Common.{◌≡◌, ℕ, List, [], ◌++◌, ap, sym, ◌∙◌, append_assoc, append-nil}
use Rattle.std.specs.Prelude.{codes}

-- a word behind a blank
abbrev behind : List ℕ → List ℕ
behind w = codes " " ++ w

pub two_words : (front v w : List ℕ) → (front ++ behind v) ++ behind w ≡ front ++ (behind v ++ (behind w ++ []))
two_words front v w = append_assoc front (behind v) (behind w) ∙ ap (λ t. front ++ (behind v ++ t)) (sym (append-nil (behind w)))

pub three_words : (front u v w : List ℕ) → ((front ++ behind u) ++ behind v) ++ behind w ≡ front ++ (behind u ++ (behind v ++ (behind w ++ [])))
three_words front u v w = two_words (front ++ behind u) v w ∙ append_assoc front (behind u) (behind v ++ (behind w ++ []))

pub four_words : (front t u v w : List ℕ)
    → (((front ++ behind t) ++ behind u) ++ behind v) ++ behind w ≡ front ++ (behind t ++ (behind u ++ (behind v ++ (behind w ++ []))))
four_words front t u v w = three_words (front ++ behind t) u v w ∙ append_assoc front (behind t) (behind u ++ (behind v ++ (behind w ++ [])))
