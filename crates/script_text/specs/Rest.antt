-- The words of what is left of a line, or of another text that is parted by a byte.
use Rattle.std.specs.Prelude.{ℕ, List, [], ◌∷◌, Option, Some, None}
use Rattle.script_text.specs.Words.{parts_of}

-- none where nothing is left, not even an empty word
abbrev pub parts_after : ℕ → Option (List ℕ) → List (List ℕ)
parts_after mark None = []
parts_after mark (Some left) = parts_of mark left

-- the word, where there is one alone
abbrev pub only_word : List (List ℕ) → Option (List ℕ)
only_word (w ∷ []) = Some w
only_word _ = None

-- the words, where there are two
abbrev pub both_words : List (List ℕ) → Option (List ℕ × List ℕ)
both_words (v ∷ w ∷ []) = Some (v, w)
both_words _ = None

-- the words, where there are three
abbrev pub three_words : List (List ℕ) → Option (List ℕ × List ℕ × List ℕ)
three_words (u ∷ v ∷ w ∷ []) = Some (u, v, w)
three_words _ = None
