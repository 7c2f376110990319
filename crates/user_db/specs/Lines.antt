-- The lines of a text.
use Rattle.std.specs.Prelude.{ℕ, Bool, ◌==◌, List, [], ◌∷◌, length, if◌then◌else◌}
use Rattle.std.specs.List.{slice_split}

abbrev pub is_newline : ℕ → Bool
is_newline b = b == 10

-- the parts without an empty one at their end
abbrev pub without_empty_last : List (List ℕ) → List (List ℕ)
without_empty_last [] = []
without_empty_last (l ∷ []) = if length l == 0 then [] else l ∷ []
without_empty_last (l ∷ m ∷ ls) = l ∷ without_empty_last (m ∷ ls)

-- lines are parted by newlines, and behind the last newline stands no line where nothing does
unfoldable pub lines : List ℕ → List (List ℕ)
lines text = without_empty_last (slice_split is_newline text)
