-- The bytes of a line that are no part of a word.
use Rattle.std.specs.Prelude.{ℕ, Bool, false, ◌||◌, ◌==◌, List, [], ◌∷◌, if◌then◌else◌}
use Rattle.std.specs.Str.{byte}

-- a blank or a tab
abbrev pub is_blank : ℕ → Bool
is_blank b = b == byte " " || b == 9

-- a bare byte that stands behind a word and not in it
abbrev pub ends_word : ℕ → Bool
ends_word b = is_blank b || b == byte ";" || b == byte "&" || b == byte "|" || b == byte "<" || b == byte ">"

-- the bytes from the first one on that is no blank
abbrev pub after_blanks : List ℕ → List ℕ
after_blanks [] = []
after_blanks (b ∷ rest) = if is_blank b then after_blanks rest else b ∷ rest

-- whether the next byte is this one
abbrev pub begins : ℕ → List ℕ → Bool
begins b [] = false
begins b (c ∷ rest) = c == b
