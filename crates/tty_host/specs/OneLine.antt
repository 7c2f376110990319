-- Bytes of one line.
use Rattle.std.specs.Prelude.{◌≡◌, ℕ, Bool, true, not, List, ◌∷◌, ◌++◌}
use Rattle.std.specs.List.{list_all}
use Rattle.user_db.specs.Lines.{is_newline}

-- no newline is among them
abbrev pub is_one_line : List ℕ → Bool
is_one_line bytes = list_all (λ b. not (is_newline b)) bytes

-- a text is a line, a newline, and what follows that
pub record IsCutLine (text line more : List ℕ) : Type 0 where
  pub parts : text ≡ line ++ 10 ∷ more
  pub one_line : is_one_line line ≡ true
