-- Where a text leaves the grammar.
use Rattle.std.specs.Prelude.{ℕ, ◌+◌, ◌<◌, ◌≤◌, List, ◌++◌, length, take, Result, Ok, Err, ⊤}
use Rattle.std.specs.List.{AllByRecursion}
use Rattle.sh_text.specs.declared.fault.ShFault.{ShFault}
use Rattle.sh_text.specs.declared.fault.ShFault.TheVariants as fault
use Rattle.sh_text.specs.declared.tree.Line.{Line}
use Rattle.sh_text.specs.Grammar.{SpellsLine}

-- numbers that are bytes
abbrev pub AreBytes : List ℕ → Type 0
AreBytes bytes = AllByRecursion (λ b. b < 256) bytes

-- with some bytes behind it the front is a text that spells a line
abbrev pub BeginsLine : List ℕ → Type 0
BeginsLine front = (more : List ℕ) × AreBytes more × (line : Line) × SpellsLine (front ++ more) line

-- the place is the first byte that no line has after those before it, or the end
pub record IsFirstFault (text : List ℕ) (place : ℕ) : Type 0 where
  pub within : place ≤ length text
  pub before : BeginsLine (take place text)
  pub there : place < length text → BeginsLine (take (place + 1) text) → ⊥

-- what was returned is the line that the text spells, or the first fault of a text that spells none, but where memory ran
-- out
abbrev pub ReadsByGrammar : List ℕ → Result Line ShFault → Type 0
ReadsByGrammar text (Ok line) = SpellsLine text line
ReadsByGrammar text (Err (fault.Text at)) = IsFirstFault text at × ((line : Line) → SpellsLine text line → ⊥)
ReadsByGrammar text (Err fault.NoMemory) = ⊤
