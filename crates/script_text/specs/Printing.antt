-- The lines that are printed of events: the words of the fields, with a blank between each two, and none left out.
use Rattle.std.specs.Prelude.{ℕ, ◌≤◌, List, [], ◌∷◌, ◌++◌, length, codes}
use Rattle.sys_types.specs.declared.limits.TheConstants.{SCRIPT_LINE_BYTES}
use Rattle.call_words.specs.declared.event.Event.{Event}
use Rattle.script_text.specs.Grammar.{Field, word_of, fields}

-- words, each behind a blank
abbrev pub behind_blanks : List Field → List ℕ
behind_blanks [] = []
behind_blanks (f ∷ fs) = codes " " ++ word_of f ++ behind_blanks fs

-- the first word, and each other behind a blank
abbrev pub line_text : List Field → List ℕ
line_text [] = []
line_text (f ∷ fs) = word_of f ++ behind_blanks fs

-- the line of an event, without its newline
abbrev pub event_line : Event → List ℕ
event_line e = line_text (fields e)

-- an event fits where its line has at most 4,096 bytes
abbrev pub HasLine : Event → Type 0
HasLine e = length (event_line e) ≤ SCRIPT_LINE_BYTES
