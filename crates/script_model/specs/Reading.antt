-- What a script asks: the events of its lines up to the first bad one.
use Rattle.std.specs.Prelude.{ℕ, ◌+◌, List, [], ◌∷◌, ◌++◌, Option, Some, None}
use Rattle.call_words.specs.declared.event.Event.{Event}
use Rattle.script_text.specs.Reading.{events_of_line}
use Rattle.user_db.specs.Lines.{lines}

-- what a text asks: the events of its lines up to the first bad line, and that line's number
pub record ScriptEvents : Type 0 where
  pub events : List Event
  pub bad : Option ℕ

abbrev pub after_line : Option (List Event) → ℕ → ScriptEvents → ScriptEvents
after_line None n more = record { events = []; bad = Some n }
after_line (Some es) n more = record { events = es ++ more.events; bad = more.bad }

-- the first of the lines has the number n
abbrev pub reads_from : ℕ → List (List ℕ) → ScriptEvents
reads_from n [] = record { events = []; bad = None }
reads_from n (l ∷ ls) = after_line (events_of_line l) n (reads_from (n + 1) ls)

-- a script has lines as a boot text has
abbrev pub reads : List ℕ → ScriptEvents
reads text = reads_from 1 (lines text)
