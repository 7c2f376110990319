-- The trail of a run: the printed lines of its events.
use Rattle.std.specs.Prelude.{ℕ, List, [], ◌∷◌, ◌++◌, codes}
use Rattle.std.specs.List.{AllByRecursion}
use Rattle.call_words.specs.declared.event.Event.{Event}
use Rattle.call_words.specs.Events.{MayBeUsed}
use Rattle.script_text.specs.Grammar.{Fits, fields}
use Rattle.script_text.specs.Printing.{event_line, HasLine}

-- the printed lines of events, each with its newline
abbrev pub trail : List Event → List ℕ
trail [] = []
trail (e ∷ es) = event_line e ++ (codes "\n" ++ trail es)

-- an event that the machine may be asked, with the values that its fields can have, whose line has at most 4,096 bytes
pub record IsPrintable (e : Event) : Type 0 where
  pub may : MayBeUsed e
  pub fit : AllByRecursion Fits (fields e)
  pub short : HasLine e
