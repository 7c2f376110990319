-- Histories: the events that passes entered, in one order, each with the number of its pass.
use Rattle.std.specs.Prelude.{ℕ, ◌<◌, ◌==◌, List, All, map, filter}
use Rattle.turn_lock.specs.declared.rule.Entry.{Entry}

module _ {E : Type 0} where
  -- an event that a number entered
  abbrev pub entry : ℕ → E → Entry E
  entry number event = record { number = number; event = event }

  -- events that one number entered, in order
  abbrev pub entries : ℕ → List E → List (Entry E)
  entries number events = map (entry number) events

  -- the events of a history
  abbrev pub events_of : List (Entry E) → List E
  events_of history = map (λ e. e.event) history

  -- the events of a history that a number entered
  abbrev pub events_by : ℕ → List (Entry E) → List E
  events_by number history = events_of (filter (λ e. e.number == number) history)

  -- each entry has one of the numbers 0 to below so many
  abbrev pub AreBelow : ℕ → List (Entry E) → Type 0
  AreBelow passes history = All (λ e. e.number < passes) history
