-- The events of a line, as they are kept.
use Rattle.std.specs.Prelude.{List, [], ◌∷◌}
use Rattle.call_words.specs.declared.event.Event.{Event}
use Rattle.script_text.specs.declared.events.Form.{Form}
use Rattle.script_text.specs.declared.events.Form.TheVariants.{One, Arrivals}
use Rattle.script_text.specs.declared.events.LineKind.{LineKind}
use Rattle.script_text.specs.declared.events.LineKind.TheVariants as kind
use Rattle.script_text.specs.Reading.{arrivals}

abbrev pub events_in : Form → List Event
events_in (One e) = e ∷ []
events_in (Arrivals line bs) = arrivals line bs

-- the events that a line says, of which one stands beside its kind
abbrev pub events_beside : Event → LineKind → List Event
events_beside e kind.Event = e ∷ []
events_beside e (kind.Input line bs) = arrivals line bs
