-- A run by what calls see alone, from any moment on.
use Rattle.std.specs.Prelude.{ℕ, List, [], ◌∷◌, ◌++◌, map, take}
use Rattle.call_words.specs.declared.event.Event.{Event}
use Rattle.system_model.specs.State.{View}
use Rattle.system_model.specs.Step.{view_after, answer_to, wakes}
use Rattle.script_model.specs.Reading.{ScriptEvents}
use Rattle.script_text.specs.Answers.{answer_line}
use Rattle.script_model.specs.Script.{Output, stop_before, run_end}

-- the answer lines of events that come next
unfoldable pub answers_seen : View → List Event → List ℕ
answers_seen v [] = []
answers_seen v (e ∷ es) = answer_line e (answer_to v e) (wakes (view_after v e)) ++ answers_seen (view_after v e) es

unfoldable pub stops_seen : View → List Event → List (List ℕ)
stops_seen v [] = []
stops_seen v (e ∷ es) = stop_before v e ++ map (λ front. answer_line e (answer_to v e) (wakes (view_after v e)) ++ front) (stops_seen (view_after v e) es)

-- what is still written where there is room for so many events
unfoldable pub out_seen : View → ℕ → ScriptEvents → Output
out_seen v room script = record {
  bytes = answers_seen v (take room script.events) ++ (run_end room script).bytes;
  status = (run_end room script).status;
  stops = stops_seen v (take room script.events);
}

-- the line of an event, and what is written after it
abbrev pub with_line : View → Event → List ℕ → Output → Output
with_line v e line more = record { bytes = line ++ more.bytes; status = more.status; stops = stop_before v e ++ map (λ front. line ++ front) more.stops }
