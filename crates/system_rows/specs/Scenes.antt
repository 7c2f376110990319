-- Scenes: lines of a script, each with its answer behind an arrow. Where a line has more than one event, a semicolon parts their answers.
use Rattle.std.specs.Prelude.{ℕ, zero, suc, ◌+◌, ◌==◌, List, [], ◌∷◌, ◌++◌}
use Rattle.std.specs.Prelude.{length, take, drop, flat_map, Option, Some, None, Result, Ok, Err, if◌then◌else◌, codes}
use Rattle.std.specs.List.{slice_split}
use Rattle.std.specs.Str.{byte, bytes_eq}
use Rattle.call_words.specs.declared.event.Event.{Event}
use Rattle.call_words.specs.declared.event.Decision.{Decision}
use Rattle.script_text.specs.Reading.{events_of_line}
use Rattle.script_text.specs.Answers.{answer_line}
use Rattle.user_db.specs.declared.boot.Boot.{Boot}
use Rattle.user_db.specs.Boot.{boot_of}
use Rattle.system_model.specs.State.{State, boot, view}
use Rattle.system_model.specs.Step.{step, wakes}

-- a line and what is answered
pub record Row : Type 0 where
  pub line : List ℕ
  pub answers : List ℕ

-- a text so many times
abbrev pub times : ℕ → List ℕ → List ℕ
times zero text = []
times (suc n) text = text ++ times n text

abbrev pub arrow : List ℕ
arrow = codes " -> "

-- a row as it is written, by the bytes before the arrow and those from it on
abbrev pub row_from : List ℕ → List ℕ → Row
row_from before [] = record { line = before; answers = [] }
row_from before (b ∷ bs) =
    if bytes_eq (take (length arrow) (b ∷ bs)) arrow then record { line = before; answers = drop (length arrow) (b ∷ bs) } else row_from (before ++ b ∷ []) bs

abbrev pub row_of : List ℕ → Row
row_of text = row_from [] text

-- the answers as they are printed
abbrev pub answer_text : List ℕ → List ℕ
answer_text answers = flat_map (λ answer. answer ++ codes "\n") (slice_split (λ b. b == byte ";") answers)

-- a state of a run, the position of the next event, and what was answered
pub record Moment : Type 0 where
  pub state : State
  pub position : ℕ
  pub told : List ℕ

abbrev pub after_step : Moment → Event → State × Decision → Moment
after_step m e stepped = record {
  state = stepped.0;
  position = m.position + 1;
  told = m.told ++ answer_line e stepped.1 (wakes (view stepped.0));
}

abbrev pub after_event : Moment → Event → Moment
after_event m e = after_step m e (step m.state m.position e)

abbrev pub after_events : Moment → List Event → Moment
after_events m [] = m
after_events m (e ∷ es) = after_events (after_event m e) es

-- a bad line is answered so
abbrev pub after_line : Moment → Option (List Event) → Moment
after_line m None = record m { told = codes "bad line\n" }
after_line m (Some es) = after_events (record m { told = [] }) es

-- what is answered at the lines whose answers are not those that stand beside them, each with the number of the line
abbrev pub wrong_at : ℕ → List ℕ → List ℕ → List (ℕ × List ℕ)
wrong_at n expected told = if bytes_eq expected told then [] else (n, told) ∷ []

unfoldable pub wrong_from : ℕ → Moment → List (List ℕ) → List (ℕ × List ℕ)
wrong_from n m [] = []
wrong_from n m (text ∷ texts) =
    let r = row_of text in
    let after = after_line m (events_of_line r.line) in
    wrong_at n (answer_text r.answers) after.told ++ wrong_from (n + 1) after texts

abbrev pub moment_of : Boot → Moment
moment_of says = record { state = boot says; position = 1; told = [] }

abbrev pub wrong_by : Result Boot ℕ → List (List ℕ) → List (ℕ × List ℕ)
wrong_by (Ok says) texts = wrong_from 1 (moment_of says) texts
wrong_by (Err n) texts = (0, codes "boot line") ∷ []

-- the lines of a scene that are not answered as they say, from a boot text, each with its number and what is answered
abbrev pub wrong : List ℕ → List (List ℕ) → List (ℕ × List ℕ)
wrong boot_text texts = wrong_by (boot_of boot_text) texts
