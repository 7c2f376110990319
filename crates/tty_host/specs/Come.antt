-- What a run still writes.
use Rattle.std.specs.Prelude.{ℕ, ◌+◌, ◌-◌, ◌*◌, List, ◌++◌, Option, length}
use Rattle.call_words.specs.declared.event.Event.{Event}
use Rattle.user_db.specs.Lines.{lines}
use Rattle.script_model.specs.Reading.{reads_from}
use Rattle.script_model.specs.Script.{Output}
use Rattle.sys_types.specs.declared.limits.TheConstants.{TRAIL_EVENTS}
use Rattle.system_model.specs.State.{View, view}
use Rattle.kern_core.specs.Trails.{state_of}
use Rattle.script_model.specs.Seen.{out_seen}
use Rattle.tty_host.specs.declared.run.Run.{Run}
use Rattle.tty_host.specs.Outputs.{behind}

-- what calls see after the events so far
abbrev pub seen_so_far : Run → View
seen_so_far run = view (state_of run.trail.root run.trail.events)

-- for how many events more there is room
abbrev pub events_left : Run → ℕ
events_left run = TRAIL_EVENTS - length run.trail.events

-- the answers that are gathered, and what is answered where these events are asked, and then a bad line comes or none
abbrev pub come : Run → List Event → Option ℕ → Output
come run events bad = behind run.output.items (out_seen (seen_so_far run) (events_left run) (record { events = events; bad = bad }))

-- the same where these lines come, of which the first has the run's number
abbrev pub lines_come : Run → List (List ℕ) → Output
lines_come run ls = behind run.output.items (out_seen (seen_so_far run) (events_left run) (reads_from run.number ls))

-- the same where they come behind the line of that number
abbrev pub lines_behind : Run → List (List ℕ) → Output
lines_behind run ls = behind run.output.items (out_seen (seen_so_far run) (events_left run) (reads_from (run.number + 1) ls))

-- where this text follows the bytes of the line so far
abbrev pub to_come : Run → List ℕ → Output
to_come run text = lines_come run (lines (run.line.items ++ text))

-- how many bytes a run can take at most
abbrev pub budget : Run → ℕ
budget run = events_left run * 4097 + (4096 - length run.line.items)
