use Rattle.script_text.proofs.LinesBack.{event_back}
use Rattle.script_text.proofs.laws.events_are_read_back.Goals as goal

pub returns : goal.returns
returns c = event_back
