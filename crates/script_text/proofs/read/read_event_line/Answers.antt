use Rattle.std.proofs.lemmas.List.{length-map}
use Rattle.script_text.proofs.read.read_event_line.Goals as goal

pub arrivals-requires : goal.arrivals-requires
arrivals-requires c = rw (c.in-Input.is, length-map) at c.in_ok-read_event_line_into.ensures.some
