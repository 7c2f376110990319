use Rattle.script_text.proofs.LinesBack.{event_back}
use Rattle.script_text.proofs.event_lines.print_event.Goals as goal

pub returns-clause-back : goal.returns-clause-back
returns-clause-back c =
    rw (c.push_bytes.ensures.bytes, c.requires.none, c.as_slice.ensures.value, c.push_event.ensures.line)
    (event_back c.args.event.now c.requires.used c.push_event.ensures.fit c.requires.fits)
