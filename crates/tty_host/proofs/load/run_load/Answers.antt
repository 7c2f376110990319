use Rattle.tty_host.proofs.LoadLemmas.{room-left}
use Rattle.tty_host.proofs.load.run_load.Goals as goal

pub run_event-requires-clause-room : goal.run_event-requires-clause-room
run_event-requires-clause-room c =
    room-left c.args.n c.args.start c.loop-event.run.trail.events c.loop-event.load _ c.in-Some.event c.loop-event.invariant.come c.in-Some.ensures.event
    c.requires
