use Rattle.std.proofs.Common.{◌≡◌, ◌++◌, length}
use Rattle.event_load.specs.Load.{load_events}
use Rattle.tty_host.specs.Loads.{IsSummed}
use Rattle.tty_host.proofs.load.run_load.Given as goal

-- the events so far are run and summed, and the others are still to come
abbrev pub invariant-loop-event : goal.invariant-loop-event
invariant-loop-event l = record { summed : IsSummed l.run; come : l.run.trail.events ++ l.load ≡ load_events l.fn.n l.fn.start }

abbrev pub decreases-loop-event : goal.decreases-loop-event
decreases-loop-event l = length l.load
