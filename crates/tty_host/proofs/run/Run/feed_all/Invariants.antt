use Rattle.std.proofs.Common.{◌+◌, ◌≤◌, ◌++◌, List, ℕ, length}
use Rattle.tty_host.specs.Outputs.{Keeps}
use Rattle.tty_host.specs.Come.{to_come, budget}
use Rattle.tty_host.proofs.run.Run.feed_all.Given as goal

-- the lines so far are taken
abbrev pub invariant-loop-line : goal.invariant-loop-line
invariant-loop-line g l = record {
  keeps : (text : List ℕ) → Keeps (g.K.Sink.written l.fn.out) (to_come l.fn.self (l.bytes ++ text)) (g.K.Sink.written l.out) (to_come l.self (l.rest ++ text));
  nearer : budget l.self + length l.bytes ≤ budget l.fn.self + length l.rest;
  grows : g.K.Sink.faults l.fn.out ≤ g.K.Sink.faults l.out;
}

abbrev pub decreases-loop-line : goal.decreases-loop-line
decreases-loop-line g l = length l.rest
