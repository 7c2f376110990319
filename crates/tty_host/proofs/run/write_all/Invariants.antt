use Rattle.std.proofs.Common.{◌≡◌, ◌≤◌, ◌-◌, length, take}
use Rattle.edge_io.specs.Outside.{Appended}
use Rattle.tty_host.proofs.run.write_all.Given as goal

abbrev pub invariant-loop-at : goal.invariant-loop-at
invariant-loop-at g l = record {
  within : l.at ≤ length l.bytes;
  written : Appended (g.K.Sink.written l.fn.out) (g.K.Sink.written l.out) (take l.at l.bytes);
  no_fault : g.K.Sink.faults l.out ≡ g.K.Sink.faults l.fn.out;
  grows : g.K.Sink.faults l.fn.out ≤ g.K.Sink.faults l.out;
}

abbrev pub decreases-loop-at : goal.decreases-loop-at
decreases-loop-at g l = length l.bytes - l.at
