use Rattle.std.proofs.Common.{◌+◌, ◌≤◌, ◌++◌, List, ℕ, drop}
use Rattle.tty_host.specs.Outputs.{Keeps}
use Rattle.tty_host.specs.Come.{to_come, budget}
use Rattle.tty_host.proofs.run.Run.feed_bytes.Given as goal

-- the bytes so far are taken
abbrev pub invariant-loop-byte : goal.invariant-loop-byte
invariant-loop-byte g l = record {
  keeps : (text : List ℕ)
      → Keeps (g.K.Sink.written l.fn.out) (to_come l.fn.self (l.bytes ++ text)) (g.K.Sink.written l.out) (to_come l.self (drop l.byte-index l.bytes ++ text));
  nearer : budget l.self + l.byte-index ≤ budget l.fn.self;
  grows : g.K.Sink.faults l.fn.out ≤ g.K.Sink.faults l.out;
}
