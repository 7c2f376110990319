use Rattle.std.proofs.Common.{◌≡◌, ◌+◌, ◌≤◌, ◌++◌, List, ℕ, Option, drop}
use Rattle.call_words.specs.declared.event.Event.{Event}
use Rattle.script_text.specs.Reading.{arrivals}
use Rattle.tty_host.specs.Outputs.{Keeps}
use Rattle.tty_host.specs.Come.{come, events_left}
use Rattle.tty_host.proofs.run.Run.run_input.Given as goal

-- the events so far are run
abbrev pub invariant-loop-byte : goal.invariant-loop-byte
invariant-loop-byte g l = record {
  keeps : (es : List Event) (bad : Option ℕ)
      → Keeps (g.K.Sink.written l.fn.out) (come l.fn.self (arrivals l.line l.bytes ++ es) bad)
      (g.K.Sink.written l.out) (come l.self (drop l.byte-index (arrivals l.line l.bytes) ++ es) bad);
  room : events_left l.self + l.byte-index ≡ events_left l.fn.self;
  number : l.self.number ≡ l.fn.self.number;
  grows : g.K.Sink.faults l.fn.out ≤ g.K.Sink.faults l.out;
}
