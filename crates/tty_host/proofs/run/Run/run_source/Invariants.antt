use Rattle.std.proofs.Common.{◌≡◌, ◌≤◌, List, ℕ, Some}
use Rattle.tty_host.specs.Outputs.{Keeps}
use Rattle.tty_host.specs.Come.{to_come, budget}
use Rattle.tty_host.proofs.run.Run.run_source.Given as goal

-- what the source still holds is what is still to come
abbrev pub invariant-loop-count : goal.invariant-loop-count
invariant-loop-count g l = record {
  keeps : (text : List ℕ) → g.S.Source.left l.fn.src ≡ Some text
      → (rest : List ℕ)
      × ((g.S.Source.left l.src ≡ Some rest) × Keeps (g.K.Sink.written l.fn.out) (to_come l.fn.self text) (g.K.Sink.written l.out) (to_come l.self rest));
  reads : g.S.Source.faults l.fn.src ≤ g.S.Source.faults l.src;
  writes : g.K.Sink.faults l.fn.out ≤ g.K.Sink.faults l.out;
}

abbrev pub decreases-loop-count : goal.decreases-loop-count
decreases-loop-count g l = budget l.self
