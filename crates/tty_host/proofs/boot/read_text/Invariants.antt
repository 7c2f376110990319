use Rattle.std.proofs.Common.{◌≡◌, ◌-◌, ◌≤◌, ◌++◌, List, ℕ, Some, length}
use Rattle.tty_host.proofs.boot.read_text.Given as goal

-- what was read so far, followed by what the source still holds, is its text
abbrev pub invariant-loop-buffer : goal.invariant-loop-buffer
invariant-loop-buffer g l = record {
  held : (text : List ℕ) → g.B.Source.left l.fn.source ≡ Some text → (rest : List ℕ) × (g.B.Source.left l.source ≡ Some rest) × (text ≡ l.text.items ++ rest);
  bounded : length l.text.items ≤ 1049344;
  reads : g.B.Source.faults l.fn.source ≤ g.B.Source.faults l.source;
}

abbrev pub decreases-loop-buffer : goal.decreases-loop-buffer
decreases-loop-buffer g l = 1048833 - length l.text.items
