use Rattle.std.proofs.Common.{◌≡◌, ◌≤◌, length}
use Rattle.user_db.specs.Lines.{lines}
use Rattle.user_db.specs.Boot.{no_lines, boot_from}
use Rattle.user_db.proofs.read.read_boot.Given as goal

-- the text says what the lines so far say, followed by what the rest says
abbrev pub invariant-loop-line : goal.invariant-loop-line
invariant-loop-line l =
    (boot_from l.number l.draft (lines l.rest) ≡ boot_from 1 no_lines (lines l.fn.text))
    × (l.number ≤ 257)

abbrev pub decreases-loop-line : goal.decreases-loop-line
decreases-loop-line l = length l.rest
