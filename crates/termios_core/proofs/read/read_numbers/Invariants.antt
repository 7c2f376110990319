use Rattle.std.proofs.Common.{◌≡◌, Some, map}
use Rattle.termios_core.specs.Reading.{each, byte_of}
use Rattle.termios_core.proofs.read.read_numbers.Given as goal

-- the words so far are read
abbrev pub invariant-loop-word : goal.invariant-loop-word
invariant-loop-word l = each byte_of (map (λ w. w.now) l.yielded) ≡ Some (l.numbers.items)
