use Rattle.std.proofs.Common.{◌≡◌, Some, option_map, map}
use Rattle.termios_core.specs.Flags.{flags_of}
use Rattle.termios_core.specs.Reading.{each, flag_of}
use Rattle.termios_core.proofs.read.read_words.Given as goal

-- the flags of the words so far are on
abbrev pub invariant-loop-word : goal.invariant-loop-word
invariant-loop-word l = option_map flags_of (each flag_of (map (λ w. w.now) l.yielded)) ≡ Some l.flags
