use Rattle.std.proofs.Common.{◌≡◌, drop}
use Rattle.label_core.specs.Reading.{after_literal}
use Rattle.label_core.proofs.reading.after_literal.Given as goal

-- the rest of the literal goes on with the rest of the bytes
abbrev pub invariant-loop-expected : goal.invariant-loop-expected
invariant-loop-expected l = after_literal (drop l.expected-index l.literal) l.rest ≡ after_literal l.literal l.bytes
