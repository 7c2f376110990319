use Rattle.std.proofs.Common.{◌≡◌, length}
use Rattle.label_core.specs.Reading.{compartments_at, compartments_within}
use Rattle.label_core.proofs.reading.compartments.Given as goal

-- the bytes that are left go on with the set so far
abbrev pub invariant-loop-n : goal.invariant-loop-n
invariant-loop-n l = compartments_within (length l.rest) l.set l.rest ≡ compartments_at l.bytes

abbrev pub decreases-loop-n : goal.decreases-loop-n
decreases-loop-n l = length l.rest
