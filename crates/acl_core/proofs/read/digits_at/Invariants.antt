use Rattle.std.proofs.Common.{◌≡◌, length}
use Rattle.acl_core.specs.Reading.{digits_at}
use Rattle.acl_core.proofs.read.digits_at.Given as goal

-- the number so far goes on as the whole does
abbrev pub invariant-loop-rest : goal.invariant-loop-rest
invariant-loop-rest l = digits_at l.n l.rest ≡ digits_at l.fn.n l.bytes

abbrev pub decreases-loop-rest : goal.decreases-loop-rest
decreases-loop-rest l = length l.rest
