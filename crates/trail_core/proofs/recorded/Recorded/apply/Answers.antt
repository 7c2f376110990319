use Rattle.std.proofs.Common.{rules}
use Rattle.trail_core.proofs.recorded.Recorded.apply.Goals as goal

pub step-requires-clause-position : goal.step-requires-clause-position
step-requires-clause-position g c = search rules

pub returns-in-Err-clause-full : goal.returns-in-Err-clause-full
returns-in-Err-clause-full g c = search rules
