use Rattle.std.proofs.Common.{rules}
use Rattle.trail_core.proofs.recorded.Recorded.apply_into.Goals as goal

pub step_into-requires-clause-position : goal.step_into-requires-clause-position
step_into-requires-clause-position g c = search rules

pub returns-in-Err-clause-full : goal.returns-in-Err-clause-full
returns-in-Err-clause-full g c = search rules
