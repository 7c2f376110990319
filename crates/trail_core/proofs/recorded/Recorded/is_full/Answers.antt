use Rattle.std.proofs.Common.{rules}
use Rattle.trail_core.proofs.recorded.Recorded.is_full.Goals as goal

pub returns : goal.returns
returns c = search rules
