use Rattle.std.proofs.Common.{rules}
use Rattle.trail_core.proofs.toy.TallyMachine.still_waits.Goals as goal

pub returns-in-Draw : goal.returns-in-Draw
returns-in-Draw c = search rules
