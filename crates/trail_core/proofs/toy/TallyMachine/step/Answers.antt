use Rattle.std.proofs.Common.{rules}
use Rattle.trail_core.proofs.toy.TallyMachine.step.Goals as goal

pub returns-clause-decision : goal.returns-clause-decision
returns-clause-decision c = search rules
