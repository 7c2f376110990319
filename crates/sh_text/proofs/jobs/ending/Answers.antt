use Rattle.std.proofs.Common.{arith}
use Rattle.std.proofs.lemmas.Grind.{common_steps}
use Rattle.sh_text.proofs.jobs.ending.Goals as goal

pub returns-in-38-clause-gives : goal.returns-in-38-clause-gives
returns-in-38-clause-gives c = grind (arith, common_steps)
