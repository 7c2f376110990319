use Rattle.std.proofs.Common.{arith}
use Rattle.std.proofs.lemmas.Grind.{common_steps}
use Rattle.tty_host.proofs.choice.choose.Goals as goal

pub returns-in-len2-clause-choice : goal.returns-in-len2-clause-choice
returns-in-len2-clause-choice c = grind (arith, common_steps)
