use Rattle.std.proofs.Common.{rules}
use Rattle.label_core.proofs.subject.inside.Goals as goal

pub returns-then-dominates : goal.returns-then-dominates
returns-then-dominates c = search rules
