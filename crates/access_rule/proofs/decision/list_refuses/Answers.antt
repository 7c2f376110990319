use Rattle.std.proofs.Common.{rules}
use Rattle.access_rule.proofs.decision.list_refuses.Goals as goal

pub returns-then-not-node : goal.returns-then-not-node
returns-then-not-node c = search rules
