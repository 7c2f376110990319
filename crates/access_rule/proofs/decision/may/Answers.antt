use Rattle.std.proofs.Common.{rules}
use Rattle.access_rule.proofs.decision.may.Goals as goal

pub returns-then-not-dominates-2 : goal.returns-then-not-dominates-2
returns-then-not-dominates-2 c = search rules

pub returns-then-list_refuses : goal.returns-then-list_refuses
returns-then-list_refuses c = search rules
