use Rattle.std.proofs.Common.{rules}
use Rattle.acl_core.proofs.walk.Findings.answer.Goals as goal

pub returns-then-is_owner : goal.returns-then-is_owner
returns-then-is_owner c = search rules
