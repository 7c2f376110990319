use Rattle.acl_core.proofs.DecidingLemmas.{user_alone}
use Rattle.acl_core.proofs.laws.user_decides_alone.Goals as goal

pub returns : goal.returns
returns c = user_alone
