use Rattle.acl_core.proofs.DecidingLemmas.{owner_alone}
use Rattle.acl_core.proofs.laws.owner_decides_alone.Goals as goal

pub returns : goal.returns
returns c = owner_alone
