use Rattle.acl_core.proofs.DecidingLemmas.{other_alone}
use Rattle.acl_core.proofs.laws.other_decides_alone.Goals as goal

pub returns : goal.returns
returns c = other_alone
