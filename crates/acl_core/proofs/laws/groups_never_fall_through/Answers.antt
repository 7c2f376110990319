use Rattle.acl_core.proofs.DecidingLemmas.{groups_alone}
use Rattle.acl_core.proofs.laws.groups_never_fall_through.Goals as goal

pub returns : goal.returns
returns c = groups_alone
