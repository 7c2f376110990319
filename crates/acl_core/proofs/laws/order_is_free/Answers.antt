use Rattle.acl_core.proofs.FaultLemmas.{same_acl}
use Rattle.acl_core.proofs.laws.order_is_free.Goals as goal

pub returns : goal.returns
returns c = same_acl
