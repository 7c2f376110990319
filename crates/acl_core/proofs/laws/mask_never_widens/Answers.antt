use Rattle.acl_core.proofs.DecidingLemmas.{mask_narrows}
use Rattle.acl_core.proofs.laws.mask_never_widens.Goals as goal

pub returns : goal.returns
returns c = mask_narrows
