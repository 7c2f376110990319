use Rattle.acl_core.proofs.ModeLemmas.{inherited_narrows}
use Rattle.acl_core.proofs.laws.inherited_never_widens.Goals as goal

pub returns : goal.returns
returns c = inherited_narrows
