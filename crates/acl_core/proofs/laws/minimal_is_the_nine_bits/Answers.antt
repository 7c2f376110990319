use Rattle.acl_core.proofs.ModeLemmas.{minimal_grants}
use Rattle.acl_core.proofs.laws.minimal_is_the_nine_bits.Goals as goal

pub returns : goal.returns
returns c = λ mode cred owner group want most. minimal_grants mode cred owner group want
