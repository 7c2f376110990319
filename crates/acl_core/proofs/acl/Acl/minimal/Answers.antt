use Rattle.acl_core.proofs.ModeListLemmas.{minimal_is_acl}
use Rattle.acl_core.proofs.acl.Acl.minimal.Goals as goal

pub invariant_of-result : goal.invariant_of-result
invariant_of-result c = rw c.minimal_list.ensures (minimal_is_acl c.args.mode)
