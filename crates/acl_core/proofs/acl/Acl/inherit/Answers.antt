use Rattle.acl_core.proofs.ModeListLemmas.{inherited_is_acl}
use Rattle.acl_core.proofs.acl.Acl.inherit.Goals as goal

pub invariant_of-result : goal.invariant_of-result
invariant_of-result c = rw (c.inherited_list.ensures, c.as_slice.ensures.value) (inherited_is_acl c.self.inside.entries.items c.args.mode c.self.invariant)
