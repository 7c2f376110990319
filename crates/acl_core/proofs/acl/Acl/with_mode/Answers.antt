use Rattle.acl_core.proofs.ModeListLemmas.{with_mode_is_acl}
use Rattle.acl_core.proofs.acl.Acl.with_mode.Goals as goal

pub invariant_of-result : goal.invariant_of-result
invariant_of-result c = rw (c.with_mode.ensures, c.as_slice.ensures.value) (with_mode_is_acl c.self.inside.entries.items c.args.mode c.self.invariant)
