use Rattle.std.proofs.Common.{sym}
use Rattle.acl_core.proofs.OrderLemmas.{in_order_permutes}
use Rattle.acl_core.proofs.FaultLemmas.{in_order_is_acl}
use Rattle.acl_core.proofs.acl.Acl.new.Goals as goal

pub invariant_of-result : goal.invariant_of-result
invariant_of-result c = rw c.in_order.ensures (in_order_is_acl c.args.entries.now (sym c.in-None.ensures))

pub returns-in-None-clause-same : goal.returns-in-None-clause-same
returns-in-None-clause-same c = rw c.in_order.ensures (in_order_permutes c.args.entries.now, in_order_is_acl c.args.entries.now (sym c.in-None.ensures))
