use Rattle.block_pool.proofs.LeaseLemmas.{leases_apart, leased_part, leased_rearranged}
use Rattle.block_pool.proofs.laws.leases_apart.Goals as goal

pub returns-clause-apart : goal.returns-clause-apart
returns-clause-apart c = leases_apart

pub returns-clause-part : goal.returns-clause-part
returns-clause-part c = leased_part

pub returns-clause-order : goal.returns-clause-order
returns-clause-order c = leased_rearranged
