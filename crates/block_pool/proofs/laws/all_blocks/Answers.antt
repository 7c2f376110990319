use Rattle.block_pool.proofs.LeaseLemmas.{all_lent, all_before, leased_all, length_all_leased, all_rearranged}
use Rattle.block_pool.proofs.laws.all_blocks.Goals as goal

pub returns-clause-lends : goal.returns-clause-lends
returns-clause-lends c = λ lease leased old new lent. (all_lent lease old new leased lent, all_before lease old new leased lent)

pub returns-clause-of_pool : goal.returns-clause-of_pool
returns-clause-of_pool c = leased_all

pub returns-clause-count : goal.returns-clause-count
returns-clause-count c = length_all_leased

pub returns-clause-order : goal.returns-clause-order
returns-clause-order c = all_rearranged
