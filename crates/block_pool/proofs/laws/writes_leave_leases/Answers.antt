use Rattle.block_pool.proofs.LeaseLemmas.{leased_written, all_written}
use Rattle.block_pool.proofs.laws.writes_leave_leases.Goals as goal

pub returns-clause-of_pool : goal.returns-clause-of_pool
returns-clause-of_pool c = λ own leased old new. leased_written own old new leased

pub returns-clause-all : goal.returns-clause-all
returns-clause-all c = λ own leased old new. all_written own old new leased
