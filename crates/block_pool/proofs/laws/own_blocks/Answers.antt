use Rattle.block_pool.proofs.CircleLemmas.{holds_same, length-holds}
use Rattle.block_pool.proofs.laws.own_blocks.Goals as goal

pub returns-clause-same : goal.returns-clause-same
returns-clause-same c = holds_same

pub returns-clause-count : goal.returns-clause-count
returns-clause-count c = length-holds
