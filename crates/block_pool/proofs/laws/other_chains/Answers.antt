use Rattle.block_pool.proofs.CircleLemmas.{holds_apart}
use Rattle.block_pool.proofs.laws.other_chains.Goals as goal

pub returns : goal.returns
returns c = holds_apart
