use Rattle.block_pool.proofs.BlockLemmas.{writes_none, writes_wider, writes_in_turn}
use Rattle.block_pool.proofs.laws.writes_add_up.Goals as goal

pub returns-clause-none : goal.returns-clause-none
returns-clause-none c = writes_none

pub returns-clause-wider : goal.returns-clause-wider
returns-clause-wider c = writes_wider

pub returns-clause-in_turn : goal.returns-clause-in_turn
returns-clause-in_turn c = writes_in_turn
