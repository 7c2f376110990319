use Rattle.block_pool.proofs.CircleLemmas.{holds_apart}
use Rattle.pipe_core.proofs.pipe.Pipe.put.Goals as goal

pub returns-clause-others : goal.returns-clause-others
returns-clause-others c = λ other apart. holds_apart c.args.self.now.blocks c.args.pool.now c.loop-byte.pool other c.loop-byte.invariant.4 apart
