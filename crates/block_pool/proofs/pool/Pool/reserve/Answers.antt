use Rattle.std.proofs.Common.{rules, arith}
use Rattle.std.proofs.lemmas.Grind.{common_steps}
use Rattle.block_pool.proofs.LeaseLemmas.{leased_lent}
use Rattle.block_pool.proofs.pool.Pool.reserve.Goals as goal

pub returns-clause-others : goal.returns-clause-others
returns-clause-others c =
    λ leased of_pool. leased_lent c.of-lease.result c.args.self.now _ leased (record { blocks = search rules; free = grind (arith, common_steps) }) of_pool
