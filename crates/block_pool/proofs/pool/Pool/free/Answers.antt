use Rattle.std.proofs.Common.{[], arith}
use Rattle.std.proofs.lemmas.Grind.{common_steps}
use Rattle.block_pool.proofs.LeaseLemmas.{length_leased}
use Rattle.block_pool.proofs.pool.Pool.free.Goals as goal

pub overflow_cast-result : goal.overflow_cast-result
overflow_cast-result c =
    let within = length_leased (record { blocks = c.self.inside.blocks.items; free = c.self.inside.free.items }) [] c.self.invariant.free in
    grind (arith, common_steps, within)
