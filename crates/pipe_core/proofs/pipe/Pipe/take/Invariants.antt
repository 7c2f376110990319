use Rattle.std.proofs.Common.{◌≡◌, ◌+◌, ◌++◌}
use Rattle.arrayvec.specs.ArrayVec.{array_vec_len}
use Rattle.block_pool.specs.Chain.{holds}
use Rattle.pipe_core.proofs.pipe.Pipe.take.Given as goal

-- what it held is what is taken and what is left
abbrev pub invariant-loop : goal.invariant-loop
invariant-loop l =
    (holds l.pool l.fn.self ≡ l.bytes.items ++ holds l.pool l.self-inside.chain)
    × (l.self-inside.chain.blocks ≡ l.fn.self.blocks)
    × (array_vec_len l.bytes ≡ l.counter)
    × (l.self-inside.chain.count + l.counter ≡ l.fn.self.count)
