use Rattle.std.proofs.Common.{◌≡◌, ◌+◌, ◌++◌, take}
use Rattle.block_pool.specs.Pool.{AreOf, WritesTo}
use Rattle.block_pool.specs.Chain.{holds}
use Rattle.pipe_core.proofs.pipe.Pipe.put.Given as goal

-- the bytes so far stand behind those that it held
abbrev pub invariant-loop-byte : goal.invariant-loop-byte
invariant-loop-byte l =
    (holds l.pool l.self-inside.chain ≡ holds l.fn.pool l.fn.self ++ take l.byte-index l.bytes)
    × (l.self-inside.chain.blocks ≡ l.fn.self.blocks)
    × (l.self-inside.chain.count ≡ l.fn.self.count + l.byte-index)
    × AreOf l.pool l.fn.self.blocks
    × WritesTo l.fn.self.blocks l.fn.pool l.pool
