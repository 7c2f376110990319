use Rattle.std.proofs.Common.{◌≡◌, ◌+◌, ◌-◌, ◌≤◌, ◌++◌, length, take}
use Rattle.block_pool.specs.Pool.{AreOf, WritesTo}
use Rattle.block_pool.specs.Chain.{holds}
use Rattle.block_pool.proofs.chain.Chain.push_all.Given as goal

abbrev pub invariant-loop-done : goal.invariant-loop-done
invariant-loop-done l = record {
  bytes : holds l.pool l.self ≡ holds l.initial.pool l.initial.self ++ take l.done l.bytes;
  count : l.self.count ≡ l.initial.self.count + l.done;
  most : l.done ≤ length l.bytes;
  blocks : l.self.blocks ≡ l.initial.self.blocks;
  writes : WritesTo l.initial.self.blocks l.initial.pool l.pool;
  of_pool : AreOf l.pool l.self.blocks;
}

abbrev pub decreases-loop-done : goal.decreases-loop-done
decreases-loop-done l = length l.bytes - l.done
