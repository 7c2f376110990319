use Rattle.std.proofs.Common.{◌≡◌, ◌-◌, ◌≤◌, ◌++◌, length}
use Rattle.block_pool.specs.Chain.{holds}
use Rattle.line_disc.proofs.transfer.take_front.Given as goal

abbrev pub invariant-loop-chain : goal.invariant-loop-chain
invariant-loop-chain l = record {
  whole : l.bytes.items ++ holds l.pool l.chain ≡ holds l.pool l.initial.chain;
  most : length l.bytes.items ≤ l.max;
  blocks : l.chain.blocks ≡ l.initial.chain.blocks;
}

abbrev pub decreases-loop-chain : goal.decreases-loop-chain
decreases-loop-chain l = l.max - length l.bytes.items
