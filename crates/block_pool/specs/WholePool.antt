-- What holds of every pool.
use Rattle.std.specs.Prelude.{◌≡◌, ℕ, ◌^◌, ◌<◌, ◌≤◌, [], length, All}
use Rattle.block_pool.specs.Pool.{PoolState, AreOf}
use Rattle.block_pool.specs.declared.TheConstants.{BLOCK_BYTES}

-- each block is whole, no block is free twice, and there is room in the list of free blocks for all
pub record IsWholePool (pool : PoolState) (room : ℕ) : Type 0 where
  pub whole : All (λ bytes. length bytes ≡ BLOCK_BYTES) pool.blocks
  pub free : AreOf pool []
  pub enough : length pool.blocks ≤ room
  pub few : length pool.blocks < 2 ^ 16
