-- Pipes whose bytes are in the blocks of a pool.
use Rattle.std.specs.Prelude.{◌≡◌, ℕ, List, [], length, Option, Some, None, is_some, if◌then◌else◌}
use Rattle.std.specs.List.{All, flat_map}
use Rattle.block_pool.specs.Pool.{PoolState}
use Rattle.block_pool.specs.Others.{KeepsOthers}
use Rattle.block_pool.specs.Chain.{ChainState, holds}
use Rattle.pipe_core.specs.Pipes.{Held, Pipes, map_pipes}

-- the pipes with the bytes that they hold
abbrev pub bytes_of : PoolState → Pipes ChainState → Pipes (List ℕ)
bytes_of pool pipes = map_pipes (holds pool) pipes

abbrev pub blocks_in : Option (Held ChainState) → List ℕ
blocks_in None = []
blocks_in (Some h) = h.contents.blocks

-- the blocks of all pipes
abbrev pub blocks_of : Pipes ChainState → List ℕ
blocks_of pipes = flat_map blocks_in pipes

-- a number that has a pipe has its 32 blocks
abbrev pub HoldsBlocks : Option (Held ChainState) → Type 0
HoldsBlocks place = length (blocks_in place) ≡ (if is_some place then 32 else 0)

-- what each call on a pipe keeps: that each pipe has its blocks, and what others have of the pool
pub record KeepsPipes (old_pool new_pool : PoolState) (old new : Pipes ChainState) : Type 0 where
  pub blocks : All HoldsBlocks old → All HoldsBlocks new
  pub others : KeepsOthers (blocks_of old) (blocks_of new) old_pool new_pool
