-- A list of bytes in blocks of a pool.
use Rattle.std.specs.Prelude.{ℕ, ◌+◌, ◌-◌, ◌*◌, ◌%◌, List, length, map, slice_index}
use Rattle.std.specs.List.{range_with_len}
use Rattle.block_pool.specs.Pool.{PoolState, bytes_in}
use Rattle.block_pool.specs.declared.TheConstants.{BLOCK_BYTES}

-- what contracts see of a chain: its blocks, at which of their bytes its list begins, and how long that is
pub record ChainState : Type 0 where
  pub blocks : List ℕ
  pub first : ℕ
  pub count : ℕ

-- how many bytes a chain's blocks have
abbrev pub places : ChainState → ℕ
places chain = BLOCK_BYTES * length chain.blocks

-- how many bytes more a chain takes
abbrev pub room_of : ChainState → ℕ
room_of chain = places chain - chain.count

-- the list of bytes that a chain holds: from its first on, round its blocks in a circle
unfoldable pub holds : PoolState → ChainState → List ℕ
holds pool chain = map (λ i. slice_index (bytes_in pool chain.blocks) ((chain.first + i) % places chain)) (range_with_len 0 chain.count)
