-- Blocks of bytes, each of which is free or leased.
use Rattle.std.specs.Prelude.{◌≡◌, ℕ, ◌≤◌, ◌==◌, List, ◌++◌, length, nat_lt, count_by, slice_index_or, [], if◌then◌else◌}
use Rattle.std.specs.List.{Contains, flat_map}

-- what contracts see of a pool: what is in each of its blocks, and the numbers of the free ones
pub record PoolState : Type 0 where
  pub blocks : List (List ℕ)
  pub free : List ℕ

-- what is in the block of a number
abbrev pub contents : PoolState → ℕ → List ℕ
contents pool block = slice_index_or pool.blocks block []

-- what is in blocks of a pool, one after another
abbrev pub bytes_in : PoolState → List ℕ → List ℕ
bytes_in pool blocks = flat_map (contents pool) blocks

-- how often a number stands in a list
abbrev pub times : ℕ → List ℕ → ℕ
times number numbers = count_by (λ n. n == number) numbers

-- how many blocks of a number a pool has: one, or none past its size
abbrev pub blocks_of_number : PoolState → ℕ → ℕ
blocks_of_number pool number = if nat_lt number (length pool.blocks) then 1 else 0

-- the blocks are leased by the pool: it has them all, and among them and the free ones none is twice
pub record AreOf (pool : PoolState) (blocks : List ℕ) : Type 0 where
  pub once : (number : ℕ) → times number (pool.free ++ blocks) ≤ blocks_of_number pool number

-- the blocks are all those that the pool has leased: they and the free ones are all blocks, each once
pub record AreAllOf (pool : PoolState) (blocks : List ℕ) : Type 0 where
  pub once : (number : ℕ) → times number (pool.free ++ blocks) ≡ blocks_of_number pool number

-- no block is in both lists
abbrev pub AreApart : List ℕ → List ℕ → Type 0
AreApart blocks others = (number : ℕ) → Contains blocks number → Contains others number → ⊥

-- a pool has lent blocks that were free; nothing else has changed
pub record Lends (lease : List ℕ) (old new : PoolState) : Type 0 where
  pub blocks : new.blocks ≡ old.blocks
  pub free : old.free ≡ new.free ++ lease

-- only what is in the blocks has changed, and in no others than these
pub record WritesTo (blocks : List ℕ) (old new : PoolState) : Type 0 where
  pub free : new.free ≡ old.free
  pub size : length new.blocks ≡ length old.blocks
  pub others : (number : ℕ) → (Contains blocks number → ⊥) → contents new number ≡ contents old number
