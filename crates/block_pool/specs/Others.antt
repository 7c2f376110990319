-- What a call of one owner of blocks leaves to the other owners of blocks of the same pool.
use Rattle.std.specs.Prelude.{◌≡◌, ℕ, List, ◌++◌, length}
use Rattle.std.specs.List.{All}
use Rattle.block_pool.specs.Pool.{PoolState, contents, AreOf, AreAllOf}

-- what is in each of the blocks is the same
abbrev pub SameContents : List ℕ → PoolState → PoolState → Type 0
SameContents blocks old new = All (λ block. contents new block ≡ contents old block) blocks

-- An owner that had the blocks `before` has the blocks `after`. The pool has as many blocks as it had, and whatever blocks others had beside
-- it, they have them still, with the same in each.
pub record KeepsOthers (before after : List ℕ) (old new : PoolState) : Type 0 where
  pub size : length new.blocks ≡ length old.blocks
  pub of_pool : (others : List ℕ) → AreOf old (before ++ others) → AreOf new (after ++ others)
  pub all : (others : List ℕ) → AreAllOf old (before ++ others) → AreAllOf new (after ++ others)
  pub contents : (others : List ℕ) → AreOf old (before ++ others) → SameContents others old new
