-- The terminal lines of a kernel by their numbers, over the one pool of their blocks.
use Rattle.std.specs.Prelude.{◌≡◌, ℕ, Bool, not, ◌&&◌, List, length, map, nat_lt, nat_le, slice_index_or, slice_set, is_some, if◌then◌else◌}
use Rattle.std.specs.List.{All, flat_map}
use Rattle.block_pool.specs.Pool.{PoolState}
use Rattle.block_pool.specs.Others.{KeepsOthers}
use Rattle.line_disc.specs.Device.{Device}
use Rattle.tty_dev.specs.Line.{LineState, device_of, held_by}
use Rattle.tty_dev.specs.History.{Use, Counts, at_first, after_use}

-- the device that each line is
unfoldable pub devices : PoolState → List LineState → List (Device ℕ)
devices pool lines = map (device_of pool) lines

-- the blocks that the lines hold
unfoldable pub lines_held : List LineState → List ℕ
lines_held lines = flat_map held_by lines

-- how often each line was revoked, and how many of its files are live
unfoldable pub counts_of : List LineState → List Counts
counts_of lines = map (λ line. record { generation = line.generation; live = line.live }) lines

-- whether the boot gives each line the settings `cooked`
unfoldable pub boots_of : List LineState → List Bool
boots_of lines = map (λ line. line.is_cooked) lines

-- the counts of a line
abbrev pub count_at : List Counts → ℕ → Counts
count_at counts n = slice_index_or counts n at_first

-- a line is used
abbrev pub use_line : Use → List Counts → ℕ → List Counts
use_line done counts n = slice_set counts n (after_use (count_at counts n) done)

-- whether a file that was opened at this generation is dead, and whether its close is the last of a live one
abbrev pub is_dead_at : List Counts → ℕ → ℕ → Bool
is_dead_at counts n opened = nat_lt opened (count_at counts n).generation

abbrev pub is_last_at : List Counts → ℕ → ℕ → Bool
is_last_at counts n opened = not (is_dead_at counts n opened) && nat_le (count_at counts n).live 1

-- a line has a discipline, and with it 40 blocks, exactly while a file of it is live
pub record HoldsBlocks (line : LineState) : Type 0 where
  pub live : is_some line.disc ≡ nat_lt 0 line.live
  pub size : length (held_by line) ≡ (if is_some line.disc then 40 else 0)

-- What each call on a line keeps: the settings of its boot, that it has its blocks, and what others have of the pool.
pub record KeepsLine (old_pool new_pool : PoolState) (old new : LineState) : Type 0 where
  pub boot : new.is_cooked ≡ old.is_cooked
  pub blocks : HoldsBlocks old → HoldsBlocks new
  pub others : KeepsOthers (held_by old) (held_by new) old_pool new_pool

-- the same of all lines
pub record KeepsLines (old_pool new_pool : PoolState) (old new : List LineState) : Type 0 where
  pub boots : boots_of new ≡ boots_of old
  pub blocks : All HoldsBlocks old → All HoldsBlocks new
  pub others : KeepsOthers (lines_held old) (lines_held new) old_pool new_pool
