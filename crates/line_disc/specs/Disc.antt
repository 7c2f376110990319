-- A line discipline over the blocks of a lease.
use Rattle.std.specs.Prelude.{◌≡◌, ℕ, Bool, true, false, List, ◌++◌, length}
use Rattle.termios_core.specs.declared.termios.Termios.{Termios}
use Rattle.block_pool.specs.Pool.{PoolState, WritesTo}
use Rattle.block_pool.specs.Chain.{ChainState, holds}
use Rattle.line_disc.specs.Discipline.{Discipline}
use Rattle.line_disc.specs.Places.{InputState, all_bytes, input_of}

-- what contracts see of it: its settings, its queues, and whether its output is stopped
pub record DiscState : Type 0 where
  pub termios : Termios
  pub input : InputState
  pub output : ChainState
  pub stopped : Bool

-- the line discipline that it is, read over its pool
abbrev pub discipline_of : PoolState → DiscState → Discipline ℕ
discipline_of pool disc = record {
  termios = disc.termios;
  input = input_of pool disc.input;
  output = holds pool disc.output;
  stopped = disc.stopped;
}

-- its blocks: those of the input and those of the output
abbrev pub blocks_of : DiscState → List ℕ
blocks_of disc = disc.input.chain.blocks ++ disc.output.blocks

-- eight of them are the input's and 32 the output's, and no line is ready where lines are not edited
pub record IsWholeDisc (disc : DiscState) : Type 0 where
  pub input_blocks : length disc.input.chain.blocks ≡ 8
  pub output_blocks : length disc.output.blocks ≡ 32
  pub bytes : disc.termios.flags.icanon ≡ false → all_bytes disc.input.kinds ≡ true

-- a call leaves the blocks to the queues that they are of, and writes to no others
pub record KeepsBlocks (old_pool new_pool : PoolState) (old new : DiscState) : Type 0 where
  pub input : new.input.chain.blocks ≡ old.input.chain.blocks
  pub output : new.output.blocks ≡ old.output.blocks
  pub writes : WritesTo (blocks_of old) old_pool new_pool
