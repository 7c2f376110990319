use Rattle.std.proofs.Common.{◌≡◌, ◌+◌, ◌-◌, ◌≤◌, ◌++◌, length, take, drop}
use Rattle.block_pool.specs.Pool.{AreOf, WritesTo}
use Rattle.block_pool.specs.Chain.{holds}
use Rattle.line_disc.specs.Echo.{shown}
use Rattle.line_disc.specs.Transfers.{fit_count}
use Rattle.line_disc.proofs.transfer.append_shown.Given as goal

abbrev pub invariant-loop-byte : goal.invariant-loop-byte
invariant-loop-byte l = record {
  bytes : holds l.pool l.output ≡ holds l.initial.pool l.initial.output ++ shown l.termios (take l.byte-index l.bytes);
  count : l.count ≡ l.byte-index;
  fits : fit_count l.termios (4096 - length (holds l.initial.pool l.initial.output)) l.bytes
      ≡ l.byte-index + fit_count l.termios (4096 - length (holds l.pool l.output)) (drop l.byte-index l.bytes);
  some : l.byte-index ≤ length (holds l.pool l.output);
  blocks : l.output.blocks ≡ l.initial.output.blocks;
  writes : WritesTo l.initial.output.blocks l.initial.pool l.pool;
  of_pool : AreOf l.pool l.output.blocks;
}
