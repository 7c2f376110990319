use Rattle.block_pool.specs.Pool.{AreOf}
use Rattle.line_disc.specs.Disc.{blocks_of}
use Rattle.layer_rows.proofs.discipline.flood.Given as goal

abbrev pub invariant-loop-byte : goal.invariant-loop-byte
invariant-loop-byte l = AreOf l.pool (blocks_of l.disc)
