use Rattle.block_pool.specs.Pool.{AreOf}
use Rattle.line_disc.specs.Disc.{blocks_of}
use Rattle.layer_rows.proofs.discipline.reads.Given as goal

abbrev pub invariant-loop-count : goal.invariant-loop-count
invariant-loop-count l = AreOf l.pool (blocks_of l.disc)
