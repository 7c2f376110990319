use Rattle.block_pool.specs.Pool.{AreOf}
use Rattle.tty_dev.specs.Table.{lines_held}
use Rattle.layer_rows.proofs.line_table.first_wrong.Given as goal

abbrev pub invariant-loop-i : goal.invariant-loop-i
invariant-loop-i l = AreOf l.pool (lines_held l.lines)
