-- What a call on one of the lines leaves to the next call: their blocks are of the pool, and there are as many lines.
use Rattle.std.proofs.Common.{◌≡◌, List, length, sym, ap, ◌∙◌}
use Rattle.block_pool.specs.Pool.{PoolState, AreOf}
use Rattle.block_pool.proofs.OthersLemmas.{keeps_others_own}
use Rattle.tty_dev.specs.Line.{LineState}
use Rattle.tty_dev.specs.Table.{lines_held, KeepsLines}
use Rattle.tty_dev.proofs.TableLemmas.{length-boots}

pub lines_of_pool : (old new : PoolState) (before after : List LineState) → KeepsLines old new before after → AreOf old (lines_held before)
    → AreOf new (lines_held after)
lines_of_pool old new before after keeps leased = keeps_others_own (lines_held before) (lines_held after) old new keeps.others leased

pub as_many_lines : (old new : PoolState) (before after : List LineState) → KeepsLines old new before after → length after ≡ length before
as_many_lines old new before after keeps = sym (length-boots after) ∙ ap length keeps.boots ∙ length-boots before
