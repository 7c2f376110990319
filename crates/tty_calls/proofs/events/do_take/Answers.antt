use Rattle.system_model.proofs.SeenLines.{lines_still}
use Rattle.system_model.proofs.BlockLemmas.{lines_fit}
use Rattle.tty_calls.proofs.EventRows.{take_done, take_revokes}
use Rattle.tty_calls.proofs.events.do_take.Goals as goal

pub returns-clause-lines : goal.returns-clause-lines
returns-clause-lines c = λ d fit. lines_still d c.args.lines.now c.take.new.lines c.take.ensures.counts c.take.ensures.keeps.boots fit

pub returns-clause-blocks : goal.returns-clause-blocks
returns-clause-blocks c = λ pipes fit. lines_fit c.args.pool.now c.args.pool.now pipes c.args.lines.now c.take.new.lines fit c.take.ensures.keeps

pub returns-clause-does : goal.returns-clause-does
returns-clause-does c = λ t pool lines.
    take_done t c.take.new.lines c.args.line c.args.max _ (rw (pool, lines) c.take.ensures.front) (rw (pool, lines) c.take.ensures.devices)
    (rw lines c.take.ensures.counts)

pub returns-clause-revokes : goal.returns-clause-revokes
returns-clause-revokes c = λ most. take_revokes most c.args.pool.now c.args.lines.now c.take.new.lines c.args.line c.args.max c.take.ensures.devices c.take.ensures.counts
