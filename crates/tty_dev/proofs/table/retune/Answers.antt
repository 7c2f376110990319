use Rattle.std.proofs.Common.{get_or}
use Rattle.line_disc.specs.Device.{retune}
use Rattle.tty_dev.proofs.TableLemmas as lemmas
use Rattle.tty_dev.proofs.table.retune.Goals as goal

pub retune-requires : goal.retune-requires
retune-requires c =
    lemmas.one_of_pool c.args.pool.now c.args.lines.now c.from.result c.args.line c.index-lines-from.result c.from.ensures c.requires.line c.requires.of_pool

pub returns-clause-devices : goal.returns-clause-devices
returns-clause-devices c =
    lemmas.devices_change _ _ c.args.lines.now c.from.result c.args.line c.index-lines-from.result c.retune.new.self
    (λ device. retune device c.args.termios) c.from.ensures c.requires.line c.requires.of_pool
    (lemmas.keeps_by_writes _ _ (get_or c.args.lines.now c.from.result c.index-lines-from.result) _ c.retune.ensures.keeps c.retune.ensures.writes)
    c.retune.ensures.line

pub returns-clause-counts : goal.returns-clause-counts
returns-clause-counts c =
    lemmas.counts_stay c.args.lines.now c.from.result c.args.line c.index-lines-from.result c.retune.new.self c.from.ensures c.requires.line
    c.retune.ensures.keeps

pub returns-clause-keeps : goal.returns-clause-keeps
returns-clause-keeps c =
    lemmas.lines_keep _ _ c.args.lines.now c.from.result c.args.line c.index-lines-from.result c.retune.new.self c.from.ensures c.requires.line
    (lemmas.keeps_by_writes _ _ (get_or c.args.lines.now c.from.result c.index-lines-from.result) _ c.retune.ensures.keeps c.retune.ensures.writes)
