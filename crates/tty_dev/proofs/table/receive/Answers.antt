use Rattle.std.proofs.Common.{ℕ, get_or, ap, ◌∙◌}
use Rattle.line_disc.specs.Device.{Device, receive}
use Rattle.line_disc.specs.Discipline.{bytes}
use Rattle.tty_dev.proofs.TableLemmas as lemmas
use Rattle.tty_dev.proofs.table.receive.Goals as goal

pub byte-requires : goal.byte-requires
byte-requires c =
    lemmas.one_of_pool c.args.pool.now c.args.lines.now c.from.result c.args.line c.index-lines-from.result c.from.ensures c.requires.line c.requires.of_pool

pub returns-clause-signal : goal.returns-clause-signal
returns-clause-signal c =
    c.byte.ensures.signal ∙ ap (λ (device : Device ℕ). (receive bytes device c.args.byte).1)
    (lemmas.device-at c.args.pool.now c.args.lines.now c.from.result c.args.line c.index-lines-from.result c.from.ensures c.requires.line)

pub returns-clause-devices : goal.returns-clause-devices
returns-clause-devices c =
    lemmas.devices_change _ _ c.args.lines.now c.from.result c.args.line c.index-lines-from.result c.byte.new.self (λ device.
    (receive bytes device c.args.byte).0) c.from.ensures c.requires.line c.requires.of_pool
    (lemmas.keeps_by_writes _ _ (get_or c.args.lines.now c.from.result c.index-lines-from.result) _ c.byte.ensures.keeps c.byte.ensures.writes)
    c.byte.ensures.line

pub returns-clause-counts : goal.returns-clause-counts
returns-clause-counts c =
    lemmas.counts_stay c.args.lines.now c.from.result c.args.line c.index-lines-from.result c.byte.new.self c.from.ensures c.requires.line c.byte.ensures.keeps

pub returns-clause-keeps : goal.returns-clause-keeps
returns-clause-keeps c =
    lemmas.lines_keep _ _ c.args.lines.now c.from.result c.args.line c.index-lines-from.result c.byte.new.self c.from.ensures c.requires.line
    (lemmas.keeps_by_writes _ _ (get_or c.args.lines.now c.from.result c.index-lines-from.result) _ c.byte.ensures.keeps c.byte.ensures.writes)
