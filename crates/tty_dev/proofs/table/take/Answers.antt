use Rattle.std.proofs.Common.{ℕ, get_or, ap, ◌∙◌}
use Rattle.line_disc.specs.Device.{Device, output_of, take_output}
use Rattle.tty_dev.proofs.TableLemmas as lemmas
use Rattle.tty_dev.proofs.table.take.Goals as goal

pub take-requires-clause-of_pool : goal.take-requires-clause-of_pool
take-requires-clause-of_pool c =
    lemmas.one_of_pool c.args.pool.now c.args.lines.now c.from.result c.args.line c.index-lines-from.result c.from.ensures c.requires.line c.requires.of_pool

pub returns-clause-front : goal.returns-clause-front
returns-clause-front c =
    c.take.ensures.front ∙ ap (λ (device : Device ℕ). output_of c.args.max device.discipline)
    (lemmas.device-at c.args.pool.now c.args.lines.now c.from.result c.args.line c.index-lines-from.result c.from.ensures c.requires.line)

pub returns-clause-devices : goal.returns-clause-devices
returns-clause-devices c =
    lemmas.devices_change _ _ c.args.lines.now c.from.result c.args.line c.index-lines-from.result c.take.new.self
    (λ device. take_output device c.args.max) c.from.ensures c.requires.line c.requires.of_pool
    (lemmas.keeps_still c.args.pool.now (get_or c.args.lines.now c.from.result c.index-lines-from.result) _ c.take.ensures.keeps) c.take.ensures.line

pub returns-clause-counts : goal.returns-clause-counts
returns-clause-counts c =
    lemmas.counts_stay c.args.lines.now c.from.result c.args.line c.index-lines-from.result c.take.new.self c.from.ensures c.requires.line c.take.ensures.keeps

pub returns-clause-keeps : goal.returns-clause-keeps
returns-clause-keeps c =
    lemmas.lines_keep _ _ c.args.lines.now c.from.result c.args.line c.index-lines-from.result c.take.new.self c.from.ensures c.requires.line
    (lemmas.keeps_still c.args.pool.now (get_or c.args.lines.now c.from.result c.index-lines-from.result) _ c.take.ensures.keeps)
