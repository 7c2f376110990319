use Rattle.std.proofs.Common.{ℕ, get_or, sym, ap, ◌∙◌}
use Rattle.line_disc.specs.Device.{Device, read, after_read}
use Rattle.tty_dev.proofs.TableLemmas as lemmas
use Rattle.tty_dev.proofs.table.read.Goals as goal

pub read-requires-clause-of_pool : goal.read-requires-clause-of_pool
read-requires-clause-of_pool c =
    lemmas.one_of_pool c.args.pool.now c.args.lines.now c.from.result c.args.line c.index-lines-from.result c.from.ensures c.requires.line c.requires.of_pool

pub returns-clause-bytes : goal.returns-clause-bytes
returns-clause-bytes c =
    c.read.ensures.bytes ∙ ap (λ (device : Device ℕ). read device c.args.max) (lemmas.device-at c.args.pool.now c.args.lines.now c.from.result c.args.line
    c.index-lines-from.result c.from.ensures c.requires.line)

pub returns-clause-devices : goal.returns-clause-devices
returns-clause-devices c =
    lemmas.devices_change _ _ c.args.lines.now c.from.result c.args.line c.index-lines-from.result c.read.new.self
    (λ device. after_read device c.args.max) c.from.ensures c.requires.line c.requires.of_pool
    (lemmas.keeps_still c.args.pool.now (get_or c.args.lines.now c.from.result c.index-lines-from.result) _ c.read.ensures.keeps) c.read.ensures.line

pub returns-clause-none : goal.returns-clause-none
returns-clause-none c = λ none.
    lemmas.devices_stay_still c.args.pool.now c.args.lines.now c.from.result c.args.line c.index-lines-from.result c.read.new.self c.from.ensures
    c.requires.line
    (c.read.ensures.line ∙ lemmas.read_none _ c.args.max (sym c.read.ensures.bytes ∙ none))

pub returns-clause-counts : goal.returns-clause-counts
returns-clause-counts c =
    lemmas.counts_stay c.args.lines.now c.from.result c.args.line c.index-lines-from.result c.read.new.self c.from.ensures c.requires.line c.read.ensures.keeps

pub returns-clause-keeps : goal.returns-clause-keeps
returns-clause-keeps c =
    lemmas.lines_keep _ _ c.args.lines.now c.from.result c.args.line c.index-lines-from.result c.read.new.self c.from.ensures c.requires.line
    (lemmas.keeps_still c.args.pool.now (get_or c.args.lines.now c.from.result c.index-lines-from.result) _ c.read.ensures.keeps)
