use Rattle.std.proofs.Common.{ℕ, get_or, sym, ap, ◌∙◌}
use Rattle.line_disc.specs.Device.{Device, put, put_count}
use Rattle.line_disc.specs.Discipline.{bytes}
use Rattle.tty_dev.proofs.TableLemmas as lemmas
use Rattle.tty_dev.proofs.table.write.Goals as goal

pub write-requires : goal.write-requires
write-requires c =
    lemmas.one_of_pool c.args.pool.now c.args.lines.now c.from.result c.args.line c.index-lines-from.result c.from.ensures c.requires.line c.requires.of_pool

pub returns-clause-count : goal.returns-clause-count
returns-clause-count c =
    c.write.ensures.count ∙ ap (λ (device : Device ℕ). put_count device c.args.written.now)
    (lemmas.device-at c.args.pool.now c.args.lines.now c.from.result c.args.line c.index-lines-from.result c.from.ensures c.requires.line)

pub returns-clause-devices : goal.returns-clause-devices
returns-clause-devices c =
    lemmas.devices_change _ _ c.args.lines.now c.from.result c.args.line c.index-lines-from.result c.write.new.self
    (λ device. put bytes device c.args.written.now) c.from.ensures c.requires.line c.requires.of_pool
    (lemmas.keeps_by_writes _ _ (get_or c.args.lines.now c.from.result c.index-lines-from.result) _ c.write.ensures.keeps c.write.ensures.writes)
    c.write.ensures.line

pub returns-clause-none : goal.returns-clause-none
returns-clause-none c = λ none.
    lemmas.devices_stay _ _ c.args.lines.now c.from.result c.args.line c.index-lines-from.result c.write.new.self c.from.ensures c.requires.line
    c.requires.of_pool
    (lemmas.keeps_by_writes _ _ (get_or c.args.lines.now c.from.result c.index-lines-from.result) _ c.write.ensures.keeps c.write.ensures.writes)
    (c.write.ensures.line ∙ lemmas.put_none _ c.args.written.now (sym c.write.ensures.count ∙ none))

pub returns-clause-counts : goal.returns-clause-counts
returns-clause-counts c =
    lemmas.counts_stay c.args.lines.now c.from.result c.args.line c.index-lines-from.result c.write.new.self c.from.ensures c.requires.line
    c.write.ensures.keeps

pub returns-clause-keeps : goal.returns-clause-keeps
returns-clause-keeps c =
    lemmas.lines_keep _ _ c.args.lines.now c.from.result c.args.line c.index-lines-from.result c.write.new.self c.from.ensures c.requires.line
    (lemmas.keeps_by_writes _ _ (get_or c.args.lines.now c.from.result c.index-lines-from.result) _ c.write.ensures.keeps c.write.ensures.writes)
