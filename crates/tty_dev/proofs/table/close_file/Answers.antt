use Rattle.std.proofs.Common.{get_or, not, ◌&&◌, sym, ap, ◌∙◌, arith}
use Rattle.std.specs.Prelude.{nat_lt, nat_le}
use Rattle.tty_dev.specs.Line.{is_last}
use Rattle.tty_dev.specs.History.{Counts, closes}
use Rattle.tty_dev.specs.Table.{counts_of, is_last_at}
use Rattle.tty_dev.proofs.TableLemmas as lemmas
use Rattle.tty_dev.proofs.table.close_file.Goals as goal

pub closed-requires-clause-live : goal.closed-requires-clause-live
closed-requires-clause-live c = λ alive.
    let at = lemmas.counts-at c.args.lines.now c.from.result c.args.line c.index-lines-from.result c.from.ensures c.requires.line in
    let some = c.requires.live (sym (ap (λ (counts : Counts). nat_lt c.args.opened counts.generation) at) ∙ alive) in
    omega (arith, some, ap (λ (counts : Counts). counts.live) at)

pub closed-requires-clause-of_pool : goal.closed-requires-clause-of_pool
closed-requires-clause-of_pool c =
    lemmas.one_of_pool c.args.pool.now c.args.lines.now c.from.result c.args.line c.index-lines-from.result c.from.ensures c.requires.line c.requires.of_pool

pub returns-clause-devices : goal.returns-clause-devices
returns-clause-devices c =
    lemmas.devices_close (is_last (get_or c.args.lines.now c.from.result c.index-lines-from.result) c.args.opened)
    (is_last_at (counts_of c.args.lines.now) c.args.line c.args.opened) _ _ c.args.lines.now c.from.result c.args.line c.index-lines-from.result
    c.closed.new.self
    (ap (λ (counts : Counts). not (nat_lt c.args.opened counts.generation) && nat_le counts.live 1)
    (lemmas.counts-at c.args.lines.now c.from.result c.args.line c.index-lines-from.result c.from.ensures c.requires.line))
    c.from.ensures c.requires.line c.requires.of_pool
    (lemmas.keeps_close _ _ (get_or c.args.lines.now c.from.result c.index-lines-from.result) _ c.args.opened c.closed.ensures.line c.closed.ensures.live
    c.closed.ensures.cooked
    c.closed.ensures.held c.closed.ensures.lends)
    c.closed.ensures.line

pub returns-clause-counts : goal.returns-clause-counts
returns-clause-counts c =
    lemmas.counts_change c.args.lines.now c.from.result c.args.line c.index-lines-from.result c.closed.new.self
    (closes c.args.opened) c.from.ensures c.requires.line
    (lemmas.counts-closed (get_or c.args.lines.now c.from.result c.index-lines-from.result) c.closed.new.self c.args.opened c.closed.ensures.generation
    c.closed.ensures.live)

pub returns-clause-keeps : goal.returns-clause-keeps
returns-clause-keeps c =
    lemmas.lines_keep _ _ c.args.lines.now c.from.result c.args.line c.index-lines-from.result c.closed.new.self c.from.ensures c.requires.line
    (lemmas.keeps_close _ _ (get_or c.args.lines.now c.from.result c.index-lines-from.result) _ c.args.opened c.closed.ensures.line c.closed.ensures.live
    c.closed.ensures.cooked
    c.closed.ensures.held c.closed.ensures.lends)
