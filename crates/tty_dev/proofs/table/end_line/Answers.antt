use Rattle.std.proofs.Common.{ℕ, get_or, set, false, ap, ◌∙◌}
use Rattle.block_pool.specs.Pool.{PoolState}
use Rattle.line_disc.specs.Device.{Device, hangs_up, end_for_good}
use Rattle.tty_dev.specs.Table.{devices}
use Rattle.tty_dev.proofs.TableLemmas as lemmas
use Rattle.tty_dev.proofs.table.end_line.Goals as goal

pub returns-clause-told : goal.returns-clause-told
returns-clause-told c =
    c.end.ensures.told c.args.pool.now
    ∙ ap (λ (device : Device ℕ). hangs_up device false) (lemmas.device-at c.args.pool.now c.args.lines.now c.from.result c.args.line
    c.index-lines-from.result c.from.ensures c.requires)

pub returns-clause-devices : goal.returns-clause-devices
returns-clause-devices c =
    ap (λ (pool : PoolState). devices pool (set c.args.lines.now c.from.result c.end.new.self)) c.end.ensures.pool
    ∙ lemmas.devices_change_still c.args.pool.now c.args.lines.now c.from.result c.args.line c.index-lines-from.result c.end.new.self
    (end_for_good) c.from.ensures c.requires
    (c.end.ensures.line c.args.pool.now)

pub returns-clause-counts : goal.returns-clause-counts
returns-clause-counts c =
    lemmas.counts_stay c.args.lines.now c.from.result c.args.line c.index-lines-from.result c.end.new.self c.from.ensures c.requires c.end.ensures.keeps

pub returns-clause-keeps : goal.returns-clause-keeps
returns-clause-keeps c =
    rw c.end.ensures.pool
    (lemmas.lines_keep c.args.pool.now c.args.pool.now c.args.lines.now c.from.result c.args.line c.index-lines-from.result c.end.new.self c.from.ensures
    c.requires
    (lemmas.keeps_still c.args.pool.now (get_or c.args.lines.now c.from.result c.index-lines-from.result) c.end.new.self c.end.ensures.keeps))
