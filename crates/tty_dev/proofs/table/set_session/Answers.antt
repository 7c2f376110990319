use Rattle.std.proofs.Common.{get_or}
use Rattle.line_disc.specs.Device.{set_session}
use Rattle.tty_dev.proofs.TableLemmas as lemmas
use Rattle.tty_dev.proofs.table.set_session.Goals as goal

pub returns-clause-devices : goal.returns-clause-devices
returns-clause-devices c = λ pool.
    lemmas.devices_change_still pool c.args.lines.now c.from.result c.args.line c.index-lines-from.result c.set_session.new.self
    (λ device. set_session device c.args.session c.args.foreground) c.from.ensures c.requires (c.set_session.ensures.line pool)

pub returns-clause-counts : goal.returns-clause-counts
returns-clause-counts c =
    lemmas.counts_stay c.args.lines.now c.from.result c.args.line c.index-lines-from.result c.set_session.new.self c.from.ensures c.requires
    c.set_session.ensures.keeps

pub returns-clause-keeps : goal.returns-clause-keeps
returns-clause-keeps c = λ pool.
    lemmas.lines_keep pool pool c.args.lines.now c.from.result c.args.line c.index-lines-from.result c.set_session.new.self c.from.ensures c.requires
    (lemmas.keeps_still pool (get_or c.args.lines.now c.from.result c.index-lines-from.result) c.set_session.new.self c.set_session.ensures.keeps)
