use Rattle.std.proofs.Common.{ℕ, get_or, ap, ap₂, ◌∙◌, arith}
use Rattle.line_disc.specs.Device.{Device, revoke}
use Rattle.tty_dev.specs.History.{Counts, revokes}
use Rattle.tty_dev.proofs.TableLemmas as lemmas
use Rattle.tty_dev.proofs.table.revoke.Goals as goal

pub revoke-requires-clause-few : goal.revoke-requires-clause-few
revoke-requires-clause-few c =
    let at = lemmas.counts-at c.args.lines.now c.from.result c.args.line c.index-lines-from.result c.from.ensures c.requires.line in
    omega (arith, c.requires.few, ap (λ (counts : Counts). counts.generation) at)

pub revoke-requires-clause-of_pool : goal.revoke-requires-clause-of_pool
revoke-requires-clause-of_pool c =
    lemmas.one_of_pool c.args.pool.now c.args.lines.now c.from.result c.args.line c.index-lines-from.result c.from.ensures c.requires.line c.requires.of_pool

pub returns-clause-session : goal.returns-clause-session
returns-clause-session c =
    c.revoke.ensures.session
    ∙ ap (λ (device : Device ℕ). device.session) (lemmas.device-at c.args.pool.now c.args.lines.now c.from.result c.args.line c.index-lines-from.result
    c.from.ensures c.requires.line)

pub returns-clause-devices : goal.returns-clause-devices
returns-clause-devices c =
    lemmas.devices_change _ _ c.args.lines.now c.from.result c.args.line c.index-lines-from.result c.revoke.new.self revoke c.from.ensures c.requires.line
    c.requires.of_pool
    (lemmas.keeps_revoke _ _ (get_or c.args.lines.now c.from.result c.index-lines-from.result) _ c.revoke.ensures.line c.revoke.ensures.live
    c.revoke.ensures.cooked
    c.revoke.ensures.held c.revoke.ensures.lends)
    c.revoke.ensures.line

pub returns-clause-counts : goal.returns-clause-counts
returns-clause-counts c =
    lemmas.counts_change c.args.lines.now c.from.result c.args.line c.index-lines-from.result c.revoke.new.self revokes c.from.ensures c.requires.line
    (ap₂ (λ (g l : ℕ). record { generation = g; live = l }) c.revoke.ensures.generation c.revoke.ensures.live)

pub returns-clause-keeps : goal.returns-clause-keeps
returns-clause-keeps c =
    lemmas.lines_keep _ _ c.args.lines.now c.from.result c.args.line c.index-lines-from.result c.revoke.new.self c.from.ensures c.requires.line
    (lemmas.keeps_revoke _ _ (get_or c.args.lines.now c.from.result c.index-lines-from.result) _ c.revoke.ensures.line c.revoke.ensures.live
    c.revoke.ensures.cooked
    c.revoke.ensures.held c.revoke.ensures.lends)
