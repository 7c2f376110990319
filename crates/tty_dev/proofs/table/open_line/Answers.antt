use Rattle.std.proofs.Common.{ℕ, Bool, get_or, ap, ap₂, ◌∙◌, arith}
use Rattle.std.proofs.lemmas.Result.{on_ok_weaker}
use Rattle.line_disc.specs.Device.{open_file}
use Rattle.line_disc.specs.Lines.{change_line}
use Rattle.tty_dev.specs.Line.{boot_termios}
use Rattle.tty_dev.specs.History.{Counts, opens}
use Rattle.tty_dev.specs.Table.{devices}
use Rattle.tty_dev.proofs.TableLemmas as lemmas
use Rattle.tty_dev.proofs.table.open_line.Goals as goal

pub open-requires : goal.open-requires
open-requires c =
    let at = lemmas.counts-at c.args.lines.now c.from.result c.args.line c.index-lines-from.result c.from.ensures c.requires.line in
    omega (arith, c.requires.few, ap (λ (counts : Counts). counts.live) at)

pub returns-clause-full : goal.returns-clause-full
returns-clause-full c =
    let shut = lemmas.shut-as c.args.pool.now (get_or c.args.lines.now c.from.result c.index-lines-from.result) _
    (lemmas.device-at c.args.pool.now c.args.lines.now c.from.result c.args.line c.index-lines-from.result c.from.ensures c.requires.line) in (
      λ err. (shut.1 (c.open.ensures.full.0 err).0, (c.open.ensures.full.0 err).1),
      λ few. c.open.ensures.full.1 (shut.0 few.0, few.1),
    )

pub returns-clause-generation : goal.returns-clause-generation
returns-clause-generation c =
    lemmas.answers_same c.open.result _ _ c.open.ensures.number
    (ap (λ (counts : Counts). counts.generation) (lemmas.counts-at c.args.lines.now c.from.result c.args.line c.index-lines-from.result c.from.ensures
    c.requires.line))

pub returns-clause-devices : goal.returns-clause-devices
returns-clause-devices c =
    lemmas.all_three c.open.result c.open.ensures.line c.open.ensures.counts c.open.ensures.lends (λ is adds lends.
    lemmas.devices_change _ _ c.args.lines.now c.from.result c.args.line c.index-lines-from.result c.open.new.self (open_file (boot_termios
    (get_or c.args.lines.now c.from.result c.index-lines-from.result).is_cooked)) c.from.ensures c.requires.line
    c.requires.of_pool (lemmas.keeps_open _ _ _ (get_or c.args.lines.now c.from.result c.index-lines-from.result) _ adds lends is) is
    ∙ ap (λ (cooked : Bool). change_line (open_file (boot_termios cooked)) (devices c.args.pool.now c.args.lines.now) c.args.line)
    (lemmas.boot-at c.args.lines.now c.from.result c.args.line c.index-lines-from.result c.from.ensures c.requires.line))

pub returns-clause-counts : goal.returns-clause-counts
returns-clause-counts c =
    on_ok_weaker c.open.result (λ adds.
    lemmas.counts_change c.args.lines.now c.from.result c.args.line c.index-lines-from.result c.open.new.self opens c.from.ensures c.requires.line
    (ap₂ (λ (g l : ℕ). record { generation = g; live = l }) adds.generation adds.live)) c.open.ensures.counts

pub returns-clause-keeps : goal.returns-clause-keeps
returns-clause-keeps c =
    lemmas.lines_keep _ _ c.args.lines.now c.from.result c.args.line c.index-lines-from.result c.open.new.self c.from.ensures c.requires.line
    (lemmas.either c.open.result
    (lemmas.all_three c.open.result c.open.ensures.line c.open.ensures.counts c.open.ensures.lends (λ is adds lends.
    lemmas.keeps_open _ _ _ (get_or c.args.lines.now c.from.result c.index-lines-from.result) _ adds lends is))
    c.open.ensures.err (λ keeps. keeps) (λ err. lemmas.keeps_same _ _ (get_or c.args.lines.now c.from.result c.index-lines-from.result) _ err.0 err.1))
