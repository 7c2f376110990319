use Rattle.std.proofs.Common.{ap, ◌∙◌, arith}
use Rattle.tty_dev.specs.Line.{LineState}
use Rattle.tty_dev.specs.History.{Counts}
use Rattle.tty_dev.proofs.TableLemmas.{counts-at}
use Rattle.layer_rows.proofs.line_table.open.Goals as goal

pub open_line-requires-clause-few : goal.open_line-requires-clause-few
open_line-requires-clause-few c =
    let at = counts-at c.args.lines.now c.from.result c.args.line c.index-lines-from.result c.from.ensures c.requires.line in
    let live = ap (λ (line : LineState). line.live) c.device.view_is ∙ ap (λ (counts : Counts). counts.live) at in
    omega (arith, live, c.if-device-gt7.false)
