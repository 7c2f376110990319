use Rattle.std.proofs.Common.{ap, ◌∙◌, arith}
use Rattle.tty_dev.specs.Line.{LineState}
use Rattle.tty_dev.specs.History.{Counts}
use Rattle.tty_dev.proofs.TableLemmas.{counts-at}
use Rattle.layer_rows.proofs.line_table.revoke.Goals as goal

pub revoke-requires-clause-few : goal.revoke-requires-clause-few
revoke-requires-clause-few c =
    let at = counts-at c.args.lines.now c.from.result c.args.line c.index-lines-from.result c.from.ensures c.requires.line in
    let generation = ap (λ (line : LineState). line.generation) c.device.view_is ∙ ap (λ (counts : Counts). counts.generation) at in
    omega (arith, generation, c.if-device-gt7.false)
