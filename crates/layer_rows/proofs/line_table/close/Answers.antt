use Rattle.std.proofs.Common.{ap, sym, ◌∙◌, true≢false, arith}
use Rattle.tty_dev.specs.Line.{LineState}
use Rattle.tty_dev.specs.History.{Counts}
use Rattle.tty_dev.proofs.TableLemmas.{counts-at}
use Rattle.layer_rows.proofs.line_table.close.Goals.{else-device-eq0-via-then-device-eq0+else-not-is_dead, else-device-eq0-via-else-device-eq0}
use Rattle.layer_rows.proofs.line_table.close.Goals as goal

pub close_file-requires-clause-live : goal.close_file-requires-clause-live
close_file-requires-clause-live c = λ alive.
    let at = counts-at c.args.lines.now c.from.result c.args.line c.index-lines-from.result c.from.ensures c.requires.line in
    let live = ap (λ (line : LineState). line.live) c.device.view_is ∙ ap (λ (counts : Counts). counts.live) at in
    elim c.else-device-eq0.branch [
      | else-device-eq0-via-then-device-eq0+else-not-is_dead w ↦ absurd (true≢false (sym w.if-not-is_dead.false ∙ w.is_dead.ensures ∙ alive))
      | else-device-eq0-via-else-device-eq0 w ↦ omega (arith, live, w.if-device-eq0.false)
    ]
