use Rattle.std.proofs.Common.{ℕ, ap, ◌∙◌}
use Rattle.line_disc.specs.Device.{Device}
use Rattle.tty_dev.specs.Line.{LineState}
use Rattle.tty_dev.proofs.TableLemmas as lemmas
use Rattle.tty_dev.proofs.table.foreground_at.Goals as goal

pub returns : goal.returns
returns c = λ pool.
    ap (λ (line : LineState). line.foreground) c.device.view_is
    ∙ ap (λ (device : Device ℕ). device.foreground)
    (lemmas.device-seen pool c.args.lines.now c.from.result c.args.line c.index-lines-from.result c.index-lines-from.is c.from.ensures
    c.requires)
