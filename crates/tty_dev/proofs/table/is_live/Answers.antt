use Rattle.std.proofs.Common.{ℕ, sym, ap, ◌∙◌}
use Rattle.std.specs.Prelude.{is_some}
use Rattle.line_disc.specs.Device.{Device, is_live}
use Rattle.tty_dev.specs.Line.{LineState}
use Rattle.tty_dev.proofs.TableLemmas as lemmas
use Rattle.tty_dev.proofs.table.is_live.Goals as goal

pub returns : goal.returns
returns c = λ pool.
    c.is_some.ensures ∙ ap (λ (line : LineState). is_some line.disc) c.device.view_is
    ∙ sym (lemmas.some-map pool c.index-lines-from.result.disc)
    ∙ ap (λ (device : Device ℕ). is_live device)
    (lemmas.device-seen pool c.args.lines.now c.from.result c.args.line c.index-lines-from.result c.index-lines-from.is c.from.ensures
    c.requires)
