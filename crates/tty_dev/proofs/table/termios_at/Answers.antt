use Rattle.std.proofs.Common.{ℕ, Bool, ap₂, ◌∙◌}
use Rattle.line_disc.specs.Device.{Device}
use Rattle.tty_dev.specs.Line.{termios_of}
use Rattle.tty_dev.proofs.TableLemmas as lemmas
use Rattle.tty_dev.proofs.table.termios_at.Goals as goal

pub returns : goal.returns
returns c = λ pool.
    c.termios.ensures pool
    ∙ ap₂ (λ (cooked : Bool) (device : Device ℕ). termios_of cooked device) (lemmas.boot-seen c.args.lines.now c.from.result c.args.line
    c.index-lines-from.result c.index-lines-from.is c.from.ensures c.requires) (lemmas.device-seen pool c.args.lines.now c.from.result c.args.line
    c.index-lines-from.result c.index-lines-from.is c.from.ensures c.requires)
