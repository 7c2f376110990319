use Rattle.std.proofs.Common.{ℕ, ap, ◌∙◌}
use Rattle.line_disc.specs.Device.{Device, is_takeable}
use Rattle.tty_dev.proofs.TableLemmas as lemmas
use Rattle.tty_dev.proofs.table.is_takeable.Goals as goal

pub returns : goal.returns
returns c = λ pool.
    c.is_takeable.ensures pool ∙ ap (λ (device : Device ℕ). is_takeable device) (lemmas.device-seen pool c.args.lines.now c.from.result c.args.line
    c.index-lines-from.result c.index-lines-from.is c.from.ensures c.requires)
