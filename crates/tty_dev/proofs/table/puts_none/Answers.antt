use Rattle.std.proofs.Common.{ℕ, ap, ◌∙◌}
use Rattle.std.specs.Prelude.{◌==◌}
use Rattle.line_disc.specs.Device.{Device, put_count}
use Rattle.tty_dev.proofs.TableLemmas as lemmas
use Rattle.tty_dev.proofs.table.puts_none.Goals as goal

pub returns : goal.returns
returns c = λ pool.
    c.puts_none.ensures pool ∙ ap (λ (device : Device ℕ). put_count device c.args.written.now == 0) (lemmas.device-seen pool c.args.lines.now c.from.result
    c.args.line c.index-lines-from.result c.index-lines-from.is c.from.ensures c.requires)
