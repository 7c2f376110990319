use Rattle.std.proofs.Common.{ap, ◌∙◌}
use Rattle.std.specs.Prelude.{nat_lt}
use Rattle.tty_dev.specs.History.{Counts}
use Rattle.tty_dev.proofs.TableLemmas as lemmas
use Rattle.tty_dev.proofs.table.is_dead.Goals as goal

pub returns : goal.returns
returns c =
    c.is_dead.ensures ∙ ap (λ (counts : Counts). nat_lt c.args.opened counts.generation) (lemmas.counts-seen c.args.lines.now c.from.result c.args.line
    c.index-lines-from.result c.index-lines-from.is c.from.ensures c.requires)
