use Rattle.std.proofs.Common.{sym, ap, ◌∙◌}
use Rattle.std.specs.Prelude.{nat_lt}
use Rattle.tty_dev.specs.Table.{counts_of}
use Rattle.system_model.specs.Tables.{generations, is_dead_target}
use Rattle.system_model.proofs.ClosingLemmas.{generation_seen}
use Rattle.system_model.proofs.dead_files.is_dead_file.Goals as goal

pub returns-in-Line : goal.returns-in-Line
returns-in-Line c =
    c.is_dead.ensures ∙ ap (nat_lt _) (sym (generation_seen (counts_of c.args.lines.now) _))
    ∙ ap (is_dead_target (generations (counts_of c.args.lines.now))) (sym c.in-Line.is)
