use Rattle.std.proofs.Common.{◌∙◌, sym, arith}
use Rattle.std.proofs.lemmas.Grind.{common_steps}
use Rattle.tty_host.proofs.CutLemmas.{cut-parts}
use Rattle.tty_host.proofs.lines.cut_line.Goals as goal

pub returns-clause-cut : goal.returns-clause-cut
returns-clause-cut c =
    cut-parts c.args.text.now _ _ c.in_ok-at.at (sym c.newline_at.ensures ∙ c.in_ok-at.was) (grind (arith, common_steps)) (grind (arith, common_steps))
