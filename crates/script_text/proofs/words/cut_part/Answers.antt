use Rattle.std.proofs.Common.{sym, ◌∙◌}
use Rattle.script_text.proofs.Cuts.{cut_first_part}
use Rattle.script_text.proofs.words.cut_part.Goals as goal

pub returns-in-Some : goal.returns-in-Some
returns-in-Some c =
    cut_first_part c.args.mark c.args.text.now _ c.split_at.result.1.now c.in-Some.at (sym c.first_mark.ensures ∙ c.in-Some.is) c.split_at.ensures.front
    c.split_at.ensures.back
