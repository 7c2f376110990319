use Rattle.std.proofs.Common.{rules}
use Rattle.script_text.specs.Answers.{answer_line}
use Rattle.script_text.proofs.print.print_answer.Goals as goal

pub returns : goal.returns
unfolding answer_line
returns c = search rules
