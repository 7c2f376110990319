use Rattle.script_text.proofs.Asking.{line_said, line_is_read}
use Rattle.script_text.proofs.laws.one_grammar.Goals as goal

pub returns : goal.returns
returns c = λ line es. (line_said line es, line_is_read line es)
