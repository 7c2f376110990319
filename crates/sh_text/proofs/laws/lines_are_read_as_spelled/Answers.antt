use Rattle.sh_text.proofs.LineGrammarLemmas.{line_spelled}
use Rattle.sh_text.proofs.laws.lines_are_read_as_spelled.Goals as goal

pub returns : goal.returns
returns c = line_spelled
