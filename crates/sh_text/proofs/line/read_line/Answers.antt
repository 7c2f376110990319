use Rattle.std.proofs.Common.{rules}
use Rattle.sh_text.specs.Reading.{line_of}
use Rattle.sh_text.proofs.LineGrammarLemmas.{line_taken}
use Rattle.sh_text.proofs.FirstFaultLemmas.{line_fault_alone}
use Rattle.sh_text.proofs.line.read_line.Goals as goal

pub returns-in-Ok-clause-grammar : goal.returns-in-Ok-clause-grammar
unfolding line_of
returns-in-Ok-clause-grammar c = line_taken c.args.text.now _ (search rules)

pub returns-in-Err-Text-clause-grammar : goal.returns-in-Err-Text-clause-grammar
unfolding line_of
returns-in-Err-Text-clause-grammar c = line_fault_alone c.args.text.now _ (search rules)
