use Rattle.sh_text.proofs.FirstFaultLemmas.{line_fault}
use Rattle.sh_text.proofs.laws.line_faults_are_first.Goals as goal

pub returns : goal.returns
returns c = line_fault
