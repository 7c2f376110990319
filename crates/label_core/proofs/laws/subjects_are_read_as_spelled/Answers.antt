use Rattle.label_core.proofs.TextLemmas.{subject_of_spelled}
use Rattle.label_core.proofs.laws.subjects_are_read_as_spelled.Goals as goal

pub returns : goal.returns
returns c = subject_of_spelled
