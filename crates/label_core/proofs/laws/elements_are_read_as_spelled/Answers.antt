use Rattle.label_core.proofs.TextLemmas.{element_of_spelled}
use Rattle.label_core.proofs.laws.elements_are_read_as_spelled.Goals as goal

pub returns : goal.returns
returns c = element_of_spelled
