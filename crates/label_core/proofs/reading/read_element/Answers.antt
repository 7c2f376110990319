use Rattle.label_core.proofs.FirstFaultLemmas.{element_left}
use Rattle.label_core.proofs.TextLemmas.{whole_element_valid}
use Rattle.label_core.proofs.reading.read_element.Goals as goal

pub returns-in-Ok-clause-valid : goal.returns-in-Ok-clause-valid
returns-in-Ok-clause-valid c = whole_element_valid c.args.text.now c.in-Ok.e c.in-Ok.ensures

pub overflow_sub-result : goal.overflow_sub-result
overflow_sub-result c = element_left c.args.text.now c.in-Err.stop c.in-Err.ensures
