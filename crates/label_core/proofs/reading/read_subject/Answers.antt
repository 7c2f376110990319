use Rattle.label_core.proofs.FirstFaultLemmas.{subject_left}
use Rattle.label_core.proofs.TextLemmas.{whole_subject_valid}
use Rattle.label_core.proofs.reading.read_subject.Goals as goal

pub returns-in-Ok-clause-valid : goal.returns-in-Ok-clause-valid
returns-in-Ok-clause-valid c = whole_subject_valid c.args.text.now c.in-Ok.s c.in-Ok.ensures

pub overflow_sub-result : goal.overflow_sub-result
overflow_sub-result c = subject_left c.args.text.now c.in-Err.stop c.in-Err.ensures
