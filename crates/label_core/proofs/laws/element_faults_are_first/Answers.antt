use Rattle.label_core.proofs.FirstFaultLemmas.{element_of_fault}
use Rattle.label_core.proofs.FaultKindLemmas.{element_grade, element_compartment}
use Rattle.label_core.proofs.laws.element_faults_are_first.Goals as goal

pub returns : goal.returns
returns c = record {
  place = λ text f given. (element_of_fault text f given).0;
  kind = λ text f given. (element_of_fault text f given).1;
  grade = element_grade;
  compartment = element_compartment;
}
