use Rattle.label_core.proofs.FirstFaultLemmas.{subject_of_fault, subject_of_range, subject_of_range_place}
use Rattle.label_core.proofs.FaultKindLemmas.{subject_grade, subject_compartment}
use Rattle.label_core.proofs.laws.subject_faults_are_first.Goals as goal

pub returns : goal.returns
returns c = record {
  place = subject_of_fault;
  range = subject_of_range;
  range_place = subject_of_range_place;
  grade = subject_grade;
  compartment = subject_compartment;
}
