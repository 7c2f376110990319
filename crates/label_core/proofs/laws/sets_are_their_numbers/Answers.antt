use Rattle.label_core.proofs.SetLemmas.{has_number-with_number, has_number-subset, is_subset_of_each, same_numbers}
use Rattle.label_core.proofs.laws.sets_are_their_numbers.Goals as goal

pub returns : goal.returns
returns c = record {
  member = has_number-with_number;
  subset = λ some all. (λ sub n is. has_number-subset n some all sub is, is_subset_of_each some all);
  same = same_numbers;
}
