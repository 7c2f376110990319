use Rattle.label_core.proofs.SetTextLemmas.{IsPrinted}
use Rattle.label_core.proofs.printing.push_set.Given as goal

abbrev pub invariant-loop-n : goal.invariant-loop-n
invariant-loop-n l = IsPrinted l.set l.fn.out.items l.out.items l.mark l.n
