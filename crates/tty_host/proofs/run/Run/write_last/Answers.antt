use Rattle.tty_host.proofs.OutputLemmas.{began-line, began-behind}
use Rattle.tty_host.proofs.run.Run.write_last.Goals as goal

pub returns-in-Ok-clause-began : goal.returns-in-Ok-clause-began
returns-in-Ok-clause-began g c = began-behind _ _ _ _ _ _ (rw c.as_slice.ensures.value at c.in-Ok.ensures.ok) c.write_all-in-Ok.ensures.began

pub returns-in-Err-clause-began : goal.returns-in-Err-clause-began
returns-in-Err-clause-began g c = began-line _ _ _ _ (rw c.as_slice.ensures.value at c.in-Err.ensures.began)
