use Rattle.std.proofs.lemmas.Result.{err_from_is_err_and}
use Rattle.tty_host.proofs.OutputLemmas.{goes-stop}
use Rattle.tty_host.proofs.run.Run.end_line.Goals as goal

pub returns-in_err-run_line-clause-goes : goal.returns-in_err-run_line-clause-goes
returns-in_err-run_line-clause-goes g c = λ ls.
    let same = err_from_is_err_and c.from_residual.result c.from_residual.ensures.1 in
    rw (same.1, same.2) (goes-stop _ _ _ _ _ _ (c.in_err-run_line.ensures.goes ls))
