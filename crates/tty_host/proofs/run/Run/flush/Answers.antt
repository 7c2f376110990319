use Rattle.tty_host.specs.Outputs.{behind}
use Rattle.tty_host.proofs.OutputLemmas.{goes-ok, goes-failed, keeps-written, began-line}
use Rattle.tty_host.proofs.run.Run.flush.Goals as goal

pub returns-in-Err-clause-goes : goal.returns-in-Err-clause-goes
returns-in-Err-clause-goes g c = λ more.
    let began = c.in-Err.ensures.began in
    let gathered = c.args.self.now.output.items in
    goes-failed _ _ (behind gathered more) _ (began-line _ _ gathered more.bytes (rw c.as_slice.ensures.value at began))

pub returns-clause-goes : goal.returns-clause-goes
returns-clause-goes g c = λ more.
    let before = c.in_default.ensures.ok in
    goes-ok _ _ _ _ (keeps-written _ _ _ _ more (rw c.as_slice.ensures.value at before) c.clear.ensures)
