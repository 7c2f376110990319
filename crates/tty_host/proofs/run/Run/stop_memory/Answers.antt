use Rattle.std.proofs.Common.{append-nil}
use Rattle.tty_host.specs.Outputs.{behind}
use Rattle.tty_host.proofs.OutputLemmas.{goes-memory, goes-failed, began-line}
use Rattle.tty_host.proofs.run.Run.stop_memory.Goals as goal

pub returns-in-Ok-clause-goes : goal.returns-in-Ok-clause-goes
returns-in-Ok-clause-goes g c = λ come more among.
    let gathered = c.args.self.now.output.items in
    goes-memory _ _ gathered come more among (rw (append-nil gathered) at c.in-Ok.ensures.ok)

pub returns-in-Err-clause-goes : goal.returns-in-Err-clause-goes
returns-in-Err-clause-goes g c = λ come more among.
    let gathered = c.args.self.now.output.items in
    goes-failed _ _ (behind gathered come) more (began-line _ _ gathered come.bytes (rw (append-nil gathered) at c.in-Err.ensures.began))
