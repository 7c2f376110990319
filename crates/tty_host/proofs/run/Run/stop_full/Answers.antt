use Rattle.script_model.specs.Script.{full_end}
use Rattle.tty_host.specs.Outputs.{behind}
use Rattle.tty_host.proofs.OutputLemmas.{goes-full, goes-failed, keeps-last}
use Rattle.tty_host.proofs.run.Run.stop_full.Goals as goal

pub returns-in-Ok-clause-goes : goal.returns-in-Ok-clause-goes
returns-in-Ok-clause-goes g c = λ more.
    let end = behind c.args.self.now.output.items full_end in
    goes-full _ _ end more (keeps-last _ _ end c.in-Ok.ensures.ok)

pub returns-in-Err-clause-goes : goal.returns-in-Err-clause-goes
returns-in-Err-clause-goes g c = λ more. goes-failed _ _ (behind c.args.self.now.output.items full_end) more c.in-Err.ensures.began
