use Rattle.std.proofs.Common.{Some}
use Rattle.script_model.specs.Script.{text_end}
use Rattle.tty_host.specs.Outputs.{behind}
use Rattle.tty_host.proofs.OutputLemmas.{keeps-last, goes-bad, goes-failed}
use Rattle.tty_host.proofs.run.Run.stop_at_line.Goals as goal

pub returns-in-Ok-clause-goes : goal.returns-in-Ok-clause-goes
unfolding text_end
returns-in-Ok-clause-goes g c = λ more.
    let self = c.args.self.now in
    let before = c.in-Ok.ensures.ok in
    goes-bad _ _ _ more (keeps-last _ _ (behind self.output.items (text_end (Some self.number))) (rw (c.as_slice.ensures.value, c.bad_line.ensures) at before))

pub returns-in-Err-clause-goes : goal.returns-in-Err-clause-goes
returns-in-Err-clause-goes g c = λ more.
    let self = c.args.self.now in
    let began = c.in-Err.ensures.began in
    goes-failed _ _ (behind self.output.items (text_end (Some self.number))) more (rw (c.as_slice.ensures.value, c.bad_line.ensures) at began)
