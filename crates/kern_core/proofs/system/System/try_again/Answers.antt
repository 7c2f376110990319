use Rattle.std.proofs.Common.{subst, sym, ap, ◌∙◌}
use Rattle.std.specs.Prelude.{OnOk}
use Rattle.proc_table.specs.Processes.{running_at}
use Rattle.proc_table.specs.Procs.{process_of}
use Rattle.system_model.specs.Rows.{Does}
use Rattle.system_model.specs.Step.{again_row}
use Rattle.system_model.specs.Tables.{Tables, view_of}
use Rattle.kern_core.proofs.BehindLemmas.{nobody_runs, somebody_runs}
use Rattle.kern_core.proofs.system.System.try_again.Goals as goal

pub returns-then-is_some-clause-does : goal.returns-then-is_some-clause-does
returns-then-is_some-clause-does c =
    subst (λ o. OnOk c.retry.result
    (Does (view_of c.args.self.now) (view_of c.retry.new.self) c.retry.new.decision (again_row (view_of c.args.self.now) c.args.slot o)))
    (sym (somebody_runs c.args.self.now c.args.slot process_of c.running.result
    (c.running.ensures.process ∙ ap (λ (t : Tables). running_at t.processes c.args.slot) c.self.view_is) (sym c.is_some.ensures ∙ c.if-is_some.true)))
    c.retry.ensures.does

pub returns-clause-does : goal.returns-clause-does
returns-clause-does c =
    subst (λ o. Does (view_of c.args.self.now) (view_of c.retry_empty.new.self) c.retry_empty.new.decision (again_row (view_of c.args.self.now) c.args.slot o))
    (sym (nobody_runs c.args.self.now c.args.slot process_of c.running.result
    (c.running.ensures.process ∙ ap (λ (t : Tables). running_at t.processes c.args.slot) c.self.view_is) (sym c.is_some.ensures ∙ c.if-is_some.false)))
    c.retry_empty.ensures.does
