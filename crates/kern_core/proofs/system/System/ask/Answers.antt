use Rattle.std.proofs.Common.{subst, sym, ap, ◌∙◌}
use Rattle.std.specs.Prelude.{OnOk}
use Rattle.proc_table.specs.Processes.{running_at}
use Rattle.proc_table.specs.Procs.{process_of}
use Rattle.system_model.specs.Rows.{Does}
use Rattle.system_model.specs.Step.{enter_row}
use Rattle.system_model.specs.Tables.{Tables, view_of}
use Rattle.kern_core.proofs.BehindLemmas.{nobody_runs, somebody_runs}
use Rattle.kern_core.proofs.system.System.ask.Goals as goal

pub returns-then-is_some-clause-does : goal.returns-then-is_some-clause-does
returns-then-is_some-clause-does c =
    subst (λ o. OnOk c.enter.result
    (Does (view_of c.args.self.now) (view_of c.enter.new.self) c.enter.new.decision (enter_row (view_of c.args.self.now) c.args.slot c.args.call.now o)))
    (sym (somebody_runs c.args.self.now c.args.slot process_of c.running.result
    (c.running.ensures.process ∙ ap (λ (t : Tables). running_at t.processes c.args.slot) c.self.view_is) (sym c.is_some.ensures ∙ c.if-is_some.true)))
    c.enter.ensures.does

pub returns-clause-does : goal.returns-clause-does
returns-clause-does c =
    subst (λ o. Does (view_of c.args.self.now) (view_of c.enter_empty.new.self) c.enter_empty.new.decision (enter_row (view_of c.args.self.now) c.args.slot c.args.call.now o))
    (sym (nobody_runs c.args.self.now c.args.slot process_of c.running.result
    (c.running.ensures.process ∙ ap (λ (t : Tables). running_at t.processes c.args.slot) c.self.view_is) (sym c.is_some.ensures ∙ c.if-is_some.false)))
    c.enter_empty.ensures.does
