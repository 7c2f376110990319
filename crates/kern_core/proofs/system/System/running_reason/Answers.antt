use Rattle.std.proofs.Common.{sym, ap, ◌∙◌}
use Rattle.proc_table.specs.Processes.{running_at}
use Rattle.proc_table.specs.Procs.{process_of}
use Rattle.system_model.specs.Tables.{Tables}
use Rattle.kern_core.proofs.WakeLemmas.{run_waits, run_asks}
use Rattle.kern_core.proofs.system.System.running_reason.Goals as goal

pub returns-then-is_stopped : goal.returns-then-is_stopped
returns-then-is_stopped c =
    run_waits c.args.self.now c.args.slot (process_of c.caller.result.now) c.args.call.now
    (ap (λ (t : Tables). running_at t.processes c.args.slot) (sym c.self.view_is) ∙ c.caller.ensures)
    (sym c.is_stopped.ensures ∙ c.if-is_stopped.true)

pub returns : goal.returns
returns c =
    run_asks c.args.self.now c.args.slot (process_of c.caller.result.now) c.args.call.now c.call_reason.result
    (ap (λ (t : Tables). running_at t.processes c.args.slot) (sym c.self.view_is) ∙ c.caller.ensures)
    (sym c.is_stopped.ensures ∙ c.if-is_stopped.false) c.call_reason.ensures
