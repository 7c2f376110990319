use Rattle.std.proofs.Common.{sym, ap, ◌∙◌}
use Rattle.proc_table.specs.Processes.{running_at}
use Rattle.proc_table.specs.Procs.{process_of}
use Rattle.std.proofs.lemmas.Result.{on_ok_weaker, on_err_weaker}
use Rattle.system_model.specs.Tables.{Tables}
use Rattle.kern_core.proofs.BehindLemmas.{run_stops, run_goes, run_free}
use Rattle.kern_core.proofs.system.System.run.Goals as goal

pub returns-then-is_stopped-clause-does : goal.returns-then-is_stopped-clause-does
returns-then-is_stopped-clause-does c =
    rw (← c.self.view_is, c.tell_sleep.ensures)
    (run_stops _ c.args.slot (process_of c.caller.result.now) c.args.call.now c.caller.ensures (sym c.is_stopped.ensures ∙ c.if-is_stopped.true))

pub returns-clause-does : goal.returns-clause-does
returns-clause-does c =
    on_ok_weaker c.do_call.result
    (λ does.
    run_goes c.args.self.now _ c.do_call.new.decision c.args.slot (process_of c.caller.result.now) c.args.call.now
    (ap (λ (t : Tables). running_at t.processes c.args.slot) (sym c.self.view_is) ∙ c.caller.ensures)
    (sym c.is_stopped.ensures ∙ c.if-is_stopped.false) does)
    c.do_call.ensures.does

pub returns-clause-free : goal.returns-clause-free
returns-clause-free c =
    on_err_weaker c.do_call.result
    (run_free c.args.self.now c.args.slot (process_of c.caller.result.now) c.args.call.now
    (ap (λ (t : Tables). running_at t.processes c.args.slot) (sym c.self.view_is) ∙ c.caller.ensures)
    (sym c.is_stopped.ensures ∙ c.if-is_stopped.false))
    c.do_call.ensures.free
