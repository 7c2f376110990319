use Rattle.std.proofs.Common.{sym, ap, ◌∙◌}
use Rattle.std.specs.Prelude.{option_copied, is_some}
use Rattle.proc_table.specs.Processes.{running_at, pending_at}
use Rattle.proc_table.specs.Procs.{process_of}
use Rattle.system_model.specs.Tables.{Tables}
use Rattle.kern_core.proofs.BehindLemmas.{nobody_runs, somebody_runs}
use Rattle.kern_core.proofs.WakeLemmas.{waits_none, waits_halted, waits_running, waits_empty}
use Rattle.kern_core.proofs.system.System.waits.Goals as goal

pub returns-in_default : goal.returns-in_default
returns-in_default c =
    waits_none c.args.self.now c.args.slot
    (ap (λ (t : Tables). pending_at t.processes c.args.slot) (sym c.self.view_is) ∙ sym c.pending.ensures ∙ ap option_copied c.in_default.is)

pub returns-then-self : goal.returns-then-self
returns-then-self c =
    waits_halted c.args.self.now c.args.slot
    (ap (λ (t : Tables). is_some (pending_at t.processes c.args.slot)) (sym c.self.view_is)
    ∙ ap is_some (sym c.pending.ensures) ∙ ap (λ o. is_some (option_copied o)) c.in-Some.is)
    (ap (λ (t : Tables). t.halted) (sym c.self.view_is) ∙ c.if-self.true)

pub returns-then-is_some : goal.returns-then-is_some
returns-then-is_some c =
    waits_running c.args.self.now c.args.slot c.in-Some.call.now c.running_reason.result
    (ap (λ (t : Tables). pending_at t.processes c.args.slot) (sym c.self.view_is) ∙ sym c.pending.ensures ∙ ap option_copied c.in-Some.is)
    (ap (λ (t : Tables). t.halted) (sym c.self.view_is) ∙ c.if-self.false)
    (somebody_runs c.args.self.now c.args.slot process_of c.running.result
    (c.running.ensures.process ∙ ap (λ (t : Tables). running_at t.processes c.args.slot) c.self.view_is) (sym c.is_some.ensures ∙ c.if-is_some.true))
    c.running_reason.ensures

pub returns : goal.returns
returns c =
    waits_empty c.args.self.now c.args.slot c.empty_reason.result
    (ap (λ (t : Tables). is_some (pending_at t.processes c.args.slot)) (sym c.self.view_is)
    ∙ ap is_some (sym c.pending.ensures) ∙ ap (λ o. is_some (option_copied o)) c.in-Some.is)
    (ap (λ (t : Tables). t.halted) (sym c.self.view_is) ∙ c.if-self.false)
    (nobody_runs c.args.self.now c.args.slot process_of c.running.result
    (c.running.ensures.process ∙ ap (λ (t : Tables). running_at t.processes c.args.slot) c.self.view_is) (sym c.is_some.ensures ∙ c.if-is_some.false))
    c.empty_reason.ensures
