use Rattle.std.proofs.Common.{sym, ap, ◌∙◌}
use Rattle.std.specs.Prelude.{[], ◌∷◌, Some, None, cond, option_copied}
use Rattle.proc_table.specs.Processes.{pending_at}
use Rattle.system_model.specs.Effects.{on_processes, change_all}
use Rattle.system_model.specs.ProcessEffects.{set_pending}
use Rattle.system_model.specs.Looks.{caller_of}
use Rattle.system_model.specs.Memory.{pending_wants}
use Rattle.system_model.specs.Tables.{Tables, view_of}
use Rattle.kern_core.proofs.BehindLemmas.{retry_done, retry_awake, retry_free, err_any}
use Rattle.kern_core.proofs.SlotLemmas.{pending_is}
use Rattle.kern_core.proofs.system.System.retry.Goals as goal

pub returns-then-not-is_sleep-clause-does : goal.returns-then-not-is_sleep-clause-does
returns-then-not-is_sleep-clause-does c =
    retry_done c.args.self.now (view_of c.run.new.self) _ c.run.new.decision c.args.slot c.copy-call.result
    (caller_of (view_of c.args.self.now) c.args.slot) (pending_at (view_of c.args.self.now).processes c.args.slot)
    (pending_is c.args.self.now c.args.slot
    ∙ ap (λ (t : Tables). pending_at t.processes c.args.slot) (sym c.self.view_is) ∙ sym c.pending.ensures ∙ ap option_copied c.in-Some.is
    ∙ ap Some (sym c.copy-call.ensures))
    c.in_ok-run.ensures.does
    (c.set_pending.ensures.does
    ∙ ap (λ b. change_all (view_of c.run.new.self) (cond b [] (on_processes (set_pending c.args.slot None) ∷ [])))
    (sym (sym c.is_sleep.ensures ∙ c.if-not-is_sleep.true)))

pub returns-else-not-is_sleep-clause-does : goal.returns-else-not-is_sleep-clause-does
returns-else-not-is_sleep-clause-does c =
    retry_done c.args.self.now (view_of c.run.new.self) _ c.run.new.decision c.args.slot c.copy-call.result
    (caller_of (view_of c.args.self.now) c.args.slot) (pending_at (view_of c.args.self.now).processes c.args.slot)
    (pending_is c.args.self.now c.args.slot
    ∙ ap (λ (t : Tables). pending_at t.processes c.args.slot) (sym c.self.view_is) ∙ sym c.pending.ensures ∙ ap option_copied c.in-Some.is
    ∙ ap Some (sym c.copy-call.ensures))
    c.in_ok-run.ensures.does
    (ap (λ b. change_all (view_of c.run.new.self) (cond b [] (on_processes (set_pending c.args.slot None) ∷ [])))
    (sym (sym c.is_sleep.ensures ∙ c.if-not-is_sleep.false)))

pub returns-in_default-clause-does : goal.returns-in_default-clause-does
returns-in_default-clause-does c =
    rw c.tell_denied.ensures
    (retry_awake (view_of c.args.self.now) c.args.slot (caller_of (view_of c.args.self.now) c.args.slot) (pending_at (view_of c.args.self.now).processes c.args.slot)
    (pending_is c.args.self.now c.args.slot ∙ ap (λ (t : Tables). pending_at t.processes c.args.slot) (sym c.self.view_is) ∙ sym c.pending.ensures
    ∙ ap option_copied c.in_default.is))

pub returns-in_err-run-clause-memory : goal.returns-in_err-run-clause-memory
returns-in_err-run-clause-memory c =
    err_any _
    (ap (pending_wants (view_of c.args.self.now) c.args.slot)
    (pending_is c.args.self.now c.args.slot
    ∙ ap (λ (t : Tables). pending_at t.processes c.args.slot) (sym c.self.view_is) ∙ sym c.pending.ensures ∙ ap option_copied c.in-Some.is
    ∙ ap Some (sym c.copy-call.ensures))
    ∙ c.in_err-run.ensures.memory)

pub returns-in_err-run-clause-free : goal.returns-in_err-run-clause-free
returns-in_err-run-clause-free c =
    err_any _
    (retry_free (view_of c.args.self.now) c.args.slot c.copy-call.result (caller_of (view_of c.args.self.now) c.args.slot)
    (pending_at (view_of c.args.self.now).processes c.args.slot)
    (pending_is c.args.self.now c.args.slot
    ∙ ap (λ (t : Tables). pending_at t.processes c.args.slot) (sym c.self.view_is) ∙ sym c.pending.ensures ∙ ap option_copied c.in-Some.is
    ∙ ap Some (sym c.copy-call.ensures))
    c.in_err-run.ensures.free)
