use Rattle.std.proofs.Common.{◌≡◌, sym, ap, ◌∙◌}
use Rattle.std.specs.Prelude.{true, [], ◌∷◌, Some, cond, is_some}
use Rattle.proc_table.specs.Processes.{pending_at}
use Rattle.system_model.specs.Effects.{on_processes, change_all}
use Rattle.system_model.specs.ProcessEffects.{set_pending}
use Rattle.system_model.specs.Looks.{caller_of}
use Rattle.system_model.specs.Tables.{Tables, view_of}
use Rattle.kern_core.proofs.BehindLemmas.{enter_denied, enter_done, enter_free, err_any, is_some_copied}
use Rattle.kern_core.proofs.system.System.enter.Goals as goal

pub returns-then-is_some-clause-does : goal.returns-then-is_some-clause-does
returns-then-is_some-clause-does c =
    let waits : is_some (pending_at c.args.self.now.processes c.args.slot) ≡ true =
    ap (λ (t : Tables). is_some (pending_at t.processes c.args.slot)) (sym c.self.view_is)
    ∙ ap is_some (sym c.pending.ensures) ∙ is_some_copied c.pending.result ∙ sym c.is_some.ensures ∙ c.if-is_some.true in
    rw c.tell_denied.ensures
    (enter_denied c.args.self.now c.args.slot c.args.call.now (caller_of (view_of c.args.self.now) c.args.slot) waits)

pub returns-then-is_sleep-clause-does : goal.returns-then-is_sleep-clause-does
returns-then-is_sleep-clause-does c =
    enter_done c.args.self.now (view_of c.run.new.self) _ c.run.new.decision c.args.slot c.args.call.now
    (caller_of (view_of c.args.self.now) c.args.slot)
    (ap (λ (t : Tables). is_some (pending_at t.processes c.args.slot)) (sym c.self.view_is)
    ∙ ap is_some (sym c.pending.ensures) ∙ is_some_copied c.pending.result ∙ sym c.is_some.ensures ∙ c.if-is_some.false)
    c.in_ok-run.ensures.does
    (c.set_pending.ensures.does
    ∙ ap (λ call. change_all (view_of c.run.new.self) (on_processes (set_pending c.args.slot (Some call)) ∷ [])) c.copy.ensures
    ∙ ap (λ b. change_all (view_of c.run.new.self) (cond b (on_processes (set_pending c.args.slot (Some c.args.call.now)) ∷ []) []))
    (sym (sym c.is_sleep.ensures ∙ c.if-is_sleep.true)))

pub returns-else-is_sleep-clause-does : goal.returns-else-is_sleep-clause-does
returns-else-is_sleep-clause-does c =
    enter_done c.args.self.now (view_of c.run.new.self) _ c.run.new.decision c.args.slot c.args.call.now
    (caller_of (view_of c.args.self.now) c.args.slot)
    (ap (λ (t : Tables). is_some (pending_at t.processes c.args.slot)) (sym c.self.view_is)
    ∙ ap is_some (sym c.pending.ensures) ∙ is_some_copied c.pending.result ∙ sym c.is_some.ensures ∙ c.if-is_some.false)
    c.in_ok-run.ensures.does
    (ap (λ b. change_all (view_of c.run.new.self) (cond b (on_processes (set_pending c.args.slot (Some c.args.call.now)) ∷ []) []))
    (sym (sym c.is_sleep.ensures ∙ c.if-is_sleep.false)))

pub returns-in_err-run-clause-free : goal.returns-in_err-run-clause-free
returns-in_err-run-clause-free c =
    err_any _
    (enter_free c.args.self.now c.args.slot c.args.call.now (caller_of (view_of c.args.self.now) c.args.slot)
    (ap (λ (t : Tables). is_some (pending_at t.processes c.args.slot)) (sym c.self.view_is)
    ∙ ap is_some (sym c.pending.ensures) ∙ is_some_copied c.pending.result ∙ sym c.is_some.ensures ∙ c.if-is_some.false)
    c.in_err-run.ensures.free)
