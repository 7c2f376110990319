use Rattle.std.proofs.Common.{true, false, not, sym, ap, ◌∙◌}
use Rattle.std.specs.Prelude.{is_some}
use Rattle.proc_table.specs.Processes.{pending_at}
use Rattle.system_model.specs.Tables.{Tables}
use Rattle.kern_core.proofs.BehindLemmas.{is_some_copied}
use Rattle.kern_core.proofs.WakeLemmas.{goes_by_pending}
use Rattle.kern_core.proofs.system.System.can_go_on.Goals as goal

pub returns-then-is_some : goal.returns-then-is_some
returns-then-is_some c =
    ap not (c.is_some-then-is_some.ensures ∙ ap is_some c.waits.ensures)
    ∙ goes_by_pending c.args.self.now c.args.slot true
    (ap (λ (t : Tables). is_some (pending_at t.processes c.args.slot)) (sym c.self.view_is)
    ∙ ap is_some (sym c.pending.ensures) ∙ is_some_copied c.pending.result ∙ sym c.is_some.ensures ∙ c.if-is_some.true)

pub returns-else-is_some : goal.returns-else-is_some
returns-else-is_some c =
    c.if-is_some.false
    ∙ goes_by_pending c.args.self.now c.args.slot false
    (ap (λ (t : Tables). is_some (pending_at t.processes c.args.slot)) (sym c.self.view_is)
    ∙ ap is_some (sym c.pending.ensures) ∙ is_some_copied c.pending.result ∙ sym c.is_some.ensures ∙ c.if-is_some.false)
