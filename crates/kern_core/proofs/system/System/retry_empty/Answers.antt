use Rattle.std.proofs.Common.{sym, ap, ◌∙◌}
use Rattle.std.specs.Prelude.{None}
use Rattle.system_model.specs.Effects.{on_processes, change}
use Rattle.system_model.specs.ProcessEffects.{set_pending}
use Rattle.kern_core.proofs.BehindLemmas.{retry_begins, retry_gone}
use Rattle.kern_core.proofs.system.System.retry_empty.Goals as goal

pub returns-then-begins-clause-does : goal.returns-then-begins-clause-does
returns-then-begins-clause-does c =
    rw c.tell_sleep.ensures (retry_begins _ _ c.args.slot (sym c.waits_to_begin-begins.ensures ∙ c.if-begins.true) c.tell_if_left.ensures.does)

pub returns-clause-does : goal.returns-clause-does
returns-clause-does c =
    rw c.tell_gone.ensures
    (retry_gone _ _ c.args.slot (sym c.waits_to_begin-begins.ensures ∙ c.if-begins.false)
    (c.set_pending.ensures.does ∙ ap (λ v. change v (on_processes (set_pending c.args.slot None))) c.tell_if_left.ensures.does))
