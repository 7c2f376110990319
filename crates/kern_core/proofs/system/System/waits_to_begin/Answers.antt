use Rattle.std.proofs.Common.{sym, ap, ◌∙◌}
use Rattle.system_model.specs.Step.{is_begin_pending}
use Rattle.kern_core.proofs.SlotLemmas.{pending_is}
use Rattle.kern_core.proofs.system.System.waits_to_begin.Goals as goal

pub returns : goal.returns
returns c = rw (← c.self.view_is) (c.is_begin.ensures ∙ ap is_begin_pending (c.pending.ensures ∙ sym (pending_is _ c.args.slot)))
