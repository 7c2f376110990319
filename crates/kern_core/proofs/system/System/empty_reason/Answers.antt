use Rattle.std.proofs.Common.{true, false, refl, sym, ap, ◌∙◌}
use Rattle.proc_table.specs.Processes.{is_left}
use Rattle.system_model.specs.Tables.{Tables}
use Rattle.kern_core.proofs.WakeLemmas.{empty_waits}
use Rattle.kern_core.proofs.system.System.empty_reason.Goals as goal
use Rattle.kern_core.proofs.system.System.empty_reason.Goals.{else-waits_to_begin-via-then-waits_to_begin+else-not-is_left, else-waits_to_begin-via-else-waits_to_begin}

pub returns-then-not-is_left : goal.returns-then-not-is_left
returns-then-not-is_left c =
    empty_waits c.args.self.now c.args.slot true false (sym c.if-waits_to_begin.true ∙ c.waits_to_begin.ensures)
    (sym c.if-not-is_left.true ∙ c.is_left.ensures ∙ ap (λ (t : Tables). is_left t.processes c.args.slot) c.self.view_is)

pub returns : goal.returns
returns c =
    elim c.else-waits_to_begin.branch [
      | else-waits_to_begin-via-then-waits_to_begin+else-not-is_left w ↦
          empty_waits c.args.self.now c.args.slot true true (sym w.if-waits_to_begin.true ∙ c.waits_to_begin.ensures)
          (sym w.if-not-is_left.false ∙ w.is_left.ensures
          ∙ ap (λ (t : Tables). is_left t.processes c.args.slot) c.self.view_is)
      | else-waits_to_begin-via-else-waits_to_begin w ↦
          empty_waits c.args.self.now c.args.slot false (is_left c.args.self.now.processes c.args.slot)
          (sym w.if-waits_to_begin.false ∙ c.waits_to_begin.ensures) refl
    ]
