use Rattle.std.proofs.Common.{◌∷◌, ◌++◌, [], sym, ap, ◌∙◌, arith}
use Rattle.system_model.specs.Step.{can_go_on}
use Rattle.system_model.specs.Tables.{view_of}
use Rattle.kern_core.proofs.WakeLemmas.{filter_taken, filter_left}
use Rattle.kern_core.proofs.system.System.slots_to_wake.Goals as goal
use Rattle.kern_core.proofs.system.System.slots_to_wake.Goals.{then-can_go_on, else-can_go_on}

pub loop-slot-preserved : goal.loop-slot-preserved
loop-slot-preserved c =
    elim c.if-can_go_on.branch [
      | then-can_go_on w ↦
          rw w.slots-is (record {
            chosen = w.push.ensures.items ∙ ap (λ xs. xs ++ c.loop-slot.slot ∷ []) c.loop-slot.invariant.chosen
                ∙ sym (filter_taken (can_go_on (view_of c.args.self.now)) c.loop-slot.slot (sym c.can_go_on.ensures ∙ w.if-can_go_on.true));
            len = omega (arith, w.push.ensures.len, c.loop-slot.invariant.len);
          })
      | else-can_go_on w ↦
          rw w.slots-is (record {
            chosen = c.loop-slot.invariant.chosen ∙ sym (filter_left (can_go_on (view_of c.args.self.now)) c.loop-slot.slot (sym c.can_go_on.ensures ∙ w.if-can_go_on.false));
            len = omega (arith, c.loop-slot.invariant.len);
          })
    ]
