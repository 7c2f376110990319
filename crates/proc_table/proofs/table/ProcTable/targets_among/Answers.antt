use Rattle.std.proofs.Common.{◌∷◌, ◌++◌, [], get_or, sym, ap, ◌∙◌, arith}
use Rattle.proc_table.specs.Processes.{holds, process_at}
use Rattle.proc_table.specs.Procs.{process_of}
use Rattle.proc_table.specs.Kills.{is_named_and_seen}
use Rattle.proc_table.proofs.ListLemmas.{filter-passed, filter-failed}
use Rattle.proc_table.proofs.table.ProcTable.targets_among.Goals as goal
use Rattle.proc_table.proofs.table.ProcTable.targets_among.Goals.{then-is_target_at, else-is_target_at}

pub loop-slot-preserved : goal.loop-slot-preserved
loop-slot-preserved c =
    elim c.if-is_target_at.branch [
      | then-is_target_at w ↦ (
          let more = filter-passed (λ slot. holds (is_named_and_seen (process_of c.args.who.now) c.args.to) (process_at c.args.self.now slot))
          c.args.slots.now c.loop-slot.slot-index 0 c.loop-slot-test.true (sym c.is_target_at.ensures ∙ w.if-is_target_at.true) in
          rw w.chosen-is (record {
            chosen = w.push.ensures.items ∙ ap (λ chosen. chosen ++ get_or c.args.slots.now c.loop-slot.slot-index 0 ∷ []) c.loop-slot.invariant.chosen
                ∙ sym more;
            len = omega (arith, w.push.ensures.len, c.loop-slot.invariant.len);
          }))
      | else-is_target_at w ↦ (
          let more = filter-failed (λ slot. holds (is_named_and_seen (process_of c.args.who.now) c.args.to) (process_at c.args.self.now slot))
          c.args.slots.now c.loop-slot.slot-index 0 c.loop-slot-test.true (sym c.is_target_at.ensures ∙ w.if-is_target_at.false) in
          rw w.chosen-is (record { chosen = c.loop-slot.invariant.chosen ∙ sym more; len = omega (arith, c.loop-slot.invariant.len) }))
    ]
