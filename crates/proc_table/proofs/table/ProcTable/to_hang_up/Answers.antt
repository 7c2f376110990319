use Rattle.std.proofs.Common.{◌∷◌, ◌++◌, [], ◌&&◌, get_or, sym, ap, ◌∙◌, arith}
use Rattle.proc_table.specs.Processes.{is_orphaned}
use Rattle.proc_table.specs.Endings.{has_stopped}
use Rattle.proc_table.proofs.ListLemmas.{filter-passed, filter-failed}
use Rattle.proc_table.proofs.table.ProcTable.to_hang_up.Goals as goal
use Rattle.proc_table.proofs.table.ProcTable.to_hang_up.Goals.{then-must_hang_up, else-must_hang_up}

pub loop-group-preserved : goal.loop-group-preserved
loop-group-preserved c =
    elim c.if-must_hang_up.branch [
      | then-must_hang_up w ↦ (
          let more = filter-passed
          (λ group. is_orphaned c.args.self.now group && has_stopped c.args.self.now group) c.args.groups.now c.loop-group.group-index 0
          c.loop-group-test.true
          (sym c.must_hang_up.ensures ∙ w.if-must_hang_up.true) in
          rw w.chosen-is (record {
            chosen = w.push.ensures.items ∙ ap (λ chosen. chosen ++ get_or c.args.groups.now c.loop-group.group-index 0 ∷ []) c.loop-group.invariant.chosen
                ∙ sym more;
            len = omega (arith, w.push.ensures.len, c.loop-group.invariant.len);
          }))
      | else-must_hang_up w ↦ (
          let more = filter-failed
          (λ group. is_orphaned c.args.self.now group && has_stopped c.args.self.now group) c.args.groups.now c.loop-group.group-index 0
          c.loop-group-test.true
          (sym c.must_hang_up.ensures ∙ w.if-must_hang_up.false) in
          rw w.chosen-is (record { chosen = c.loop-group.invariant.chosen ∙ sym more; len = omega (arith, c.loop-group.invariant.len) }))
    ]
