use Rattle.std.proofs.Common.{◌∷◌, ◌++◌, [], not, get_or, sym, ap, ◌∙◌, arith}
use Rattle.proc_table.specs.Processes.{is_orphaned}
use Rattle.proc_table.proofs.ListLemmas.{filter-passed, filter-failed}
use Rattle.proc_table.proofs.table.ProcTable.without_orphaned.Goals as goal
use Rattle.proc_table.proofs.table.ProcTable.without_orphaned.Goals.{then-not-orphaned, else-not-orphaned}

pub loop-group-preserved : goal.loop-group-preserved
loop-group-preserved c =
    elim c.if-not-orphaned.branch [
      | then-not-orphaned w ↦ (
          let more = filter-passed (λ group. not (is_orphaned c.args.self.now group)) c.args.groups.now c.loop-group.group-index 0 c.loop-group-test.true
          (ap not (sym c.orphaned.ensures ∙ w.if-not-orphaned.true)) in
          rw w.chosen-is (record {
            chosen = w.push.ensures.items ∙ ap (λ chosen. chosen ++ get_or c.args.groups.now c.loop-group.group-index 0 ∷ []) c.loop-group.invariant.chosen
                ∙ sym more;
            len = omega (arith, w.push.ensures.len, c.loop-group.invariant.len);
          }))
      | else-not-orphaned w ↦ (
          let more = filter-failed (λ group. not (is_orphaned c.args.self.now group)) c.args.groups.now c.loop-group.group-index 0 c.loop-group-test.true
          (ap not (sym c.orphaned.ensures ∙ w.if-not-orphaned.false)) in
          rw w.chosen-is (record { chosen = c.loop-group.invariant.chosen ∙ sym more; len = omega (arith, c.loop-group.invariant.len) }))
    ]
