use Rattle.std.proofs.Common.{get_or, sym, ap, ◌∙◌}
use Rattle.std.proofs.lemmas.List.Sums.{fold_more}
use Rattle.proc_table.specs.Posts.{table_and_list}
use Rattle.proc_table.specs.Endings.{hang_up}
use Rattle.proc_table.proofs.table.ProcTable.hang_up_all.Goals as goal

pub loop-group-preserved : goal.loop-group-preserved
loop-group-preserved c = record {
  posted =
      c.hang_up.ensures.posted
      ∙ ap (λ posted. hang_up posted (get_or c.args.groups.now c.loop-group.group-index 0)) c.loop-group.invariant.posted
      ∙ sym (fold_more hang_up (table_and_list c.args.self.now c.args.ending.now.items) c.args.groups.now c.loop-group.group-index 0 c.loop-group-test.true);
  list = c.hang_up.ensures.list;
}
