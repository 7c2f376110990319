use Rattle.std.proofs.Common.{get_or, sym, ap, ◌∙◌}
use Rattle.std.proofs.lemmas.List.Sums.{fold_more}
use Rattle.proc_table.specs.Posts.{table_and_list}
use Rattle.proc_table.specs.Kills.{post_to}
use Rattle.proc_table.proofs.table.ProcTable.post_to_each.Goals as goal

pub loop-pid-preserved : goal.loop-pid-preserved
loop-pid-preserved c = record {
  posted =
      c.post.ensures.posted
      ∙ ap (λ posted. post_to c.args.sig posted (get_or c.args.pids.now c.loop-pid.pid-index 0)) c.loop-pid.invariant.posted
      ∙ sym (fold_more (post_to c.args.sig) (table_and_list c.args.self.now c.args.ending.now.items) c.args.pids.now c.loop-pid.pid-index 0 c.loop-pid-test.true);
  list = c.post.ensures.list;
}
