use Rattle.std.proofs.Common.{◌≡◌, take}
use Rattle.proc_table.specs.Posts.{table_and_list, IsEndingList}
use Rattle.proc_table.specs.Kills.{post_to_each}
use Rattle.proc_table.proofs.table.ProcTable.post_to_each.Given as goal

-- the pids so far got the signal
abbrev pub invariant-loop-pid : goal.invariant-loop-pid
invariant-loop-pid l = record {
  posted : table_and_list l.self l.ending.items ≡ post_to_each l.sig (take l.pid-index l.pids) (table_and_list l.fn.self l.fn.ending.items);
  list : IsEndingList l.ending.items;
}
