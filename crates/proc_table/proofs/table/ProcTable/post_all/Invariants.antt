use Rattle.std.proofs.Common.{◌≡◌, take}
use Rattle.proc_table.specs.Posts.{table_and_list, post_all, IsEndingList}
use Rattle.proc_table.proofs.table.ProcTable.post_all.Given as goal

-- the slots so far got the signal
abbrev pub invariant-loop-slot : goal.invariant-loop-slot
invariant-loop-slot l = record {
  posted : table_and_list l.self l.ending.items ≡ post_all l.sig (take l.slot-index l.slots) (table_and_list l.fn.self l.fn.ending.items);
  list : IsEndingList l.ending.items;
}
