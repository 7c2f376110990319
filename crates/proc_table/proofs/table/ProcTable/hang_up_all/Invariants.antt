use Rattle.std.proofs.Common.{◌≡◌, take}
use Rattle.std.specs.Prelude.{fold}
use Rattle.proc_table.specs.Posts.{table_and_list, IsEndingList}
use Rattle.proc_table.specs.Endings.{hang_up}
use Rattle.proc_table.proofs.table.ProcTable.hang_up_all.Given as goal

-- the groups so far are hung up
abbrev pub invariant-loop-group : goal.invariant-loop-group
invariant-loop-group l = record {
  posted : table_and_list l.self l.ending.items ≡ fold hang_up (table_and_list l.fn.self l.fn.ending.items) (take l.group-index l.groups);
  list : IsEndingList l.ending.items;
}
