use Rattle.std.proofs.Common.{◌≡◌, ◌≤◌, not, take}
use Rattle.std.specs.Prelude.{filter}
use Rattle.arrayvec.specs.ArrayVec.{array_vec_len}
use Rattle.proc_table.specs.Processes.{is_orphaned}
use Rattle.proc_table.proofs.table.ProcTable.without_orphaned.Given as goal

-- those so far
abbrev pub invariant-loop-group : goal.invariant-loop-group
invariant-loop-group l = record {
  chosen : l.chosen.items ≡ filter (λ group. not (is_orphaned l.self group)) (take l.group-index l.groups);
  len : array_vec_len l.chosen ≤ l.group-index;
}
