use Rattle.std.proofs.Common.{◌≡◌, ◌≤◌, take}
use Rattle.std.specs.Prelude.{filter}
use Rattle.arrayvec.specs.ArrayVec.{array_vec_len}
use Rattle.proc_table.specs.Processes.{holds, process_at}
use Rattle.proc_table.specs.Procs.{process_of}
use Rattle.proc_table.specs.Kills.{is_seen}
use Rattle.proc_table.proofs.table.ProcTable.seen_among.Given as goal

-- those so far
abbrev pub invariant-loop-slot : goal.invariant-loop-slot
invariant-loop-slot l = record {
  chosen : l.chosen.items ≡ filter (λ slot. holds (is_seen (process_of l.who)) (process_at l.self slot)) (take l.slot-index l.slots);
  len : array_vec_len l.chosen ≤ l.slot-index;
}
