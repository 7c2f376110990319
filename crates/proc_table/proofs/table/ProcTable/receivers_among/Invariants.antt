use Rattle.std.proofs.Common.{◌≡◌, ◌≤◌, take}
use Rattle.std.specs.Prelude.{filter_map, option_and_then}
use Rattle.arrayvec.specs.ArrayVec.{array_vec_len}
use Rattle.proc_table.specs.Processes.{process_at}
use Rattle.proc_table.specs.Procs.{process_of}
use Rattle.proc_table.specs.Kills.{receiver_pid}
use Rattle.proc_table.proofs.table.ProcTable.receivers_among.Given as goal

-- those so far
abbrev pub invariant-loop-slot : goal.invariant-loop-slot
invariant-loop-slot l = record {
  pids : l.pids.items ≡ filter_map (λ slot. option_and_then (receiver_pid (process_of l.who)) (process_at l.self slot)) (take l.slot-index l.slots);
  len : array_vec_len l.pids ≤ l.slot-index;
}
