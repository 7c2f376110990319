use Rattle.std.proofs.Common.{ap, ◌∙◌}
use Rattle.std.specs.Prelude.{filter_map, option_and_then}
use Rattle.proc_table.specs.Processes.{process_at, slots_by_pid, is_running}
use Rattle.proc_table.specs.Procs.{process_of}
use Rattle.proc_table.specs.Kills.{receiver_pid}
use Rattle.proc_table.proofs.KillLemmas.{pids_to_signal-by-slot}
use Rattle.proc_table.proofs.table.ProcTable.pids_to_signal.Goals as goal

pub returns : goal.returns
returns c =
    c.receivers_among.ensures
    ∙ ap (filter_map (λ slot. option_and_then (receiver_pid (process_of c.args.who.now)) (process_at c.args.self.now slot))) (c.as_slice.ensures.value ∙ c.targets-targets.ensures)
    ∙ pids_to_signal-by-slot (process_of c.args.who.now) c.args.to c.args.self.now (slots_by_pid is_running c.args.self.now)
