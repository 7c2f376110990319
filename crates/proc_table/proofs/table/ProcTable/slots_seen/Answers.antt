use Rattle.std.proofs.Common.{true, ap, ◌∙◌}
use Rattle.std.specs.Prelude.{filter, filter_map}
use Rattle.proc_table.specs.Processes.{holds, process_at, with_process, slots_by_pid}
use Rattle.proc_table.specs.Procs.{process_of}
use Rattle.proc_table.specs.Kills.{is_seen}
use Rattle.proc_table.proofs.KillLemmas.{entries-filtered}
use Rattle.proc_table.proofs.table.ProcTable.slots_seen.Goals as goal

pub returns-clause-processes : goal.returns-clause-processes
returns-clause-processes c =
    ap (filter_map (with_process c.args.self.now)) (c.seen_among.ensures
    ∙ ap (filter (λ slot. holds (is_seen (process_of c.args.who.now)) (process_at c.args.self.now slot))) (c.as_slice.ensures.value ∙ c.slots_by_pid-slots.ensures.slots))
    ∙ entries-filtered (is_seen (process_of c.args.who.now)) c.args.self.now (slots_by_pid (λ p. true) c.args.self.now)
