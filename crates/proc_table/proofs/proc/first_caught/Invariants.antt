use Rattle.std.proofs.Common.{◌≡◌, drop, find}
use Rattle.proc_table.specs.Processes.{is_caught}
use Rattle.proc_table.specs.Procs.{process_of}
use Rattle.proc_table.proofs.proc.first_caught.Given as goal

-- the first one is among those to come
abbrev pub invariant-loop-sig : goal.invariant-loop-sig
invariant-loop-sig l = find (λ sig. is_caught sig (process_of l.process)) (drop l.sig-index l.signals) ≡ find
    (λ sig. is_caught sig (process_of l.process)) l.signals
