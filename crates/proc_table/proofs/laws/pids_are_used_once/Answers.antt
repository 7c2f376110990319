use Rattle.proc_table.proofs.PidLemmas.{boot-once, fork-once}
use Rattle.proc_table.proofs.laws.pids_are_used_once.Goals as goal

pub returns-clause-boot : goal.returns-clause-boot
returns-clause-boot c = boot-once

pub returns-clause-fork : goal.returns-clause-fork
returns-clause-fork c = fork-once
