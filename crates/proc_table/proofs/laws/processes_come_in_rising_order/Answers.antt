use Rattle.proc_table.proofs.PidOrderLemmas.{in-order}
use Rattle.proc_table.proofs.laws.processes_come_in_rising_order.Goals as goal

pub returns : goal.returns
returns c = in-order
