use Rattle.fd_table.proofs.TableLemmas.{kept-nothing, counted-nothing}
use Rattle.fd_table.proofs.table.FdTable.new.Goals as goal

pub invariant_of-result : goal.invariant_of-result
invariant_of-result c = rw (c.in_ok-new.ensures, c.in_ok-new-2.ensures, c.in_ok-new-3.ensures) (kept-nothing, counted-nothing)
