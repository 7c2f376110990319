use Rattle.std.proofs.Common.{Ok, Err, sym, ap, ◌∙◌}
use Rattle.fd_table.specs.Calls.{dup}
use Rattle.io_calls.proofs.DupRows.{dup_does}
use Rattle.io_calls.proofs.dups.do_dup.Goals as goal

pub returns-in-Ok-clause-does : goal.returns-in-Ok-clause-does
returns-in-Ok-clause-does c = λ t descriptors.
    rw (c.number.ensures, c.from.ensures)
    (dup_does t c.args.slot c.args.fd c.dup.new.self (Ok c.in-Ok.number) (rw (← c.in-Ok.is) (c.dup.ensures ∙ ap (λ d. dup d c.args.slot c.args.fd) (sym descriptors))))

pub returns-in-Err-clause-does : goal.returns-in-Err-clause-does
returns-in-Err-clause-does c = λ t descriptors.
    rw c.denied.ensures
    (dup_does t c.args.slot c.args.fd c.dup.new.self (Err c.in-Err.rule) (rw (← c.in-Err.is) (c.dup.ensures ∙ ap (λ d. dup d c.args.slot c.args.fd) (sym descriptors))))
