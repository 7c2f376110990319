use Rattle.std.proofs.Common.{sym, ap, ◌∙◌}
use Rattle.std.specs.Prelude.{is_some}
use Rattle.fd_table.specs.Shared.{file_at}
use Rattle.io_calls.proofs.CloseRows.{close_refused, close_answered}
use Rattle.io_calls.proofs.closes.do_close.Goals as goal

pub returns-then-not-is_open-clause-does : goal.returns-then-not-is_open-clause-does
returns-then-not-is_open-clause-does c = λ t descriptors pipes pool lines.
    rw (c.denied.ensures, ← descriptors, ← pipes, ← pool, ← lines)
    (close_refused t c.args.slot c.args.fd (ap (λ d. is_some (file_at d c.args.slot c.args.fd)) descriptors ∙ sym c.is_open.ensures ∙ c.if-not-is_open.true))

pub returns-clause-does : goal.returns-clause-does
returns-clause-does c = λ t descriptors pipes pool lines.
    rw c.nothing.ensures
    (close_answered t _ c.args.slot c.args.fd (ap (λ d. is_some (file_at d c.args.slot c.args.fd)) descriptors ∙ sym c.is_open.ensures ∙ c.if-not-is_open.false)
    (c.close_fd.ensures.does t descriptors pipes pool lines))
