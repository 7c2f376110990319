use Rattle.std.proofs.Common.{sym, ap, ◌∙◌}
use Rattle.proc_table.specs.Groups.{is_number}
use Rattle.tty_calls.proofs.groups.is_own.Goals as goal

pub returns-in-Some : goal.returns-in-Some
returns-in-Some c = λ pool. ap (is_number _) (sym c.in-Some.is ∙ c.session_at.ensures pool)

pub returns-in-None : goal.returns-in-None
returns-in-None c = λ pool. ap (is_number _) (sym c.in-None.is ∙ c.session_at.ensures pool)
