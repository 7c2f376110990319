use Rattle.std.proofs.Common.{sym, ap, ◌∙◌}
use Rattle.proc_table.specs.Processes.{running_at}
use Rattle.proc_table.specs.Procs.{process_of}
use Rattle.system_model.specs.Tables.{view_of}
use Rattle.system_model.specs.TtyCalls.{tcgetpgrp_on}
use Rattle.tty_calls.proofs.LineRows.{tty_denied}
use Rattle.tty_calls.proofs.GroupRows.{group_denied, group_answered}
use Rattle.tty_calls.proofs.groups.do_tcgetpgrp.Goals as goal

pub returns-in-Err : goal.returns-in-Err
returns-in-Err c = record {
  does =
      λ t descriptors processes lines.
      rw c.denied.ensures (tty_denied t c.args.slot c.args.fd (tcgetpgrp_on (view_of t) c.args.slot) c.in-Err.rule (c.in-Err.ensures.line t descriptors lines));
}

pub returns-then-not-is_own : goal.returns-then-not-is_own
returns-then-not-is_own c = record {
  does =
      λ t descriptors processes lines.
      rw c.denied-then-not-is_own.ensures
      (group_denied t c.args.slot c.args.fd c.in-Ok.line (process_of c.caller.result.now) (c.in-Ok.ensures.line t descriptors lines)
      (ap (λ ps. running_at ps c.args.slot) processes ∙ c.caller.ensures) (rw lines (sym (c.is_own.ensures t.pool) ∙ c.if-not-is_own.true)));
}

pub returns : goal.returns
returns c = record {
  does =
      λ t descriptors processes lines.
      rw c.number.ensures
      (group_answered t c.args.slot c.args.fd c.in-Ok.line (process_of c.caller.result.now) _ (c.in-Ok.ensures.line t descriptors lines)
      (ap (λ ps. running_at ps c.args.slot) processes ∙ c.caller.ensures) (rw lines (sym (c.is_own.ensures t.pool) ∙ c.if-not-is_own.false))
      (rw lines (c.foreground_at.ensures t.pool)));
}
