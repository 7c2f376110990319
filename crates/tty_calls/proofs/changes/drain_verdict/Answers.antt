use Rattle.std.proofs.Common.{◌≡◌, Some, [], sym, ap, subst, ◌∙◌}
use Rattle.call_words.specs.declared.event.Reason.TheVariants as reason
use Rattle.proc_table.specs.Processes.{running_at}
use Rattle.proc_table.specs.Procs.{process_of}
use Rattle.system_model.specs.Looks.{caller_of}
use Rattle.system_model.specs.Rows.{sleep_of}
use Rattle.system_model.specs.Tables.{view_of}
use Rattle.system_model.specs.TtyCalls.{tcdrain_on}
use Rattle.system_model.specs.Verdicts.{check_of}
use Rattle.system_model.proofs.SeenProcesses.{caller_seen}
use Rattle.tty_calls.proofs.LineRows.{tty_first_denied, tty_first, goes, holds}
use Rattle.tty_calls.proofs.ChangeRows.{drain_held, drain_goes, drain_sleeps}
use Rattle.tty_calls.proofs.changes.drain_verdict.Goals as goal

pub returns-in-Err : goal.returns-in-Err
returns-in-Err c = λ t descriptors processes lines.
    tty_first_denied (view_of t) c.args.slot c.args.fd (tcdrain_on (view_of t) c.args.slot) c.in-Err.rule (c.in-Err.ensures.line t descriptors lines)

pub returns-then-is_held : goal.returns-then-is_held
returns-then-is_held c = λ t descriptors processes lines.
    drain_held t c.args.slot c.in-Ok.line (check_of (caller_of (view_of t) c.args.slot) c.change_verdict-verdict.result) (c.change_verdict-verdict.ensures t processes lines)
    (holds (caller_of (view_of t) c.args.slot) c.change_verdict-verdict.result (sym c.is_held.ensures ∙ c.if-is_held.true))
    ∙ sym (tty_first (view_of t) c.args.slot c.args.fd c.in-Ok.line (tcdrain_on (view_of t) c.args.slot) (c.in-Ok.ensures.line t descriptors lines))

pub returns-then-is_drained : goal.returns-then-is_drained
returns-then-is_drained c = λ t descriptors processes lines.
    drain_goes t c.args.slot c.in-Ok.line
    (sym (c.change_verdict-verdict.ensures t processes lines)
    ∙ goes (caller_of (view_of t) c.args.slot) c.change_verdict-verdict.result (sym c.is_held.ensures ∙ c.if-is_held.false))
    (rw lines (sym (c.is_drained.ensures t.pool) ∙ c.if-is_drained.true))
    ∙ sym (tty_first (view_of t) c.args.slot c.args.fd c.in-Ok.line (tcdrain_on (view_of t) c.args.slot) (c.in-Ok.ensures.line t descriptors lines))

pub returns : goal.returns
returns c = λ t descriptors processes lines.
    drain_sleeps t c.args.slot c.in-Ok.line (check_of (caller_of (view_of t) c.args.slot) c.sleep_verdict.result)
    (sym (c.change_verdict-verdict.ensures t processes lines)
    ∙ goes (caller_of (view_of t) c.args.slot) c.change_verdict-verdict.result (sym c.is_held.ensures ∙ c.if-is_held.false))
    (rw lines (sym (c.is_drained.ensures t.pool) ∙ c.if-is_drained.false))
    (subst (λ who. check_of who c.sleep_verdict.result ≡ Some (sleep_of who reason.Drain, []))
    (sym (caller_seen t c.args.slot (process_of c.caller.result.now) (ap (λ ps. running_at ps c.args.slot) processes ∙ c.caller.ensures)))
    (c.sleep_verdict.ensures t))
    ∙ sym (tty_first (view_of t) c.args.slot c.args.fd c.in-Ok.line (tcdrain_on (view_of t) c.args.slot) (c.in-Ok.ensures.line t descriptors lines))
