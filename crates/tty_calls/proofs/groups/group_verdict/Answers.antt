use Rattle.std.proofs.Common.{true, false, sym, ap, ◌∙◌}
use Rattle.proc_table.specs.Processes.{running_at}
use Rattle.proc_table.specs.Procs.{process_of}
use Rattle.system_model.specs.Looks.{caller_of}
use Rattle.system_model.specs.Tables.{view_of}
use Rattle.system_model.specs.Verdicts.{check_of}
use Rattle.tty_calls.proofs.LineRows.{goes, holds}
use Rattle.tty_calls.proofs.GroupRows.{front_not_own, front_held, front_by_member, caller_first}
use Rattle.tty_calls.proofs.groups.group_verdict.Goals as goal

pub returns-then-not-is_own : goal.returns-then-not-is_own
returns-then-not-is_own c = λ t processes lines.
    front_not_own t c.args.slot c.args.group c.args.line (process_of c.caller-who.result.now) (ap (λ ps. running_at ps c.args.slot) processes ∙ c.caller-who.ensures)
    (rw lines (sym (c.is_own.ensures t.pool) ∙ c.if-not-is_own.true))

pub returns-then-is_held : goal.returns-then-is_held
returns-then-is_held c = λ t processes lines.
    (let running = ap (λ ps. running_at ps c.args.slot) processes ∙ c.caller-who.ensures in
    front_held t c.args.slot c.args.group c.args.line (process_of c.caller-who.result.now)
    (check_of (caller_of (view_of t) c.args.slot) c.background_write-verdict.result) running (rw lines (sym (c.is_own.ensures t.pool) ∙ c.if-not-is_own.false))
    (caller_first t c.args.slot c.args.line (process_of c.caller-who.result.now) c.background_write-verdict.result running (c.background_write-verdict.ensures t processes lines))
    (holds (caller_of (view_of t) c.args.slot) c.background_write-verdict.result (sym c.is_held.ensures ∙ c.if-is_held.true)))

pub returns-then-not-has_member_in : goal.returns-then-not-has_member_in
returns-then-not-has_member_in c = λ t processes lines.
    (let running = ap (λ ps. running_at ps c.args.slot) processes ∙ c.caller-who.ensures in
    front_by_member t c.args.slot c.args.group c.args.line (process_of c.caller-who.result.now) false running
    (rw lines (sym (c.is_own.ensures t.pool) ∙ c.if-not-is_own.false))
    (sym
    (caller_first t c.args.slot c.args.line (process_of c.caller-who.result.now) c.background_write-verdict.result running (c.background_write-verdict.ensures t processes lines))
    ∙ goes (caller_of (view_of t) c.args.slot) c.background_write-verdict.result (sym c.is_held.ensures ∙ c.if-is_held.false))
    (rw processes (sym c.has_member_in.ensures ∙ c.if-not-has_member_in.true)))

pub returns : goal.returns
returns c = λ t processes lines.
    (let running = ap (λ ps. running_at ps c.args.slot) processes ∙ c.caller-who.ensures in
    front_by_member t c.args.slot c.args.group c.args.line (process_of c.caller-who.result.now) true running
    (rw lines (sym (c.is_own.ensures t.pool) ∙ c.if-not-is_own.false))
    (sym
    (caller_first t c.args.slot c.args.line (process_of c.caller-who.result.now) c.background_write-verdict.result running (c.background_write-verdict.ensures t processes lines))
    ∙ goes (caller_of (view_of t) c.args.slot) c.background_write-verdict.result (sym c.is_held.ensures ∙ c.if-is_held.false))
    (rw processes (sym c.has_member_in.ensures ∙ c.if-not-has_member_in.false)))
