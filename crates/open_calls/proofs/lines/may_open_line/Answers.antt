use Rattle.std.proofs.Common.{true, false, refl, sym, ap, ◌∙◌}
use Rattle.sys_types.specs.declared.rules.Rule.TheVariants as rule
use Rattle.proc_table.specs.Processes.{running_at}
use Rattle.proc_table.specs.Procs.{process_of}
use Rattle.system_model.specs.OpenCalls.{tty_checks}
use Rattle.system_model.specs.Tables.{view_of}
use Rattle.open_calls.proofs.LineLooks.{look_seen, line_checks, line_sleeps, refuses_first}
use Rattle.open_calls.proofs.lines.may_open_line.Goals as goal

pub returns-then-has_ended-clause-checks : goal.returns-then-has_ended-clause-checks
returns-then-has_ended-clause-checks c = λ t processes pool lines fit blocks.
    refuses_first (view_of t) c.args.slot (tty_checks (view_of t) c.args.slot c.args.flags c.args.line) rule.Ended
    (line_checks (view_of t) c.args.slot c.args.flags c.args.line true _ _ _
    (look_seen t c.args.lines.now c.args.line (λ d. d.ended) true lines (sym (c.has_ended.ensures t.pool) ∙ c.if-has_ended.true)) refl refl refl)

pub returns-then-is_zombie-clause-checks : goal.returns-then-is_zombie-clause-checks
returns-then-is_zombie-clause-checks c = λ t processes pool lines fit blocks.
    refuses_first (view_of t) c.args.slot (tty_checks (view_of t) c.args.slot c.args.flags c.args.line) rule.Zombie
    (line_checks (view_of t) c.args.slot c.args.flags c.args.line false true _ _
    (look_seen t c.args.lines.now c.args.line (λ d. d.ended) false lines (sym (c.has_ended.ensures t.pool) ∙ c.if-has_ended.false))
    (look_seen t c.args.lines.now c.args.line (λ d. d.zombie) true lines (sym (c.is_zombie.ensures t.pool) ∙ c.if-is_zombie.true)) refl refl)

pub returns-then-waits_for_carrier-clause-checks : goal.returns-then-waits_for_carrier-clause-checks
returns-then-waits_for_carrier-clause-checks c = λ t processes pool lines fit blocks.
    line_sleeps t c.args.slot c.args.flags c.args.line (process_of c.caller.result.now) c.sleep_verdict.result
    (ap (λ ps. running_at ps c.args.slot) processes ∙ c.caller.ensures)
    (look_seen t c.args.lines.now c.args.line (λ d. d.ended) false lines (sym (c.has_ended.ensures t.pool) ∙ c.if-has_ended.false))
    (look_seen t c.args.lines.now c.args.line (λ d. d.zombie) false lines (sym (c.is_zombie.ensures t.pool) ∙ c.if-is_zombie.false))
    (c.waits_for_carrier.ensures t lines fit ∙ c.if-waits_for_carrier.true)
    (c.sleep_verdict.ensures t)

pub returns-then-lacks_blocks-clause-checks : goal.returns-then-lacks_blocks-clause-checks
returns-then-lacks_blocks-clause-checks c = λ t processes pool lines fit blocks.
    refuses_first (view_of t) c.args.slot (tty_checks (view_of t) c.args.slot c.args.flags c.args.line) rule.Pool
    (line_checks (view_of t) c.args.slot c.args.flags c.args.line false false false true
    (look_seen t c.args.lines.now c.args.line (λ d. d.ended) false lines (sym (c.has_ended.ensures t.pool) ∙ c.if-has_ended.false))
    (look_seen t c.args.lines.now c.args.line (λ d. d.zombie) false lines (sym (c.is_zombie.ensures t.pool) ∙ c.if-is_zombie.false))
    (c.waits_for_carrier.ensures t lines fit ∙ c.if-waits_for_carrier.false)
    (c.lacks_blocks.ensures.lacks t pool lines blocks ∙ c.if-lacks_blocks.true))

pub returns-clause-checks : goal.returns-clause-checks
returns-clause-checks c = λ t processes pool lines fit blocks.
    line_checks (view_of t) c.args.slot c.args.flags c.args.line false false false false
    (look_seen t c.args.lines.now c.args.line (λ d. d.ended) false lines (sym (c.has_ended.ensures t.pool) ∙ c.if-has_ended.false))
    (look_seen t c.args.lines.now c.args.line (λ d. d.zombie) false lines (sym (c.is_zombie.ensures t.pool) ∙ c.if-is_zombie.false))
    (c.waits_for_carrier.ensures t lines fit ∙ c.if-waits_for_carrier.false)
    (c.lacks_blocks.ensures.lacks t pool lines blocks ∙ c.if-lacks_blocks.false)
