use Rattle.std.proofs.Common.{sym, ap, ◌∙◌}
use Rattle.proc_table.specs.Processes.{running_at}
use Rattle.proc_table.specs.Procs.{process_of}
use Rattle.system_model.specs.Looks.{caller_of}
use Rattle.system_model.specs.Tables.{seen_process, view_of}
use Rattle.system_model.specs.Verdicts.{check_of}
use Rattle.system_model.proofs.SeenProcesses.{caller_seen}
use Rattle.tty_calls.proofs.ChangeRows.{change_zombie, change_background}
use Rattle.tty_calls.proofs.changes.change_verdict.Goals as goal

pub returns-then-is_zombie : goal.returns-then-is_zombie
returns-then-is_zombie c = λ t processes lines.
    change_zombie t c.args.slot c.args.line (rw lines (sym (c.is_zombie.ensures t.pool) ∙ c.if-is_zombie.true))

pub returns : goal.returns
returns c = λ t processes lines.
    (let caller =
    caller_seen t c.args.slot (process_of c.caller.result.now) (ap (λ ps. running_at ps c.args.slot) processes ∙ c.caller.ensures) in
    change_background t c.args.slot c.args.line (check_of (caller_of (view_of t) c.args.slot) c.background_write.result)
    (rw lines (sym (c.is_zombie.ensures t.pool) ∙ c.if-is_zombie.false)) (seen_process t.nodes (process_of c.caller.result.now)) caller
    (ap (λ who. check_of who c.background_write.result) caller ∙ c.background_write.ensures t processes lines))
