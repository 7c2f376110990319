use Rattle.std.proofs.Common.{sym, ap, ◌∙◌}
use Rattle.fd_table.specs.declared.open.Target.{Target}
use Rattle.tty_dev.specs.Table.{counts_of}
use Rattle.system_model.specs.IoCalls.{read_target}
use Rattle.system_model.specs.Rows.{first}
use Rattle.system_model.specs.Tables.{generations, seen_open, seen_target, view_of}
use Rattle.io_calls.proofs.read_verdicts.target_verdict.Goals as goal

pub returns-in-PipeRead : goal.returns-in-PipeRead
returns-in-PipeRead c = λ t slot fd descriptors pipes processes lines caller.
    c.pipe_verdict.ensures t slot fd c.args.max descriptors pipes caller
    ∙ ap (λ (x : Target).
    first
    (read_target (view_of t) slot fd c.args.max (seen_open t.nodes (generations (counts_of t.lines)) c.args.file.now) (seen_target t.nodes x)).checks)
    (sym c.in-PipeRead.is)

pub returns-in-Line : goal.returns-in-Line
returns-in-Line c = λ t slot fd descriptors pipes processes lines caller.
    c.line_verdict.ensures t slot fd processes lines caller
    ∙ ap (λ (x : Target).
    first
    (read_target (view_of t) slot fd c.args.max (seen_open t.nodes (generations (counts_of t.lines)) c.args.file.now) (seen_target t.nodes x)).checks)
    (sym c.in-Line.is)
