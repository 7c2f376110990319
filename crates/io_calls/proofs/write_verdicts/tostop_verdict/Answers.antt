use Rattle.proc_table.specs.Procs.{process_of}
use Rattle.system_model.specs.Tables.{seen_process}
use Rattle.io_calls.proofs.WriteRows.{put_free, put_looks}
use Rattle.io_calls.proofs.write_verdicts.tostop_verdict.Goals as goal

pub returns-then-not-termios_at : goal.returns-then-not-termios_at
returns-then-not-termios_at c = λ t processes lines fit.
    put_free t c.args.line (seen_process t.nodes (process_of c.args.who.now)) c.termios_at.result c.requires.line (rw lines fit)
    (rw lines (c.termios_at.ensures t.pool)) c.if-not-termios_at.true

pub returns : goal.returns
returns c = λ t processes lines fit.
    put_looks t c.args.line (seen_process t.nodes (process_of c.args.who.now)) c.termios_at.result _ c.requires.line (rw lines fit)
    (rw lines (c.termios_at.ensures t.pool)) c.if-not-termios_at.false (c.background_write.ensures t processes lines)
