use Rattle.std.proofs.Common.{true, false, refl, sym, ◌∙◌}
use Rattle.proc_table.specs.Procs.{process_of}
use Rattle.proc_table.specs.Processes.{is_orphaned}
use Rattle.system_model.proofs.BackgroundRows.{write_from_background}
use Rattle.system_model.proofs.background.background_write.Goals as goal

pub returns-then-not-is_stopped_by_write : goal.returns-then-not-is_stopped_by_write
returns-then-not-is_stopped_by_write c = λ t processes lines.
    sym
    (write_from_background t c.args.line (process_of c.args.who.now) false (is_orphaned t.processes (process_of c.args.who.now).group)
    (rw (lines, ← c.session_at.ensures t.pool, ← c.foreground_at.ensures t.pool) (sym c.is_stopped_by_write.ensures ∙ c.if-not-is_stopped_by_write.true)) refl)

pub returns-then-orphaned : goal.returns-then-orphaned
returns-then-orphaned c = λ t processes lines.
    sym
    (write_from_background t c.args.line (process_of c.args.who.now) true true
    (rw (lines, ← c.session_at.ensures t.pool, ← c.foreground_at.ensures t.pool) (sym c.is_stopped_by_write.ensures ∙ c.if-not-is_stopped_by_write.false))
    (rw processes (sym c.orphaned.ensures ∙ c.if-orphaned.true)))

pub returns : goal.returns
returns c = λ t processes lines.
    c.stop_by.ensures t
    ∙ sym
    (write_from_background t c.args.line (process_of c.args.who.now) true false
    (rw (lines, ← c.session_at.ensures t.pool, ← c.foreground_at.ensures t.pool) (sym c.is_stopped_by_write.ensures ∙ c.if-not-is_stopped_by_write.false))
    (rw processes (sym c.orphaned.ensures ∙ c.if-orphaned.false)))
