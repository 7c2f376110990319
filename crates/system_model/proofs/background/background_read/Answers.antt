use Rattle.std.proofs.Common.{true, false, refl, sym, ◌∙◌}
use Rattle.proc_table.specs.Procs.{process_of}
use Rattle.proc_table.specs.Background.{may_not_stop}
use Rattle.system_model.proofs.BackgroundRows.{read_from_background}
use Rattle.system_model.proofs.background.background_read.Goals as goal

pub returns-then-not-is_background : goal.returns-then-not-is_background
returns-then-not-is_background c = λ t processes lines.
    sym
    (read_from_background t c.args.line (process_of c.args.who.now) false (may_not_stop t.processes (process_of c.args.who.now))
    (rw (lines, ← c.session_at.ensures t.pool, ← c.foreground_at.ensures t.pool) (sym c.is_background.ensures ∙ c.if-not-is_background.true)) refl)

pub returns-then-may_not_stop : goal.returns-then-may_not_stop
returns-then-may_not_stop c = λ t processes lines.
    sym
    (read_from_background t c.args.line (process_of c.args.who.now) true true
    (rw (lines, ← c.session_at.ensures t.pool, ← c.foreground_at.ensures t.pool) (sym c.is_background.ensures ∙ c.if-not-is_background.false))
    (rw processes (sym c.may_not_stop.ensures ∙ c.if-may_not_stop.true)))

pub returns : goal.returns
returns c = λ t processes lines.
    c.stop_by.ensures t
    ∙ sym
    (read_from_background t c.args.line (process_of c.args.who.now) true false
    (rw (lines, ← c.session_at.ensures t.pool, ← c.foreground_at.ensures t.pool) (sym c.is_background.ensures ∙ c.if-not-is_background.false))
    (rw processes (sym c.may_not_stop.ensures ∙ c.if-may_not_stop.false)))
