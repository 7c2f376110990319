use Rattle.std.proofs.Common.{refl, sym, ◌∙◌}
use Rattle.proc_table.specs.Procs.{process_of}
use Rattle.tty_dev.specs.Table.{counts_of}
use Rattle.system_model.specs.Tables.{generations, seen_open, seen_process}
use Rattle.io_calls.proofs.ReadRows.{line_lost, line_held, line_goes, line_waits}
use Rattle.io_calls.proofs.VerdictCases.{goes, holds}
use Rattle.io_calls.proofs.read_verdicts.line_verdict.Goals as goal

pub returns-then-is_zombie : goal.returns-then-is_zombie
returns-then-is_zombie c = λ t slot fd processes lines caller.
    line_lost t slot fd c.args.max c.args.line (seen_open t.nodes (generations (counts_of t.lines)) c.args.file.now)
    (seen_process t.nodes (process_of c.args.who.now)) caller (rw lines (sym (c.is_zombie.ensures t.pool) ∙ c.if-is_zombie.true))

pub returns-then-is_held : goal.returns-then-is_held
returns-then-is_held c = λ t slot fd processes lines caller.
    line_held t slot fd c.args.max c.args.line (seen_open t.nodes (generations (counts_of t.lines)) c.args.file.now)
    (seen_process t.nodes (process_of c.args.who.now)) _ caller (rw lines (sym (c.is_zombie.ensures t.pool) ∙ c.if-is_zombie.false))
    (c.background_read-verdict.ensures t processes lines)
    (holds (seen_process t.nodes (process_of c.args.who.now)) c.background_read-verdict.result (sym c.is_held.ensures ∙ c.if-is_held.true))

pub returns-then-not-waits : goal.returns-then-not-waits
returns-then-not-waits c = λ t slot fd processes lines caller.
    line_goes t slot fd c.args.max c.args.line (seen_open t.nodes (generations (counts_of t.lines)) c.args.file.now)
    (seen_process t.nodes (process_of c.args.who.now)) caller (rw lines (sym (c.is_zombie.ensures t.pool) ∙ c.if-is_zombie.false))
    (sym (c.background_read-verdict.ensures t processes lines)
    ∙ goes (seen_process t.nodes (process_of c.args.who.now)) c.background_read-verdict.result (sym c.is_held.ensures ∙ c.if-is_held.false))
    (rw lines (sym (c.waits.ensures t.pool) ∙ c.if-not-waits.true))

pub returns : goal.returns
returns c = λ t slot fd processes lines caller.
    line_waits t slot fd c.args.max c.args.line (seen_open t.nodes (generations (counts_of t.lines)) c.args.file.now)
    (seen_process t.nodes (process_of c.args.who.now)) _ caller (rw lines (sym (c.is_zombie.ensures t.pool) ∙ c.if-is_zombie.false))
    (sym (c.background_read-verdict.ensures t processes lines)
    ∙ goes (seen_process t.nodes (process_of c.args.who.now)) c.background_read-verdict.result (sym c.is_held.ensures ∙ c.if-is_held.false))
    (rw lines (sym (c.waits.ensures t.pool) ∙ c.if-not-waits.false))
    (c.wait_verdict.ensures t (seen_open t.nodes (generations (counts_of t.lines)) c.args.file.now).file refl)
