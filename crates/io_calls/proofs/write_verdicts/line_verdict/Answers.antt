use Rattle.std.proofs.Common.{ℕ, List, refl, sym, ap, ◌∙◌}
use Rattle.std.specs.Prelude.{◌==◌}
use Rattle.line_disc.specs.Device as device
use Rattle.line_disc.specs.Lines.{line_at}
use Rattle.proc_table.specs.Procs.{process_of}
use Rattle.tty_dev.specs.Table.{counts_of, devices}
use Rattle.system_model.specs.Tables.{generations, seen_open, seen_process}
use Rattle.io_calls.proofs.WriteRows.{line_lost, line_held, line_goes, line_waits}
use Rattle.io_calls.proofs.VerdictCases.{goes, holds}
use Rattle.io_calls.proofs.write_verdicts.line_verdict.Goals as goal

pub returns-then-is_zombie : goal.returns-then-is_zombie
returns-then-is_zombie c = λ t slot fd processes lines fit caller.
    line_lost t slot fd c.args.line c.args.bytes.now (seen_open t.nodes (generations (counts_of t.lines)) c.args.file.now)
    (seen_process t.nodes (process_of c.args.who.now)) caller (rw lines (sym (c.is_zombie.ensures t.pool) ∙ c.if-is_zombie.true))

pub returns-then-is_held : goal.returns-then-is_held
returns-then-is_held c = λ t slot fd processes lines fit caller.
    line_held t slot fd c.args.line c.args.bytes.now (seen_open t.nodes (generations (counts_of t.lines)) c.args.file.now)
    (seen_process t.nodes (process_of c.args.who.now)) _ caller (rw lines (sym (c.is_zombie.ensures t.pool) ∙ c.if-is_zombie.false))
    (c.tostop_verdict-verdict.ensures t processes lines fit)
    (holds (seen_process t.nodes (process_of c.args.who.now)) c.tostop_verdict-verdict.result (sym c.is_held.ensures ∙ c.if-is_held.true))

pub returns-then-not-puts_none : goal.returns-then-not-puts_none
returns-then-not-puts_none c = λ t slot fd processes lines fit caller.
    line_goes t slot fd c.args.line c.args.bytes.now (seen_open t.nodes (generations (counts_of t.lines)) c.args.file.now)
    (seen_process t.nodes (process_of c.args.who.now)) caller (rw lines (sym (c.is_zombie.ensures t.pool) ∙ c.if-is_zombie.false))
    (sym (c.tostop_verdict-verdict.ensures t processes lines fit)
    ∙ goes (seen_process t.nodes (process_of c.args.who.now)) c.tostop_verdict-verdict.result (sym c.is_held.ensures ∙ c.if-is_held.false))
    (ap (λ (bs : List ℕ). device.put_count (line_at (devices t.pool t.lines) c.args.line) bs == 0) (sym c.as_slice.ensures.bytes)
    ∙ rw lines (sym (c.puts_none.ensures t.pool) ∙ c.if-not-puts_none.true))

pub returns : goal.returns
returns c = λ t slot fd processes lines fit caller.
    line_waits t slot fd c.args.line c.args.bytes.now (seen_open t.nodes (generations (counts_of t.lines)) c.args.file.now)
    (seen_process t.nodes (process_of c.args.who.now)) _ caller (rw lines (sym (c.is_zombie.ensures t.pool) ∙ c.if-is_zombie.false))
    (sym (c.tostop_verdict-verdict.ensures t processes lines fit)
    ∙ goes (seen_process t.nodes (process_of c.args.who.now)) c.tostop_verdict-verdict.result (sym c.is_held.ensures ∙ c.if-is_held.false))
    (ap (λ (bs : List ℕ). device.put_count (line_at (devices t.pool t.lines) c.args.line) bs == 0) (sym c.as_slice.ensures.bytes)
    ∙ rw lines (sym (c.puts_none.ensures t.pool) ∙ c.if-not-puts_none.false))
    (c.wait_verdict.ensures t (seen_open t.nodes (generations (counts_of t.lines)) c.args.file.now).file refl)
