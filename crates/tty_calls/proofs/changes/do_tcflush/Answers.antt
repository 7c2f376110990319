use Rattle.std.proofs.Common.{ℕ, [], sym, ap₂, ◌∙◌}
use Rattle.line_disc.specs.Device.{Device, flush}
use Rattle.line_disc.specs.Lines.{change_line}
use Rattle.tty_dev.specs.Table.{devices}
use Rattle.system_model.specs.Looks.{caller_of}
use Rattle.system_model.specs.Tables.{view_of}
use Rattle.system_model.specs.TtyCalls.{tcflush_on}
use Rattle.system_model.proofs.SeenLines.{lines_still}
use Rattle.tty_calls.proofs.LineRows.{tty_denied, tty_does, goes}
use Rattle.tty_calls.proofs.ChangeRows.{flush_done}
use Rattle.tty_calls.proofs.changes.do_tcflush.Goals as goal

pub returns-in-Err-clause-does : goal.returns-in-Err-clause-does
returns-in-Err-clause-does c = λ t descriptors processes lines ending.
    rw (c.denied.ensures, ← processes, ← lines, ← ending)
    (tty_denied t c.args.slot c.args.fd (tcflush_on (view_of t) c.args.slot c.args.which) c.in-Err.rule (c.in-Err.ensures.line t descriptors lines))

pub returns-then-is_held-clause-does : goal.returns-then-is_held-clause-does
returns-then-is_held-clause-does c = λ t descriptors processes lines ending.
    rw (← lines)
    (tty_does (view_of t) _ _ c.args.slot c.args.fd c.in-Ok.line (tcflush_on (view_of t) c.args.slot c.args.which) (c.in-Ok.ensures.line t descriptors lines)
    (c.settle.ensures.does t (tcflush_on (view_of t) c.args.slot c.args.which c.in-Ok.line) processes ending (c.change_verdict-verdict.ensures t processes lines)))

pub returns-clause-lines : goal.returns-clause-lines
returns-clause-lines c =
    lines_still c.args.fds.now c.args.lines.now c.flush.new.lines c.flush.ensures.counts (c.flush.ensures.keeps (record { blocks = []; free = [] })).boots
    c.requires.lines

pub returns-clause-does : goal.returns-clause-does
returns-clause-does c = λ t descriptors processes lines ending.
    rw (c.nothing.ensures, ← processes, ← ending)
    (flush_done t c.flush.new.lines c.args.slot c.args.fd c.in-Ok.line c.args.which (c.in-Ok.ensures.line t descriptors lines)
    (sym (c.change_verdict-verdict.ensures t processes lines)
    ∙ goes (caller_of (view_of t) c.args.slot) c.change_verdict-verdict.result (sym c.is_held.ensures ∙ c.if-is_held.false))
    (rw lines
    (c.flush.ensures.devices t.pool
    ∙ ap₂ (λ i o. change_line (λ (d : Device ℕ). flush d i o) (devices t.pool c.args.lines.now) c.in-Ok.line) c.is_input.ensures c.is_output.ensures))
    (rw lines c.flush.ensures.counts))
