use Rattle.std.proofs.Common.{[], sym, ◌∙◌}
use Rattle.system_model.specs.Looks.{caller_of}
use Rattle.system_model.specs.Tables.{view_of}
use Rattle.system_model.specs.TtyCalls.{tcsetpgrp_on}
use Rattle.system_model.proofs.SeenLines.{lines_still}
use Rattle.tty_calls.proofs.LineRows.{tty_denied, tty_does, goes}
use Rattle.tty_calls.proofs.GroupRows.{front_done}
use Rattle.tty_calls.proofs.groups.do_tcsetpgrp.Goals as goal

pub returns-in-Err-clause-does : goal.returns-in-Err-clause-does
returns-in-Err-clause-does c = λ t descriptors processes lines ending.
    rw (c.denied.ensures, ← processes, ← lines, ← ending)
    (tty_denied t c.args.slot c.args.fd (tcsetpgrp_on (view_of t) c.args.slot c.args.group) c.in-Err.rule (c.in-Err.ensures.line t descriptors lines))

pub returns-then-is_held-clause-does : goal.returns-then-is_held-clause-does
returns-then-is_held-clause-does c = λ t descriptors processes lines ending.
    rw (← lines)
    (tty_does (view_of t) _ _ c.args.slot c.args.fd c.in-Ok.line (tcsetpgrp_on (view_of t) c.args.slot c.args.group) (c.in-Ok.ensures.line t descriptors lines)
    (c.settle.ensures.does t (tcsetpgrp_on (view_of t) c.args.slot c.args.group c.in-Ok.line) processes ending (c.group_verdict-verdict.ensures t processes lines)))

pub returns-clause-lines : goal.returns-clause-lines
returns-clause-lines c =
    lines_still c.args.fds.now c.args.lines.now c.set_foreground.new.lines c.set_foreground.ensures.counts (c.set_foreground.ensures.keeps (record { blocks = []; free = [] })).boots
    c.requires.lines

pub returns-clause-does : goal.returns-clause-does
returns-clause-does c = λ t descriptors processes lines ending.
    rw (c.nothing.ensures, ← processes, ← ending)
    (front_done t c.set_foreground.new.lines c.args.slot c.args.fd c.in-Ok.line c.args.group (c.in-Ok.ensures.line t descriptors lines)
    (sym (c.group_verdict-verdict.ensures t processes lines)
    ∙ goes (caller_of (view_of t) c.args.slot) c.group_verdict-verdict.result (sym c.is_held.ensures ∙ c.if-is_held.false))
    (rw lines (c.set_foreground.ensures.devices t.pool))
    (rw lines c.set_foreground.ensures.counts))
