use Rattle.std.proofs.Common.{[], sym, ◌∙◌}
use Rattle.tty_dev.specs.Table.{lines_held}
use Rattle.std.proofs.lemmas.List.{append-nil}
use Rattle.system_model.specs.Looks.{caller_of}
use Rattle.system_model.specs.Tables.{view_of}
use Rattle.system_model.specs.TtyCalls.{tcsetattr_on}
use Rattle.system_model.proofs.BlockLemmas.{lines_fit, pipes_stay}
use Rattle.tty_calls.proofs.LineRows.{tty_denied, tty_does, goes}
use Rattle.tty_calls.proofs.RetuneRows.{retune_done}
use Rattle.tty_calls.proofs.settings.do_tcsetattr.Goals as goal

pub returns-in-Err-clause-does : goal.returns-in-Err-clause-does
returns-in-Err-clause-does c = λ t descriptors processes pool lines ending fit.
    rw (c.denied.ensures, ← processes, ← pool, ← lines, ← ending)
    (tty_denied t c.args.slot c.args.fd (tcsetattr_on (view_of t) c.args.slot c.args.when c.args.termios.now) c.in-Err.rule
    (c.in-Err.ensures.line t descriptors lines))

pub returns-then-is_held-clause-does : goal.returns-then-is_held-clause-does
returns-then-is_held-clause-does c = λ t descriptors processes pool lines ending fit.
    rw (← pool, ← lines)
    (tty_does (view_of t) _ _ c.args.slot c.args.fd c.in-Ok.line (tcsetattr_on (view_of t) c.args.slot c.args.when c.args.termios.now)
    (c.in-Ok.ensures.line t descriptors lines)
    (c.settle.ensures.does t (tcsetattr_on (view_of t) c.args.slot c.args.when c.args.termios.now c.in-Ok.line) processes ending
    (c.settings_verdict-verdict.ensures t c.args.when processes lines)))

pub retune-requires-clause-of_pool : goal.retune-requires-clause-of_pool
retune-requires-clause-of_pool c =
    rw (← append-nil (lines_held c.flush_input.new.lines))
    ((c.flush_input.ensures.keeps c.args.pool.now).others.of_pool [] (rw (append-nil (lines_held c.args.lines.now)) c.requires.of_pool))

pub returns-clause-blocks : goal.returns-clause-blocks
returns-clause-blocks c = λ pipes fit.
    lines_fit c.args.pool.now _ pipes c.flush_input.new.lines _
    (lines_fit c.args.pool.now c.args.pool.now pipes c.args.lines.now c.flush_input.new.lines fit (c.flush_input.ensures.keeps c.args.pool.now))
    c.retune.ensures.keeps

pub returns-clause-does : goal.returns-clause-does
returns-clause-does c = λ t descriptors processes pool lines ending fit.
    rw (c.nothing.ensures, ← processes, ← ending)
    (retune_done t c.retune.new.pool c.flush_input.new.lines c.retune.new.lines c.args.slot c.args.fd c.in-Ok.line c.args.when c.args.termios.now
    (c.in-Ok.ensures.line t descriptors lines)
    (sym (c.settings_verdict-verdict.ensures t c.args.when processes lines)
    ∙ goes (caller_of (view_of t) c.args.slot) c.settings_verdict-verdict.result (sym c.is_held.ensures ∙ c.if-is_held.false))
    (rw lines (c.flush_input.ensures.devices t.pool)) (rw lines c.flush_input.ensures.counts)
    (rw pool c.retune.ensures.devices) c.retune.ensures.counts
    (rw pool
    (pipes_stay c.args.pool.now _ t.pipes c.flush_input.new.lines _
    (lines_fit c.args.pool.now c.args.pool.now t.pipes c.args.lines.now c.flush_input.new.lines fit (c.flush_input.ensures.keeps c.args.pool.now))
    c.retune.ensures.keeps)))
