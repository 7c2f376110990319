use Rattle.std.proofs.Common.{refl, sym, ap, ◌∙◌}
use Rattle.open_calls.proofs.LineLooks.{waits_seen, local_line, by_carrier}
use Rattle.open_calls.proofs.lines.waits_for_carrier.Goals as goal

pub returns-then-termios_at : goal.returns-then-termios_at
returns-then-termios_at c = λ t lines fit.
    waits_seen t c.args.flags c.args.line c.requires.line (rw lines fit)
    ∙ local_line c.args.flags.nonblock _ _ c.if-flags.false
    (rw lines (ap (λ settings. settings.flags.clocal) (sym (c.termios_at.ensures t.pool)) ∙ c.if-termios_at.true))

pub returns : goal.returns
returns c = λ t lines fit.
    waits_seen t c.args.flags c.args.line c.requires.line (rw lines fit)
    ∙ by_carrier c.args.flags.nonblock _ _ c.if-flags.false
    (rw lines (ap (λ settings. settings.flags.clocal) (sym (c.termios_at.ensures t.pool)) ∙ c.if-termios_at.false))
    ∙ rw (lines, c.has_carrier.ensures t.pool) refl
