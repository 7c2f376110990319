use Rattle.std.proofs.Common.{not, ap, ◌∙◌}
use Rattle.line_disc.specs.Echo.{echo}
use Rattle.line_disc.specs.Disc.{DiscState, discipline_of}
use Rattle.line_disc.proofs.DiscLemmas as lemmas
use Rattle.line_disc.proofs.disc.Disc.interrupt.Goals as goal

pub returns-clause-line : goal.returns-clause-line
returns-clause-line c =
    lemmas.interrupts (discipline_of c.args.pool.now c.args.self.now) _ _ c.args.byte (not c.self.inside.termios.flags.noflsh) c.echo-echoed.result.items
    (c.echo-echoed.ensures ∙ ap (λ (s : DiscState). echo s.termios c.args.byte) c.self.view_is)
    (ap (λ (s : DiscState). not s.termios.flags.noflsh) c.self.view_is) (c.flush.ensures.line c.args.pool.now) c.put_echo.ensures.line
