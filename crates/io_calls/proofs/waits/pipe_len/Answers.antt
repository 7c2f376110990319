use Rattle.std.proofs.Common.{length, sym, ap, ◌∙◌}
use Rattle.std.specs.Prelude.{option_copied}
use Rattle.pipe_core.specs.Pipes.{contents_at}
use Rattle.io_calls.proofs.PipeMoves.{pipe_held, pipe_absent}
use Rattle.io_calls.proofs.waits.pipe_len.Goals as goal

pub returns-in-Some : goal.returns-in-Some
returns-in-Some c = λ t pipes.
    c.len.ensures t.pool
    ∙ ap length
    (sym
    (pipe_held t c.args.pipe c.in-Some.held.now
    (ap (λ p. contents_at p c.args.pipe) pipes ∙ sym c.get.ensures ∙ ap option_copied c.in-Some.is)))

pub returns-in-None : goal.returns-in-None
returns-in-None c = λ t pipes.
    ap length (sym (pipe_absent t c.args.pipe (ap (λ p. contents_at p c.args.pipe) pipes ∙ sym c.get.ensures ∙ ap option_copied c.in-None.is)))
